-- Of the loop of `planner::conflicts::put_conflicts`: both words of the transitions passed are stored.
use Rattle.std.proofs.Common.{ℕ, ◌≤◌, ◌<◌, get_or}
use Rattle.meaning.specs.Sheet.{t_of}
use Rattle.reaction.specs.Plan.{conflicts_of, yielders_of}
use Rattle.planner.specs.Parts.{Words}
use Rattle.planner.proofs.conflicts.put_conflicts.Given as goal

abbrev pub invariant-loop-t : goal.invariant-loop-t
invariant-loop-t l =
    (t_of l.sheet ≤ 64)
    × ((u : ℕ) → u < t_of l.sheet → get_or l.meets u 0 < 32)
    × Words l.conflicts l.t (conflicts_of l.sheet)
    × Words l.yielders l.t (yielders_of l.sheet)
