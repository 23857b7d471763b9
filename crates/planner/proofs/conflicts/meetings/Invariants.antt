-- Of the loop of `planner::conflicts::meetings`: the words of the transitions passed are their meeting modes.
use Rattle.std.proofs.Common.{◌≡◌, ℕ, ◌≤◌, ◌<◌, length, get_or}
use Rattle.meaning.specs.Sheet.{t_of, meeting}
use Rattle.planner.proofs.conflicts.meetings.Given as goal

abbrev pub invariant-loop-t : goal.invariant-loop-t
invariant-loop-t l = (t_of l.tree.sheet.now ≤ 64) × (length l.r ≡ 64) × ((u : ℕ) → u < l.t → get_or l.r u 0 ≡ meeting l.tree.sheet.now u)
