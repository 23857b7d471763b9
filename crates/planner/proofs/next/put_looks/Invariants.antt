-- Of the loop of `planner::next::put_looks`: the words have what the transitions passed are about.
use Rattle.std.proofs.Common.{ℕ, ◌≤◌, ◌<◌}
use Rattle.meaning.specs.Sheet.{t_of, source}
use Rattle.planner.specs.Looks.{LookedTo}
use Rattle.planner.proofs.next.put_looks.Given as goal

abbrev pub invariant-loop-t : goal.invariant-loop-t
invariant-loop-t l =
    (t_of l.sheet ≤ 64)
    × ((u : ℕ) → u < t_of l.sheet → source l.sheet u < 32)
    × LookedTo l.sheet l.t l.named l.fn.entry l.entry l.fn.exit l.exit l.fn.next l.next l.all
