-- Of the loop of `planner::next::join_next`: the words of the transitions passed are joined, the others are as they were.
use Rattle.std.proofs.Common.{◌≡◌, ℕ, ◌≤◌, get_or}
use Rattle.meaning.specs.Sheet.{t_of}
use Rattle.reaction.specs.Plan.{next_of}
use Rattle.planner.specs.Parts.{Words}
use Rattle.planner.proofs.next.join_next.Given as goal

abbrev pub invariant-loop-t : goal.invariant-loop-t
invariant-loop-t l =
    (t_of l.sheet ≤ 64) × Words l.next l.t (next_of l.sheet) × ((u : ℕ) → l.t ≤ u → get_or l.next u 0 ≡ get_or l.fn.next u 0)
