-- Of the loop of `planner::looks::looks_of`: the words are what the terms passed are about.
use Rattle.std.proofs.Common.{◌+◌, ◌*◌, ◌≤◌, length}
use Rattle.planner.specs.Looks.{LooksTo}
use Rattle.planner.proofs.looks.looks_of.Given as goal

abbrev pub invariant-loop-j : goal.invariant-loop-j
invariant-loop-j l = (l.at + 2 * l.j-end ≤ length l.sheet) × LooksTo l.sheet l.t l.j l.events l.entry l.exit l.taken
