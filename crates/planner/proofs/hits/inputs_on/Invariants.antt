-- Of the loop of `planner::hits::inputs_on`: on each input set, what was found with the terms left, from here, gives what all terms give.
use Rattle.std.proofs.Common.{◌+◌, ◌*◌, ◌≤◌, length}
use Rattle.planner.proofs.HitLaws.{Judged}
use Rattle.planner.proofs.hits.inputs_on.Given as goal

abbrev pub invariant-loop-j : goal.invariant-loop-j
invariant-loop-j l = (l.at + 2 * l.j-end ≤ length l.sheet) × Judged l.sheet l.t l.j l.found l.held
