-- Of the loop of `planner::next::add_to`: the words of the members passed have the transition.
use Rattle.std.proofs.Common.{◌^◌, ◌<◌}
use Rattle.sets.proofs.Those.{Subset}
use Rattle.planner.proofs.NextLaws.{AddedBut}
use Rattle.planner.proofs.next.add_to.Given as goal

abbrev pub invariant-loop-k : goal.invariant-loop-k
invariant-loop-k l =
    (l.k-iterator.rest < 2 ^ 64) × Subset l.k-iterator.rest l.set × AddedBut l.fn.words l.set l.t l.words l.k-iterator.rest
