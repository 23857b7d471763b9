-- Of the loop of `planner::hits::put_hits`: the sure transitions passed are in the words of the input sets that trigger them.
use Rattle.std.proofs.Common.{◌≡◌, ◌^◌, ◌≤◌, ◌<◌}
use Rattle.sets.proofs.Those.{Subset}
use Rattle.meaning.specs.Sheet.{k_of}
use Rattle.planner.specs.Parts.{Words}
use Rattle.planner.proofs.HitLaws.{hits_but}
use Rattle.planner.proofs.hits.put_hits.Given as goal

abbrev pub invariant-loop-t : goal.invariant-loop-t
invariant-loop-t l =
    (l.t-iterator.rest < 2 ^ 64)
    × Subset l.t-iterator.rest l.certain
    × (l.count ≡ 2 ^ k_of l.sheet)
    × (l.count ≤ 64)
    × Words l.hits l.count (hits_but l.sheet l.certain l.t-iterator.rest)
