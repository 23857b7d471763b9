-- What the loop of `sets::transitions::union_of` keeps: the union over the modes left, from here, is the union over all from nothing.
use Rattle.std.proofs.Common.{◌≡◌, ◌^◌, ◌<◌, get_or}
use Rattle.sets.specs.Sets.{union, members}
use Rattle.sets.proofs.Members.{fold}
use Rattle.sets.proofs.transitions.union_of.Given as goal

abbrev pub invariant-loop-m : goal.invariant-loop-m
invariant-loop-m l =
    (l.m-iterator.rest < 2 ^ 32)
    × (fold (λ a m. union a (get_or l.words m 0)) l.r (members 32 l.m-iterator.rest) ≡ fold (λ a m. union a (get_or l.words m 0)) 0 (members 32 l.set))
