-- Of the loop of `reaction::why::ahead_of`: what is found is what is to be found less what is left.
use Rattle.std.proofs.Common.{◌≡◌, ◌^◌, ◌<◌}
use Rattle.sets.specs.Sets.{minus, those}
use Rattle.sets.proofs.Those.{Subset}
use Rattle.meaning.specs.GivesWay.{gives_way}
use Rattle.reaction.proofs.why.ahead_of.Given as goal

abbrev pub invariant-loop-u : goal.invariant-loop-u
invariant-loop-u l =
    (l.u-iterator.rest < 2 ^ 64)
    × Subset l.u-iterator.rest l.ts
    × (l.r ≡ minus (those 64 l.ts (gives_way l.sheet l.t)) l.u-iterator.rest)
