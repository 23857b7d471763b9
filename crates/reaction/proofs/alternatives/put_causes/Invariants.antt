-- Of the loop of `reaction::alternatives::put_causes`: the transitions left are those whose numbers are still to be stored.
use Rattle.std.proofs.Common.{◌≡◌, ◌^◌, ◌<◌, length}
use Rattle.sets.proofs.Those.{Subset}
use Rattle.reaction.specs.Causes.{cause_by}
use Rattle.reaction.proofs.StoredLaws.{stored}
use Rattle.reaction.proofs.alternatives.put_causes.Given as goal

abbrev pub invariant-loop-t : goal.invariant-loop-t
invariant-loop-t l =
    (l.t-iterator.rest < 2 ^ 64)
    × Subset l.t-iterator.rest l.es
    × (length l.numbers ≡ length l.fn.numbers)
    × (stored (cause_by l.sheet l.f) 64 l.at l.numbers l.t-iterator.rest ≡ stored (cause_by l.sheet l.f) 64 l.at l.fn.numbers l.es)
