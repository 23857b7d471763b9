-- Of the loop of `reaction::terms::judged`: what is found is what is to be found less what is left.
use Rattle.std.proofs.Common.{◌≡◌, ℕ, ◌^◌, ◌<◌, Bool, ◌&&◌, List, ltb}
use Rattle.sets.specs.Sets.{has, minus, those}
use Rattle.sets.proofs.Those.{Subset}
use Rattle.meaning.specs.Sheet.{source}
use Rattle.reaction.specs.Facts.{alternative_by}
use Rattle.reaction.proofs.terms.judged.Given as goal

-- t is triggered by its terms
abbrev pub judge : List ℕ → ℕ → List ℕ → ℕ → Bool
judge sheet modes f t = has modes (source sheet t) && ltb 0 (alternative_by sheet f t)

abbrev pub invariant-loop-t : goal.invariant-loop-t
invariant-loop-t l =
    (l.t-iterator.rest < 2 ^ 64)
    × Subset l.t-iterator.rest l.set
    × (l.r ≡ minus (those 64 l.set (judge l.sheet l.modes l.f)) l.t-iterator.rest)
