-- What follows from "highest level first": who gives way is exited in that round, and all that Ask 2 promises. Assumes nothing.
use mathlib.Core.Path.{◌≡◌}
use mathlib.Core.Logic.{⊎_elim}
use mathlib.Core.Bool.{not}
use mathlib.Core.List.{List}
use Prim.Native.Nat.{ℕ, ◌<◌}
use native.Mathlib.Omega.{arith}
use lib.Dec.{T, eqb}
use Rattle.sets.specs.Sets.{has}
use Rattle.sets.proofs.Tests.{and_r}
use Rattle.meaning.specs.Sheet.{t_of, source, contains, strictly_contains, meeting}
use Rattle.meaning.specs.Check.{sheet_refusal}
use Rattle.meaning.specs.Hierarchy.{consistent, exits}
use Rattle.meaning.specs.GivesWay.{gives_way}
use Rattle.meaning.specs.Reaction.{TickSets, triggered, exiting}
use Rattle.meaning.specs.Tick.{chosen}
use Rattle.meaning.specs.HighestLevelFirst.{EligibleOrGivesWay, GivesWayExited, HighestLevelFirst}
use Rattle.meaning.proofs.SheetLaws.{Sound, sound, tree, source-lt}
use Rattle.meaning.proofs.Containment.{Within, contains_e, within_trans, strictly_lt, meeting-lt, meeting-source, within_le, ends}
use Rattle.meaning.proofs.GivesWayLaws.{equal_stay_lem, gives_way_in_conflict_lem, conflict_is_equal_lem, eligible_or_gives_way_lem, eligible-stays, eligible_among}
use Rattle.meaning.proofs.TickLaws.{triggered-lt, chosen_lt, triggered_e}
use Rattle.meaning.proofs.Consistency.{cons_e, source_on, chosen_on, exited_within, exits_i, exiting_i}
use Rattle.meaning.proofs.StateLaws.{no_reading_zero_lem}

eligible_or_gives : EligibleOrGivesWay
unfolding EligibleOrGivesWay chosen
eligible_or_gives s h d i z t m = eligible_or_gives_way_lem s (sound s h) (triggered s d i z) (triggered-lt s d i z) t m

-- what is active strictly within the meeting mode of a transition that is taken is exited, and the source of one that gives way to it is
-- such a mode
gives_way_exited_lem : GivesWayExited
unfolding GivesWayExited chosen gives_way strictly_contains
gives_way_exited_lem s h d i z con t u a b g =
    ⊎_elim (λ e. absurd (eligible-stays s ts t u e (triggered-lt s d i z u b) b g)) (λ v. exited v.0 v.1 v.2)
    (eligible_or_gives_way_lem s sd ts (triggered-lt s d i z) t a)
  where
    sd : Sound s
    sd = sound s h

    ts : ℕ
    ts = triggered s d i z

    l : t < t_of s
    l = triggered-lt s d i z t a

    on : T (has z.modes (source s t))
    on = source_on s sd z d i t (triggered_e s d i z t a)

    own : Within s (meeting s t) (source s t)
    own = meeting-source s sd t l

    exited : (v : ℕ) → T (has (chosen s d i z) v) → T (gives_way s t v) → T (has (exiting s z (chosen s d i z)) (source s t))
    exited v m k = exiting_i s sd z (chosen s d i z) v (source s t) (chosen_lt s d i z v m) m out on
      where
        strict : T (strictly_contains s (meeting s v) (meeting s t))
        strict = k

        above : Within s (meeting s v) (meeting s t)
        above = contains_e s (tree s sd) (meeting s v) (meeting s t) (and_r (not (eqb (meeting s v) (meeting s t))) (contains s (meeting s v) (meeting s t)) k)

        ne : meeting s v ≡ source s t → ⊥
        ne e =
            omega (
              arith,
              strictly_lt s (tree s sd) (meeting s v) (meeting s t) (meeting-lt s sd t l) strict,
              within_le s (tree s sd) own (source-lt s sd t l),
            )

        out : T (has (exits s v) (source s t))
        out =
            exited_within s sd (cons_e s sd z.modes con) v (chosen_lt s d i z v m) (chosen_on s sd z d i v m) (source s t) (source-lt s sd t l) on
            (within_trans above own) ne

-- so the source of each triggered transition is exited: an eligible one exits its own
pub source_exited : (s : List ℕ) → sheet_refusal s ≡ 0 → (d i : ℕ) (z : TickSets) → T (consistent s z.modes)
    → (t : ℕ) → T (has (triggered s d i z) t) → T (has (exiting s z (chosen s d i z)) (source s t))
unfolding EligibleOrGivesWay GivesWayExited chosen
source_exited s h d i z con t a =
    ⊎_elim own (λ v. gives_way_exited_lem s h d i z con t v.0 a (eligible_among s (triggered s d i z) v.0 v.1) v.2) (eligible_or_gives s h d i z t a)
  where
    sd : Sound s
    sd = sound s h

    l : t < t_of s
    l = triggered-lt s d i z t a

    own : T (has (chosen s d i z) t) → T (has (exiting s z (chosen s d i z)) (source s t))
    own m =
        exiting_i s sd z (chosen s d i z) t (source s t) l m (exits_i s sd t (source s t) (source-lt s sd t l) (ends s sd t l).left.holds)
        (chosen_on s sd z d i t m)

pub highest_level_first_lem : HighestLevelFirst
highest_level_first_lem =
    record {
      equal_stay = equal_stay_lem;
      gives_way_in_conflict = gives_way_in_conflict_lem;
      conflict_is_equal = conflict_is_equal_lem;
      eligible_or_gives_way = eligible_or_gives;
      gives_way_exited = gives_way_exited_lem;
      no_reading_zero = no_reading_zero_lem;
    }
