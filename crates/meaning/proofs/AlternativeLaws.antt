-- Laws of the number that a tick has for a transition: it is not 0 exactly for one that is taken; 9 for a delay, else at most 8.
-- Assumes nothing.
use mathlib.Core.Path.{◌≡◌, refl, sym, ◌∙◌}
use mathlib.Core.Logic.{◌⊎◌, inl, inr}
use mathlib.Core.Bool.{Bool, true, false, not, ◌||◌, cond, or-false, or_assoc}
use mathlib.Core.List.{List, [], ◌∷◌, map}
use Prim.Native.Nat.{ℕ, zero, suc, ◌+◌, ◌*◌, ◌≤◌, ◌<◌, zero-le}
use native.Mathlib.Nat.{le_trans}
use native.Mathlib.Omega.{arith}
use lib.Dec.{T, eqb, ltb}
use lib.ListN.{length, length-map}
use Rattle.sets.specs.Sets.{has}
use Rattle.sets.proofs.Tests.{is_true, of_true}
use Rattle.sets.proofs.Membership.{has_none}
use Rattle.meaning.specs.Lists.{first_of}
use Rattle.meaning.specs.Sheet.{t_of, source, term_count, term_kind}
use Rattle.meaning.specs.Check.{term_ok}
use Rattle.meaning.specs.Reaction.{TickSets, is_delay, delay, in_first, alternatives_from, alternatives, all_hold, alternative, is_due, trigger}
use Rattle.meaning.specs.Tick.{begin, chosen, rounds_from, tick}
use Rattle.meaning.specs.RoundList.{round_list, tick_rounds}
use Rattle.meaning.specs.Alternatives.{fired_in, fired}
use Rattle.meaning.specs.FiredAlternatives.{FiredTaken, FiredRange}
use Rattle.meaning.proofs.ListLaws.{first_of-le}
use Rattle.meaning.proofs.SheetLaws.{Sound, sound, terms_pos, terms_le, or_apart}
use Rattle.meaning.proofs.TickLaws.{chosen_lt, chosen_triggered, taken_after, begin_by}
use Rattle.meaning.proofs.RoundListLaws.{round_list_all}

-- ---- a number is not 0 exactly for a transition that is taken

module _ (s : List ℕ) (d i t : ℕ) where
  -- taken in the first round, or in one after it
  pub fired_first : (z : TickSets) (zs : List TickSets) → ltb 0 (fired_in s d i (z ∷ zs) t) ≡ (has (chosen s d i z) t || ltb 0 (fired_in s d i zs t))
  unfolding fired_in
  fired_first z zs = go (has (chosen s d i z) t) refl
    where
      go : (b : Bool) → has (chosen s d i z) t ≡ b → ltb 0 (cond b (trigger s d i z t) (fired_in s d i zs t)) ≡ (b || ltb 0 (fired_in s d i zs t))
      go true e = is_true _ (chosen_triggered s d i z t (of_true e))
      go false e = refl

  -- taken at the end: taken before, or in one of the rounds
  rounds_taken : (f : ℕ) (z : TickSets) (r : ℕ) → has (rounds_from s f d i z r).sets.taken t ≡ (has z.taken t || ltb 0 (fired_in s d i (round_list s f d i z) t))
  rounds_taken =
      round_list_all s d i (λ z _ o zs. has o.sets.taken t ≡ (has z.taken t || ltb 0 (fired_in s d i zs t)))
      (λ z _ _. unfold fired_in in (sym (or-false (has z.taken t))))
      (λ z _ o zs _ ih.
      ih ∙ rw (taken_after s d i z (chosen s d i z) t, fired_first z zs) (or_assoc (has z.taken t) (has (chosen s d i z) t) (ltb 0 (fired_in s d i zs t))))

pub fired_taken_lem : FiredTaken
unfolding FiredTaken fired tick_rounds tick
fired_taken_lem s x d i t =
    sym (rounds_taken s d i t (suc (t_of s)) (begin s x) 0
    ∙ rw (begin_by s (λ z. z.taken ≡ 0) x (λ _. refl) (λ _. refl), has_none t))

-- ---- at most 8 alternatives

pub in_first-length : (j : ℕ) (l : List (List ℕ)) → length (in_first j l) ≡ length l
unfolding in_first
in_first-length j [] = refl
in_first-length j (js ∷ l) = refl

module _ (s : List ℕ) (t : ℕ) where
  -- how many there are from term j on, where w terms are left
  count : ℕ → ℕ → ℕ
  count w j = length (alternatives_from s t w j)

  count_or : (w j : ℕ) → eqb (term_kind s t j) 7 ≡ true → count (suc w) j ≡ suc (count w (suc j))
  unfolding count alternatives_from
  count_or w j e = rw e

  count_term : (w j : ℕ) → eqb (term_kind s t j) 7 ≡ false → count (suc w) j ≡ count w (suc j)
  unfolding count alternatives_from
  count_term w j e = rw e (in_first-length j (alternatives_from s t w (suc j)))

  -- twice as many are at most 2 above the terms that are left, and at most 1 above where the first of these is no "or"
  record Few (w j : ℕ) : Type 0 where
    any : 2 * count w j ≤ w + 2
    term_first : 0 < w → eqb (term_kind s t j) 7 ≡ false → 2 * count w j ≤ w + 1

  few : ((j : ℕ) → j < term_count s t → T (term_ok s t j)) → (w j : ℕ) → j + w ≡ term_count s t → Few w j
  few ok zero j e = record { any = unfold count alternatives_from in (omega arith); term_first = λ p _. absurd (omega arith) }
  few ok (suc w) j e = go (eqb (term_kind s t j) 7) refl (few ok w (suc j) (omega arith))
    where
      go : (b : Bool) → eqb (term_kind s t j) 7 ≡ b → Few w (suc j) → Few (suc w) j
      go true k ih =
          let o = or_apart s t j (ok j (omega arith)) k in
          record {
            any = omega (arith, count_or w j k, ih.term_first (omega (arith, o.not_last)) o.none_next);
            term_first = λ _ n. absurd (of_true (sym n ∙ k));
          }
      go false k ih =
          let less : 2 * count (suc w) j ≤ suc w + 1 = omega (arith, count_term w j k, ih.any) in
          record { any = omega arith; term_first = λ _ _. less }

  pub alternatives_few : Sound s → t < t_of s → length (alternatives s t) ≤ 8
  unfolding alternatives count
  alternatives_few h l = go (eqb (term_kind s t 0) 7) refl
    where
      ok : (j : ℕ) → j < term_count s t → T (term_ok s t j)
      ok = h.terms t l

      some : 0 < term_count s t
      some = terms_pos s h t l

      go : (b : Bool) → eqb (term_kind s t 0) 7 ≡ b → length (alternatives s t) ≤ 8
      go true e = absurd (omega (arith, (or_apart s t 0 (ok 0 some) e).not_first))
      go false e = omega (arith, (few ok (term_count s t) 0 (omega arith)).term_first some e, terms_le s h t l)

-- ---- 9 for a delay, else the number of an alternative

module _ (s : List ℕ) (d i t : ℕ) where
  trigger-delay : is_delay s t ≡ true → (z : TickSets) → (trigger s d i z t ≡ 0) ⊎ (trigger s d i z t ≡ 9)
  unfolding trigger
  trigger-delay e z = rw e (go (has z.modes (source s t)) (eqb (delay s t) 0 || is_due s d z t))
    where
      number : Bool → Bool → ℕ
      number a b = cond (not a) 0 (cond b 9 0)

      go : (a b : Bool) → (number a b ≡ 0) ⊎ (number a b ≡ 9)
      go false b = inl refl
      go true false = inl refl
      go true true = inr refl

  trigger_terms : is_delay s t ≡ false → (z : TickSets) → trigger s d i z t ≤ length (alternatives s t)
  unfolding trigger alternative
  trigger_terms e z = rw e (go (has z.modes (source s t)))
    where
      holding : List Bool
      holding = map (all_hold s i z t) (alternatives s t)

      go : (a : Bool) → cond (not a) 0 (first_of 1 holding) ≤ length (alternatives s t)
      go false = zero-le
      go true = omega (arith, first_of-le 0 holding, length-map (alternatives s t) (all_hold s i z t))

  -- what holds of 0 and of each round that takes t
  fired_all : (P : ℕ → Type 0) → P 0 → ((z : TickSets) → t < t_of s → P (trigger s d i z t)) → (zs : List TickSets) → P (fired_in s d i zs t)
  unfolding fired_in
  fired_all P none one [] = none
  fired_all P none one (z ∷ zs) = go (has (chosen s d i z) t) refl (fired_all P none one zs)
    where
      go : (b : Bool) → has (chosen s d i z) t ≡ b → P (fired_in s d i zs t) → P (cond b (trigger s d i z t) (fired_in s d i zs t))
      go true e ih = one z (chosen_lt s d i z t (of_true e))
      go false e ih = ih

pub fired_range_lem : FiredRange
unfolding FiredRange fired
fired_range_lem s h x d i t = (
  λ e. fired_all s d i t (λ n. (n ≡ 0) ⊎ (n ≡ 9)) (inl refl) (λ z _. trigger-delay s d i t e z) (tick_rounds s x d i),
  λ e. fired_all s d i t (λ n. n ≤ 8) zero-le (λ z l. le_trans (trigger_terms s d i t e z) (alternatives_few s t (sound s h) l)) (tick_rounds s x d i),
)
