-- What is triggered in the first round of a tick: before anything is entered, exited or taken only the transitions of `early` need be
-- judged; at power-on all that are judged in each round. Assumes nothing.
use mathlib.Core.Path.{◌≡◌, refl, sym, ap, ◌∙◌, subst}
use mathlib.Core.Bool.{Bool, true, false, not, ◌&&◌, and-true}
use mathlib.Core.List.{List}
use Prim.Native.Nat.{ℕ, zero, suc, ◌-◌, ◌^◌, ◌≤◌, ◌<◌}
use native.Mathlib.Nat.{lt_of_lt_of_le}
use native.Mathlib.Omega.{arith}
use lib.Dec.{T, ltb, lt→ltb}
use lib.Bits.{or_zero_l}
use lib.Pow.{pow_mono, pow_pos}
use borrow.Author.Tests.{ne_eqb}
use Rattle.sets.specs.Sets.{has, union, meet, single, those}
use Rattle.sets.proofs.Tests.{of_false}
use Rattle.sets.proofs.Facts.{has-lt}
use Rattle.sets.proofs.Membership.{ext, has_none, has_meet, has_below, set_of_ext}
use Rattle.sets.proofs.Those.{has-those, those-lt}
use Rattle.sets.proofs.Quantifiers.{meets_e, meets_i}
use Rattle.meaning.specs.Sheet.{n_of, k_of, t_of, source, term_kind, term_value}
use Rattle.meaning.specs.Check.{sheet_refusal}
use Rattle.meaning.specs.Hierarchy.{complete}
use Rattle.meaning.specs.Reaction.{TickSets, is_timer, is_due, alternative, triggered}
use Rattle.meaning.specs.Tick.{begin}
use Rattle.meaning.proofs.SheetLaws.{sound, n_le}
use Rattle.reaction.specs.Plan.{sources_in, hits_of, mixed, early}
use Rattle.reaction.specs.Facts.{facts_of, open_facts, holds_by, alternative_by}
use Rattle.reaction.proofs.TermLaws.{none_by, mask_lt, alternative_by_lem}
use Rattle.reaction.proofs.TriggerLaws.{Derived, input_lt, mixed_e, triggered-union}
use Rattle.reaction.proofs.AboutLaws.{by_more}

-- ---- what holds before anything is entered, exited or taken holds by the words `open_facts`

-- the sets of a tick as it begins with the modes x
abbrev pub begun : ℕ → TickSets
begun x = record { modes = x; entered = 0; exited = 0; active = x; taken = 0 }

-- every small number is in a full word
in_full : (v : ℕ) → v < 64 → T (has (2 ^ 64 - 1) v)
in_full v l = subst T (sym (has_below 64 v)) (lt→ltb v 64 l)

open_holds : (s : List ℕ) (i x c v : ℕ) → i < 2 ^ 32 → (c ≡ 3 → v < 2 ^ 64) → T (holds_by (facts_of i (begun x)) c v) → T (holds_by open_facts c v)
unfolding holds_by
open_holds s i x zero v b l k = k
open_holds s i x (suc zero) v b l k = in_full v (omega (arith, has-lt 32 i v b k))
open_holds s i x (suc (suc zero)) v b l k = in_full v (omega (arith, has-lt 32 (2 ^ 32 - 1 - i) v (omega arith) k))
open_holds s i x (suc (suc (suc zero))) v b l k =
    let r = meets_e v x k in
    meets_i v (2 ^ 64 - 1) r.0 r.1 (in_full r.0 (has-lt 64 v r.0 (l refl) r.1))
open_holds s i x (suc (suc (suc (suc zero)))) v b l k = k
open_holds s i x (suc (suc (suc (suc (suc zero))))) v b l k = k
open_holds s i x (suc (suc (suc (suc (suc (suc zero)))))) v b l k = k
open_holds s i x (suc (suc (suc (suc (suc (suc (suc zero))))))) v b l k = k
open_holds s i x (suc (suc (suc (suc (suc (suc (suc (suc c)))))))) v b l k = absurd (of_false (none_by s i (begun x) b c v) k)

module _ (s : List ℕ) (h : sheet_refusal s ≡ 0) (i : ℕ) (b : i < 2 ^ 32) where
  open_some : (x t : ℕ) → t < t_of s → T (ltb 0 (alternative_by s (facts_of i (begun x)) t)) → T (ltb 0 (alternative_by s open_facts t))
  open_some x t l =
      by_more s (facts_of i (begun x)) open_facts t (λ j k.
      open_holds s i x (term_kind s t j) (term_value s t j) b (λ e. lt_of_lt_of_le (mask_lt s h t j l k e) (pow_mono wide)))
    where
      wide : n_of s ≤ 64
      wide = omega (arith, n_le s (sound s h))

  -- as a tick begins that is not the first, only those of `early` can hold
  judged_early : (y x : ℕ)
      → those 64 (meet y (mixed s)) (λ t. ltb 0 (alternative s i (begun x) t)) ≡ those 64 (meet y (early s)) (λ t. ltb 0 (alternative s i (begun x) t))
  unfolding early
  judged_early y x =
      ext 64 (those-lt 64 (meet y (mixed s)) j) (those-lt 64 (meet y (early s)) j)
      (λ t l.
      has-those 64 (meet y (mixed s)) j t l
      ∙ ap (λ (c : Bool). c && j t) (has_meet y (mixed s) t)
      ∙ table (has y t) (has (mixed s) t) (ltb 0 (alternative_by s open_facts t)) (j t) (known t)
      ∙ sym (has-those 64 (meet y (early s)) j t l
      ∙ ap (λ (c : Bool). c && j t) (has_meet y (early s) t ∙ ap (λ (c : Bool). has y t && c) (has-those 64 (mixed s) (λ u. ltb 0 (alternative_by s open_facts u)) t l))))
    where
      j : ℕ → Bool
      j t = ltb 0 (alternative s i (begun x) t)

      known : (t : ℕ) → T (has (mixed s) t) → T (j t) → T (ltb 0 (alternative_by s open_facts t))
      known t m k =
          let l = (mixed_e s t m).0 in
          open_some x t l (subst T (ap (ltb 0) (sym (alternative_by_lem s i (begun x) b t h l))) k)

      table : (a m o c : Bool) → (T m → T c → T o) → ((a && m) && c) ≡ ((a && (m && o)) && c)
      table false m o c p = refl
      table true false o c p = refl
      table true true true c p = refl
      table true true false true p = absurd (p tt tt)
      table true true false false p = refl

-- ---- what is triggered first

pub begins : (s : List ℕ) (x : ℕ) → (x ≡ 0 → ⊥) → begun x ≡ begin s x
unfolding begin
begins s x n = rw (ne_eqb x 0 n)

module _ (s : List ℕ) (h : sheet_refusal s ≡ 0) where
  pub first_triggered_lem : (x d i : ℕ) → (x ≡ 0 → ⊥) → i < 2 ^ k_of s → d < 2 ^ t_of s → ((t : ℕ) → T (has d t) → T (is_timer s t))
      → triggered s d i (begin s x)
      ≡ union (meet (sources_in s x) (union d (hits_of s i))) (those 64 (meet (sources_in s x) (early s)) (λ t. ltb 0 (alternative s i (begin s x) t)))
  first_triggered_lem x d i n b l k =
      subst (λ (z : TickSets). triggered s d i z ≡ union sure (those 64 (meet live (early s)) (λ t. ltb 0 (alternative s i z t)))) (begins s x n)
      (sym (triggered-union s h (begun x) live d derived i b) ∙ ap (union sure) (judged_early s h i small live x))
    where
      live : ℕ
      live = sources_in s x

      sure : ℕ
      sure = meet live (union d (hits_of s i))

      derived : Derived s (begun x) live d
      derived =
          record {
            sources = refl;
            fresh = unfold is_due in (set_of_ext (t_of s) (is_due s d (begun x)) l (λ t m. sym (rw (has_none (source s t)) (and-true (has d t)))));
            timing = k;
          }

      small : i < 2 ^ 32
      small = omega (arith, input_lt s i h b)

  pub first_power_on : (i : ℕ) → i < 2 ^ k_of s
      → triggered s 0 i (begin s 0)
      ≡ union (meet (sources_in s (complete s (single 0))) (hits_of s i))
      (those 64 (meet (sources_in s (complete s (single 0))) (mixed s)) (λ t. ltb 0 (alternative s i (begin s 0) t)))
  unfolding begin
  first_power_on i b =
      sym (triggered-union s h (begin s 0) live 0 derived i b)
      ∙ ap (λ (p : ℕ). union (meet live p) (those 64 (meet live (mixed s)) (λ t. ltb 0 (alternative s i (begin s 0) t)))) (or_zero_l (hits_of s i))
    where
      live : ℕ
      live = sources_in s (complete s (single 0))

      derived : Derived s (begin s 0) live 0
      derived =
          record {
            sources = refl;
            fresh = unfold is_due in (set_of_ext (t_of s) (is_due s 0 (begin s 0)) (pow_pos (t_of s))
                (λ t l. has_none t ∙ sym (ap (λ (c : Bool). c && not (has (begin s 0).entered (source s t))) (has_none t))));
            timing = λ t k. absurd (of_false (has_none t) k);
          }
