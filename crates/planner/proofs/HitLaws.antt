-- Of the transitions that an input set can trigger by itself, those that one does. The words of all input sets at once: bit i for
-- input set i. Assumes nothing.
use mathlib.Core.Path.{◌≡◌, refl, sym, ap, ap₂, ◌∙◌}
use mathlib.Core.Logic.{◌⊎◌, inl, inr}
use mathlib.Core.Bool.{Bool, true, false, not, ◌&&◌, ◌||◌, cond, and-true}
use mathlib.Core.List.{List, [], ◌∷◌}
use Prim.Native.Nat.{ℕ, zero, suc, ◌+◌, ◌-◌, ◌*◌, ◌%◌, ◌^◌, ◌≤◌, ◌<◌}
use native.Mathlib.Nat.{lt_of_lt_of_le, lt_of_le_of_lt, pow-le-pow_right}
use native.Mathlib.Omega.{arith}
use lib.Dec.{eqb, ltb}
use lib.ListN.{get_or, replicate}
use borrow.Author.Tests.{lt-ltb}
use Rattle.sets.specs.Sets.{has, union, meet, minus, below, digit, those, set_of}
use Rattle.sets.proofs.Tests.{is_true, of_true}
use Rattle.sets.proofs.Facts.{set_of_e}
use Rattle.sets.proofs.Membership.{has_none, has-union, has_meet, has-not, has_below, one_shl, union-lt, meet-le, has-set_of, set_of-lt, set_of_ext, set_of_same, has-those}
use Rattle.sets.proofs.Members.{Turn}
use Rattle.sets.proofs.Those.{Subset, those_part_lt, those_start, those_tested, those_done}
use Rattle.meaning.specs.Sheet.{k_of, t_of, term_count, term_kind, term_value}
use Rattle.meaning.specs.Check.{sheet_refusal}
use Rattle.meaning.specs.Reaction.{is_delay, delay, alternative}
use Rattle.meaning.proofs.SheetLaws.{sound, t_le, k_le}
use Rattle.reaction.specs.Plan.{no_sets, events_only, hits_of}
use Rattle.reaction.specs.Facts.{facts_of, holds_by}
use Rattle.reaction.proofs.TermLaws.{alternative_by_lem, some_from, some_from_start, some_from_or, some_from_term, some_from_end}
use Rattle.planner.specs.Parts.{Words, is_sure, sure, is_hit}
use Rattle.planner.proofs.WordLaws.{zero_words}

-- ---- the input sets on which a term holds

-- those that have an event
pub with_event_lem : (e : ℕ) → e < 6
    → get_or (0xaaaaaaaaaaaaaaaa ∷ 0xcccccccccccccccc ∷ 0xf0f0f0f0f0f0f0f0 ∷ 0xff00ff00ff00ff00 ∷ 0xffff0000ffff0000 ∷ 0xffffffff00000000 ∷ []) e 0
    ≡ set_of 64 (λ i. has i e)
unfolding set_of has
with_event_lem zero l = refl
with_event_lem (suc zero) l = refl
with_event_lem (suc (suc zero)) l = refl
with_event_lem (suc (suc (suc zero))) l = refl
with_event_lem (suc (suc (suc (suc zero)))) l = refl
with_event_lem (suc (suc (suc (suc (suc zero))))) l = refl
with_event_lem (suc (suc (suc (suc (suc (suc e)))))) l = absurd (omega arith)

-- all 64 of them
all_lt : below 64 < 2 ^ 64
all_lt = omega arith

has_all : (i : ℕ) → i < 64 → has (below 64) i ≡ true
has_all i l = has_below 64 i ∙ lt-ltb i 64 l

-- a term on each of them: an event is present, or absent
pub term_present : {c x : ℕ} (e : ℕ) → c ≡ 1 → x ≡ set_of 64 (λ i. has i e) → x ≡ set_of 64 (λ i. holds_by (facts_of i no_sets) c e)
unfolding holds_by
term_present e k h = rw k h

pub term_absent : {c x : ℕ} (e : ℕ) → (c ≡ 1) ⊎ (c ≡ 2) → (c ≡ 1 → ⊥) → e < 6 → x ≡ set_of 64 (λ i. has i e)
    → below 64 - x ≡ set_of 64 (λ i. holds_by (facts_of i no_sets) c e)
unfolding holds_by
term_absent e (inl k) n l h = absurd (n k)
term_absent {c} {x} e (inr k) n l h =
    let small : x < 2 ^ 64 = rw h (set_of-lt 64 (λ i. has i e)) in
    rw k
    (set_of_ext 64 (λ i. has (2 ^ 32 - 1 - i) e) (omega (arith, all_lt))
    (λ i b.
    has-not 64 x i small b ∙ ap not (ap (λ (y : ℕ). has y i) h ∙ has-set_of 64 (λ u. has u e) i b)
    ∙ sym (has-not 32 i e (omega arith) (omega arith))))

-- ---- the loop over the terms of a transition

module _ (s : List ℕ) (t : ℕ) where
  abbrev judged : ℕ → ℕ → Bool → Bool → Bool
  judged i = some_from s (facts_of i no_sets) t (term_count s t)

  -- at term j: an alternative before this one holds on the input sets of `found`, the terms before j of this one on those of `held`
  pub record Judged (j found held : ℕ) : Type 0 where
    fits_found : found < 2 ^ 64
    fits_held : held < 2 ^ 64
    each : (i : ℕ) → i < 64 → judged i j (has found i) (has held i) ≡ ltb 0 (alternative s i no_sets t)

  pub judged_start : sheet_refusal s ≡ 0 → t < t_of s → Judged 0 0 (below 64)
  judged_start h l =
      record {
        fits_found = omega arith;
        fits_held = all_lt;
        each =
            λ i k. ap₂ (judged i 0) (has_none i) (has_all i k) ∙ some_from_start s (facts_of i no_sets) t
            ∙ ap (ltb 0) (alternative_by_lem s i no_sets (omega arith) t h l);
      }

  module _ {j found held : ℕ} (h : Judged j found held) where
    -- an "or"; another term, which holds on the input sets of x; no term left
    pub judged_or : {y z : ℕ} → j < term_count s t → term_kind s t j ≡ 7 → y ≡ union found held → z ≡ below 64 → Judged (j + 1) y z
    judged_or l e p q =
        record {
          fits_found = rw p (union-lt 64 h.fits_found h.fits_held);
          fits_held = rw q all_lt;
          each =
              λ i k. ap₂ (judged i (j + 1)) (ap (λ (v : ℕ). has v i) p ∙ has-union found held i) (ap (λ (v : ℕ). has v i) q ∙ has_all i k)
              ∙ some_from_or s (facts_of i no_sets) t (term_count s t) j (has found i) (has held i) l e ∙ h.each i k;
        }

    pub judged_term : {c v x y z : ℕ} → j < term_count s t → c ≡ term_kind s t j → v ≡ term_value s t j → (c ≡ 7 → ⊥)
        → x ≡ set_of 64 (λ i. holds_by (facts_of i no_sets) c v) → y ≡ found → z ≡ meet held x → Judged (j + 1) y z
    judged_term {c} {v} {x} l e f n m p q =
        record {
          fits_found = rw p h.fits_found;
          fits_held = rw q (lt_of_le_of_lt (meet-le held x) h.fits_held);
          each =
              λ i k. ap₂ (judged i (j + 1)) (ap (λ (u : ℕ). has u i) p) (ap (λ (u : ℕ). has u i) q ∙ has_meet held x i)
              ∙ some_from_term s (facts_of i no_sets) t (term_count s t) j (has found i) (has held i) (has x i) l (λ o. n (e ∙ o))
              (ap (λ (u : ℕ). has u i) m ∙ has-set_of 64 (λ u. holds_by (facts_of u no_sets) c v) i k ∙ ap₂ (holds_by (facts_of i no_sets)) e f)
              ∙ h.each i k;
        }

    pub judged_end : term_count s t ≤ j → union found held ≡ set_of 64 (λ i. ltb 0 (alternative s i no_sets t))
    judged_end l =
        set_of_ext 64 (λ i. ltb 0 (alternative s i no_sets t)) (union-lt 64 h.fits_found h.fits_held)
        (λ i k.
        has-union found held i ∙ sym (some_from_end s (facts_of i no_sets) t (term_count s t) j (has found i) (has held i) l)
        ∙ h.each i k)

  -- the input sets that trigger it: all of them for a delay, else those on which its terms hold, which speak of events only
  pub inputs_all : is_delay s t ≡ true → below 64 ≡ set_of 64 (is_hit s t)
  unfolding is_hit
  inputs_all d = set_of_ext 64 (is_hit s t) all_lt (λ i k. has_all i k ∙ sym (rw d))

  pub inputs_on : {x : ℕ} → is_delay s t ≡ false → x ≡ set_of 64 (λ i. ltb 0 (alternative s i no_sets t)) → x ≡ set_of 64 (is_hit s t)
  unfolding is_hit
  inputs_on d e = e ∙ set_of_same 64 _ (is_hit s t) (λ i k. sym (rw d))

  pub sure_events : is_sure s t ≡ true → is_delay s t ≡ false → events_only s t ≡ true
  unfolding is_sure
  sure_events e d = rw d at e

-- ---- the words of the input sets

-- of one with a delay (d), 0 (z), or with event terms alone (e) that hold (a)
sure_hit : (d z e a : Bool) → (cond d z e && (d || a)) ≡ cond d z (e && a)
sure_hit true z e a = and-true z
sure_hit false z e a = refl

module _ (s : List ℕ) where
  -- a sure transition
  pub sure_e : {x : ℕ} (t : ℕ) → x ≡ sure s → has x t ≡ true → (t < t_of s) × (is_sure s t ≡ true)
  unfolding sure
  sure_e t e h =
      let r = set_of_e (t_of s) (is_sure s) t (of_true (ap (λ (y : ℕ). has y t) (sym e) ∙ h)) in
      (r.0, is_true (is_sure s t) r.1)

  -- word i while the sure transitions of `rest` are to come
  abbrev pub hits_but : ℕ → ℕ → ℕ → ℕ
  hits_but certain rest i = minus (those 64 certain (λ t. is_hit s t i)) rest

  pub hits_start : {l : List ℕ} (n certain : ℕ) → n ≤ 64 → l ≡ replicate 64 0 → Words l n (hits_but certain certain)
  hits_start n certain b e i l =
      zero_words 64 (hits_but certain certain) e (λ k. those_start 64 certain (λ t. is_hit s t k)) i (omega arith)

  pub hits_turn : {rest t r x : ℕ} (old new : List ℕ) (n certain : ℕ) → n ≤ 64 → Turn 64 rest t r → Subset rest certain → Words old n (hits_but certain rest)
      → x ≡ set_of 64 (is_hit s t) → Words new n (λ i. union (get_or old i 0) (digit (has x i) * 2 ^ t)) → Words new n (hits_but certain r)
  hits_turn {rest} {t} {r} {x} old new n certain b u p w q k i l =
      k i l
      ∙ those_tested certain (λ v. is_hit s v i) u p (w i l) refl (ap (λ (y : ℕ). has y i) q ∙ has-set_of 64 (is_hit s t) i (omega arith))

  module _ (h : sheet_refusal s ≡ 0) where
    -- 1, 2, 4, .. 64 input sets
    pub inputs_le : 2 ^ k_of s ≤ 64
    inputs_le = pow-le-pow_right {n = 2} (omega arith) (k_le s (sound s h))

    pub inputs_count : {k : ℕ} → k ≡ k_of s → 1 * 2 ^ k % 2 ^ 32 ≡ 2 ^ k_of s
    inputs_count e = rw e (one_shl 32 (k_of s) (omega (arith, k_le s (sound s h))))

    abbrev test : ℕ → ℕ → Bool
    test i t = cond (is_delay s t) (eqb (delay s t) 0) (events_only s t && ltb 0 (alternative s i no_sets t))

    has_hits : (i t : ℕ) → t < t_of s → has (those 64 (set_of (t_of s) (is_sure s)) (λ u. is_hit s u i)) t ≡ test i t
    unfolding is_sure is_hit
    has_hits i t l =
        has-those 64 (set_of (t_of s) (is_sure s)) (λ u. is_hit s u i) t (lt_of_lt_of_le l (t_le s (sound s h)))
        ∙ ap (λ (a : Bool). a && is_hit s t i) (has-set_of (t_of s) (is_sure s) t l)
        ∙ sure_hit (is_delay s t) (eqb (delay s t) 0) (events_only s t) (ltb 0 (alternative s i no_sets t))

    hits_is : {x : ℕ} (i : ℕ) → x ≡ sure s → those 64 x (λ t. is_hit s t i) ≡ hits_of s i
    unfolding sure hits_of
    hits_is i e =
        rw e
        (set_of_ext (t_of s) (test i) (those_part_lt 64 (t_of s) (set_of (t_of s) (is_sure s)) (λ t. is_hit s t i) (set_of-lt (t_of s) (is_sure s))) (has_hits i))

    pub hits_done : {n certain rest : ℕ} (l : List ℕ) → n ≡ 2 ^ k_of s → certain ≡ sure s → rest ≡ 0 → Words l n (hits_but certain rest)
        → Words l (2 ^ k_of s) (hits_of s)
    hits_done {n} {certain} {rest} words e c z w i l = w i (omega arith) ∙ those_done 64 certain rest (λ t. is_hit s t i) z ∙ hits_is i c
