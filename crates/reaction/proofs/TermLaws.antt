-- The terms of a transition: their kinds and values in a sheet past 1 to 6, the loop over them, what the words of a tick say of them, and
-- what terms that speak of events only do not look at. Assumes nothing.
use mathlib.Core.Path.{◌≡◌, refl, sym, ap, ap₂, ◌∙◌, subst}
use mathlib.Core.Logic.{◌⊎◌, inl, inr, ⊎_elim}
use mathlib.Core.Bool.{Bool, true, false, ◌&&◌, ◌||◌, cond, and-true, and_assoc}
use mathlib.Core.List.{List, [], ◌∷◌, map}
use Prim.Native.Nat.{ℕ, zero, suc, ◌+◌, ◌-◌, ◌*◌, ◌^◌, ◌≤◌, ◌<◌}
use native.Mathlib.Nat.{le_of_suc-le-suc, lt_of_not-le, sub-zero}
use native.Mathlib.Numerals.{add-one}
use native.Mathlib.Omega.{arith}
use lib.Dec.{T, eqb, leb, ltb, eqb→eq, ltb→lt}
use lib.Arith.{lt_of_le-ne}
use lib.ListN.{length, get_or}
use borrow.Author.Tests.{eq-eqb, ne_eqb, lt-ltb}
use Rattle.sets.specs.Sets.{some_in}
use Rattle.sets.proofs.Tests.{of_true, of_false, and_l, and_r, or_e, above_not}
use Rattle.sets.proofs.Facts.{every_e}
use Rattle.sets.proofs.Membership.{has_none, has-not}
use Rattle.sets.proofs.Quantifiers.{meets-some}
use Rattle.meaning.specs.Sheet.{word, n_of, k_of, t_of, offset, term_count, term_kind, term_value}
use Rattle.meaning.specs.Lists.{all_of, first_of}
use Rattle.meaning.specs.Check.{kind_ok, term_ok, sheet_refusal}
use Rattle.meaning.specs.Reaction.{TickSets, is_delay, holds, in_first, alternatives_from, alternatives, all_hold, alternative}
use Rattle.meaning.proofs.SheetLaws.{sound, n_le, k_le, t_le, kind_none}
use Rattle.meaning.proofs.TickLaws.{holds_none}
use Rattle.sheet.specs.Reading.{Record}
use Rattle.sheet.proofs.SheetTestLaws.{placed}
use Rattle.reaction.specs.Plan.{is_event_kind, events_only}
use Rattle.reaction.specs.Facts.{facts_of, holds_by, alternative_by_from, alternative_by}

-- ---- kinds and values in a sheet past 1 to 6

-- every value but a delay, a mask and an "or" is a number of an event, a mode or a transition
kind_small : (s : List ℕ) (t j c : ℕ) → k_of s ≤ 6 → n_of s ≤ 32 → t_of s ≤ 64 → T (kind_ok s t j c)
    → (c ≡ 0 → ⊥) → (c ≡ 3 → ⊥) → (c ≡ 7 → ⊥) → term_value s t j < 64
unfolding kind_ok
kind_small s t j zero a b d h p q r = absurd (p refl)
kind_small s t j (suc zero) a b d h p q r = omega (arith, ltb→lt (term_value s t j) (k_of s) h)
kind_small s t j (suc (suc zero)) a b d h p q r = omega (arith, ltb→lt (term_value s t j) (k_of s) h)
kind_small s t j (suc (suc (suc zero))) a b d h p q r = absurd (q refl)
kind_small s t j (suc (suc (suc (suc zero)))) a b d h p q r = omega (arith, ltb→lt (term_value s t j) (n_of s) h)
kind_small s t j (suc (suc (suc (suc (suc zero))))) a b d h p q r = omega (arith, ltb→lt (term_value s t j) (n_of s) h)
kind_small s t j (suc (suc (suc (suc (suc (suc zero)))))) a b d h p q r = omega (arith, ltb→lt (term_value s t j) (t_of s) h)
kind_small s t j (suc (suc (suc (suc (suc (suc (suc zero))))))) a b d h p q r = absurd (r refl)
kind_small s t j (suc (suc (suc (suc (suc (suc (suc (suc c)))))))) a b d h p q r =
    absurd (of_false (kind_none s t j (suc (suc (suc (suc (suc (suc (suc (suc c)))))))) (omega arith)) h)

-- a kind that speaks of events, other than "or"
kind_event : (c : ℕ) → T (is_event_kind c) → (c ≡ 7 → ⊥) → (c ≡ 1) ⊎ (c ≡ 2)
unfolding is_event_kind
kind_event c h n =
    ⊎_elim (λ k. ⊎_elim (λ e. inl (eqb→eq c 1 e)) (λ e. inr (eqb→eq c 2 e)) (or_e (eqb c 1) (eqb c 2) k)) (λ e. absurd (n (eqb→eq c 7 e)))
    (or_e (eqb c 1 || eqb c 2) (eqb c 7) h)

module _ (s : List ℕ) (h : sheet_refusal s ≡ 0) (t j : ℕ) (l : t < t_of s) (k : j < term_count s t) where
  pub met_at : (d : ℕ) → term_kind s t j ≡ d → T (kind_ok s t j d)
  unfolding term_ok
  met_at d e = subst (λ (c : ℕ). T (kind_ok s t j c)) e ((sound s h).terms t l j k)

  -- a kind is below 8, and 0 for a delay alone
  kind-lt : term_kind s t j < 8
  kind-lt = lt_of_not-le (λ g. of_false (kind_none s t j (term_kind s t j) g) (met_at (term_kind s t j) refl))

  kind_pos : is_delay s t ≡ false → term_kind s t j ≡ 0 → ⊥
  unfolding is_delay kind_ok
  kind_pos d e =
      let one : term_count s t ≡ 1 = eqb→eq (term_count s t) 1 (and_l (eqb (term_count s t) 1) (leb (term_value s t j) 65535) (met_at 0 e)) in
      let z : j ≡ 0 = omega arith in
      of_false d (of_true (eq-eqb (term_kind s t 0) 0 (ap (term_kind s t) (sym z) ∙ e)))

  -- a value other than a mask is below 64
  value_small : (term_kind s t j ≡ 0 → ⊥) → (term_kind s t j ≡ 3 → ⊥) → (term_kind s t j ≡ 7 → ⊥) → term_value s t j < 64
  value_small = kind_small s t j (term_kind s t j) (k_le s (sound s h)) (n_le s (sound s h)) (t_le s (sound s h)) (met_at (term_kind s t j) refl)

  -- the number of an event, and a mask
  event_lt : (term_kind s t j ≡ 1) ⊎ (term_kind s t j ≡ 2) → term_value s t j < 6
  unfolding kind_ok
  event_lt (inl e) = omega (arith, k_le s (sound s h), ltb→lt (term_value s t j) (k_of s) (met_at 1 e))
  event_lt (inr e) = omega (arith, k_le s (sound s h), ltb→lt (term_value s t j) (k_of s) (met_at 2 e))

  event_small : term_kind s t j ≡ 2 → term_value s t j < 32
  event_small e = omega (arith, event_lt (inr e))

  pub mask_lt : term_kind s t j ≡ 3 → term_value s t j < 2 ^ n_of s
  unfolding kind_ok
  mask_lt e = ltb→lt (term_value s t j) (2 ^ n_of s) (and_r (ltb 0 (term_value s t j)) (ltb (term_value s t j) (2 ^ n_of s)) (met_at 3 e))

  -- what the test of a term of another kind than "or" asks, of words that are its kind and value
  pub term_asks : is_delay s t ≡ false → (c v : ℕ) → c ≡ term_kind s t j → v ≡ term_value s t j → (c ≡ 7 → ⊥) → (c < 7) × ((c ≡ 3 → ⊥) → v < 64)
  term_asks d c v e f n =
      let no : (x : ℕ) → (c ≡ x → ⊥) → term_kind s t j ≡ x → ⊥ = λ x m k. m (e ∙ k) in (
        lt_of_le-ne (le_of_suc-le-suc (subst (λ (x : ℕ). x < 8) (sym e) kind-lt)) n,
        λ m. subst (λ (x : ℕ). x < 64) (sym f) (value_small (kind_pos d) (no 3 m) (no 7 n)),
      )

  -- and a term that speaks of events only
  pub event_asks : events_only s t ≡ true → (c v : ℕ) → c ≡ term_kind s t j → v ≡ term_value s t j → (c ≡ 7 → ⊥) → ((c ≡ 1) ⊎ (c ≡ 2)) × (v < 6)
  unfolding events_only
  event_asks d c v e f n =
      let m = kind_event c (subst (λ (x : ℕ). T (is_event_kind x)) (sym e) (every_e (term_count s t) (λ u. is_event_kind (term_kind s t u)) (of_true d) j k)) n in
      (m, subst (λ (x : ℕ). x < 6) (sym f) (event_lt (subst (λ (x : ℕ). (x ≡ 1) ⊎ (x ≡ 2)) e m)))

-- where the words of term j stand, and how many terms there are
module _ (s : List ℕ) (t at j : ℕ) (e : at ≡ offset s t) where
  pub kind_word : get_or s (at + 2 + 2 * j) 0 ≡ term_kind s t j
  unfolding term_kind word
  kind_word = rw e

  pub value_word : get_or s (at + 2 + 2 * j + 1) 0 ≡ term_value s t j
  unfolding term_value word
  value_word = let k : at + 2 + 2 * j + 1 ≡ offset s t + 3 + 2 * j = omega arith in rw k

pub count_le : {s : List ℕ} {t : ℕ} → Record s t → term_count s t ≤ 16
unfolding term_count
count_le {s} {t} r = omega (arith, placed r)

pub terms_room : {s : List ℕ} {t : ℕ} → Record s t → offset s t + 2 + 2 * term_count s t ≤ length s
unfolding term_count
terms_room {s} {t} r = omega (arith, placed r)

-- ---- the loop over the terms: what is left from term j on

module _ (s f : List ℕ) (t : ℕ) where
  -- the terms from term j on, of alternative a
  abbrev left : ℕ → ℕ → ℕ → Bool → ℕ
  left n j a ok = alternative_by_from s f t (n - j) j a ok

  step : (n j a : ℕ) (ok : Bool) → j < n
      → left n j a ok
      ≡ cond (eqb (term_kind s t j) 7) (cond ok a (left n (j + 1) (a + 1) true)) (left n (j + 1) a (ok && holds_by f (term_kind s t j) (term_value s t j)))
  unfolding alternative_by_from
  step n j a ok l =
      let e : n - j ≡ suc (n - (j + 1)) = omega arith in
      rw (e, add-one j, add-one a)

  -- at an "or" the alternative holds, or the next begins
  pub or_found : (n j a : ℕ) (ok : Bool) → j < n → term_kind s t j ≡ 7 → ok ≡ true → left n j a ok ≡ a
  or_found n j a ok l e o = step n j a ok l ∙ rw (eq-eqb (term_kind s t j) 7 e, o)

  pub or_next : (n j a : ℕ) (ok : Bool) → j < n → term_kind s t j ≡ 7 → ok ≡ false → left n (j + 1) (a + 1) true ≡ left n j a ok
  or_next n j a ok l e o = sym (step n j a ok l ∙ rw (eq-eqb (term_kind s t j) 7 e, o))

  -- another term holds, or not
  pub term_next : (n j a : ℕ) (ok r : Bool) → j < n → (term_kind s t j ≡ 7 → ⊥) → r ≡ holds_by f (term_kind s t j) (term_value s t j)
      → left n (j + 1) a (ok && r) ≡ left n j a ok
  term_next n j a ok r l e h = sym (step n j a ok l ∙ rw (ne_eqb (term_kind s t j) 7 e, h))

  -- no term is left
  pub terms_end : (n j a : ℕ) (ok : Bool) → n ≤ j → left n j a ok ≡ cond ok a 0
  unfolding alternative_by_from
  terms_end n j a ok l = let e : n - j ≡ 0 = omega arith in rw e

  -- an alternative is counted from 1
  number_pos : (a : ℕ) → ltb 0 (suc a) ≡ true
  number_pos a = lt-ltb 0 (suc a) (omega arith)

  -- whether some alternative holds does not hang on the number of the first, from 1 on
  left_some : (w j a b : ℕ) (ok : Bool) → ltb 0 (alternative_by_from s f t w j (suc a) ok) ≡ ltb 0 (alternative_by_from s f t w j (suc b) ok)
  unfolding alternative_by_from
  left_some zero j a b true = number_pos a ∙ sym (number_pos b)
  left_some zero j a b false = refl
  left_some (suc w) j a b ok =
      go _ _ _ _ (eqb (term_kind s t j) 7) ok (left_some w (suc j) (suc a) (suc b) true) (left_some w (suc j) a b (ok && holds_by f (term_kind s t j) (term_value s t j)))
    where
      go : (x y p q : ℕ) (o k : Bool) → ltb 0 x ≡ ltb 0 y → ltb 0 p ≡ ltb 0 q → ltb 0 (cond o (cond k (suc a) x) p) ≡ ltb 0 (cond o (cond k (suc b) y) q)
      go x y p q true true next same = number_pos a ∙ sym (number_pos b)
      go x y p q true false next same = next
      go x y p q false k next same = same

  -- some alternative holds: one before this (x), or this one, whose terms before j hold or not (ok), or a later one
  abbrev pub some_from : ℕ → ℕ → Bool → Bool → Bool
  some_from n j x ok = x || ltb 0 (left n j 1 ok)

  pub some_from_start : some_from (term_count s t) 0 false true ≡ ltb 0 (alternative_by s f t)
  unfolding alternative_by
  some_from_start = rw sub-zero

  pub some_from_or : (n j : ℕ) (x ok : Bool) → j < n → term_kind s t j ≡ 7 → some_from n (j + 1) (x || ok) true ≡ some_from n j x ok
  some_from_or n j x ok l e = go x ok
    where
      go : (y k : Bool) → some_from n (j + 1) (y || k) true ≡ some_from n j y k
      go true k = refl
      go false true = sym (ap (ltb 0) (or_found n j 1 true l e refl))
      go false false = left_some (n - (j + 1)) (j + 1) 0 1 true ∙ ap (ltb 0) (or_next n j 1 false l e refl)

  pub some_from_term : (n j : ℕ) (x ok r : Bool) → j < n → (term_kind s t j ≡ 7 → ⊥) → r ≡ holds_by f (term_kind s t j) (term_value s t j)
      → some_from n (j + 1) x (ok && r) ≡ some_from n j x ok
  some_from_term n j x ok r l e h = ap (λ (y : ℕ). x || ltb 0 y) (term_next n j 1 ok r l e h)

  pub some_from_end : (n j : ℕ) (x ok : Bool) → n ≤ j → some_from n j x ok ≡ (x || ok)
  some_from_end n j x ok l = ap (λ (y : ℕ). x || ltb 0 y) (terms_end n j 1 ok l) ∙ ap (λ (y : Bool). x || y) (go ok)
    where
      go : (k : Bool) → ltb 0 (cond k 1 0) ≡ k
      go true = refl
      go false = refl

-- ---- the words of a tick say of a term what its sets say

-- the first of some tests, and ok
unfoldable and_first : Bool → List Bool → List Bool
and_first ok [] = []
and_first ok (b ∷ bs) = (ok && b) ∷ bs

and_none : (l : List Bool) → and_first true l ≡ l
unfolding and_first
and_none [] = refl
and_none (b ∷ l) = refl

module _ (s : List ℕ) (i : ℕ) (z : TickSets) (b : i < 2 ^ 32) where
  pub none_by : (c v : ℕ) → holds_by (facts_of i z) (suc (suc (suc (suc (suc (suc (suc (suc c)))))))) v ≡ false
  unfolding holds_by
  none_by c v = rw (above_not 7 (suc (suc (suc (suc (suc (suc (suc (suc c)))))))) 3 (omega arith) tt) (has_none v)

  holds_by_lem : (c v : ℕ) → (c ≡ 2 → v < 32) → (c ≡ 3 → v < 2 ^ n_of s) → holds_by (facts_of i z) c v ≡ holds s i z c v
  unfolding holds_by holds some_in
  holds_by_lem zero v p q = has_none v
  holds_by_lem (suc zero) v p q = refl
  holds_by_lem (suc (suc zero)) v p q = has-not 32 i v b (p refl)
  holds_by_lem (suc (suc (suc zero))) v p q = meets-some (n_of s) v z.active (q refl)
  holds_by_lem (suc (suc (suc (suc zero)))) v p q = refl
  holds_by_lem (suc (suc (suc (suc (suc zero))))) v p q = refl
  holds_by_lem (suc (suc (suc (suc (suc (suc zero)))))) v p q = refl
  holds_by_lem (suc (suc (suc (suc (suc (suc (suc zero))))))) v p q = has_none v
  holds_by_lem (suc (suc (suc (suc (suc (suc (suc (suc c)))))))) v p q =
      none_by c v ∙ sym (holds_none s i z (suc (suc (suc (suc (suc (suc (suc (suc c)))))))) v (omega arith))

  -- term j of t holds: by the sets, by the words f
  abbrev judged : ℕ → ℕ → Bool
  judged t j = holds s i z (term_kind s t j) (term_value s t j)

  abbrev judged_by : List ℕ → ℕ → ℕ → Bool
  judged_by f t j = holds_by f (term_kind s t j) (term_value s t j)

  -- the alternatives of the terms from term j on, where the terms before j that belong to the first have held or not
  abbrev from_here : ℕ → ℕ → ℕ → Bool → List Bool
  from_here t w j ok = and_first ok (map (all_hold s i z t) (alternatives_from s t w j))

  -- one term more of the first alternative
  more_first : (t j : ℕ) (ok : Bool) (l : List (List ℕ))
      → and_first (ok && judged t j) (map (all_hold s i z t) l) ≡ and_first ok (map (all_hold s i z t) (in_first j l))
  unfolding and_first all_hold in_first all_of
  more_first t j ok [] = refl
  more_first t j ok (js ∷ l) =
      ap (λ (b : Bool). b ∷ map (all_hold s i z t) l) (and_assoc ok (judged t j) (all_hold s i z t js))

  -- the recursion that the code follows gives the first alternative that holds
  by_from : (f : List ℕ) (t w j a : ℕ) (ok : Bool) → ((u : ℕ) → u < j + w → judged_by f t u ≡ judged t u)
      → alternative_by_from s f t w j a ok ≡ first_of a (from_here t w j ok)
  unfolding alternative_by_from alternatives_from and_first all_hold all_of first_of
  by_from f t zero j a ok h = ap (λ (b : Bool). cond b a 0) (sym (and-true ok))
  by_from f t (suc w) j a ok h =
      go (eqb (term_kind s t j) 7) (by_from f t w (suc j) (suc a) true on) (by_from f t w (suc j) a (ok && judged t j) on)
    where
      on : (u : ℕ) → u < suc j + w → judged_by f t u ≡ judged t u
      on u l = h u (omega arith)

      go : (b : Bool) → alternative_by_from s f t w (suc j) (suc a) true ≡ first_of (suc a) (from_here t w (suc j) true)
          → alternative_by_from s f t w (suc j) a (ok && judged t j) ≡ first_of a (from_here t w (suc j) (ok && judged t j))
          → cond b (cond ok a (alternative_by_from s f t w (suc j) (suc a) true)) (alternative_by_from s f t w (suc j) a (ok && judged_by f t j))
          ≡ first_of a (and_first ok (map (all_hold s i z t) (cond b ([] ∷ alternatives_from s t w (suc j)) (in_first j (alternatives_from s t w (suc j))))))
      go true next same =
          ap₂ (λ (b : Bool) (n : ℕ). cond b a n) (sym (and-true ok))
          (next ∙ ap (first_of (suc a)) (and_none (map (all_hold s i z t) (alternatives_from s t w (suc j)))))
      go false next same =
          ap (λ (b : Bool). alternative_by_from s f t w (suc j) a (ok && b)) (h j (omega arith))
          ∙ same
          ∙ ap (first_of a) (more_first t j ok (alternatives_from s t w (suc j)))

  pub alternative_by_lem : (t : ℕ) → sheet_refusal s ≡ 0 → t < t_of s → alternative_by s (facts_of i z) t ≡ alternative s i z t
  unfolding alternative_by alternative alternatives
  alternative_by_lem t h l =
      by_from (facts_of i z) t (term_count s t) 0 1 true
      (λ u k. let m : u < term_count s t = omega arith in holds_by_lem (term_kind s t u) (term_value s t u) (event_small s h t u l m) (mask_lt s h t u l m))
      ∙ ap (first_of 1) (and_none (map (all_hold s i z t) (alternatives_from s t (term_count s t) 0)))

-- ---- terms that speak of events only say the same on any sets

module _ (s : List ℕ) (i : ℕ) (y z : TickSets) where
  event_same : (c v : ℕ) → T (is_event_kind c) → holds s i y c v ≡ holds s i z c v
  unfolding is_event_kind holds
  event_same c v h = ⊎_elim (λ k. ⊎_elim (at 1 refl) (at 2 refl) (or_e (eqb c 1) (eqb c 2) k)) (at 7 refl) (or_e (eqb c 1 || eqb c 2) (eqb c 7) h)
    where
      at : (d : ℕ) → holds s i y d v ≡ holds s i z d v → T (eqb c d) → holds s i y c v ≡ holds s i z c v
      at d e k = rw (eqb→eq c d k) e

  pub events_alone : (t : ℕ) → i < 2 ^ 32 → sheet_refusal s ≡ 0 → t < t_of s → events_only s t ≡ true → alternative s i y t ≡ alternative s i z t
  unfolding events_only alternative_by alternative alternatives
  events_alone t b h l e =
      sym (alternative_by_lem s i y b t h l)
      ∙ by_from s i z b (facts_of i y) t (term_count s t) 0 1 true
      (λ u k.
      let m : u < term_count s t = omega arith in
      holds_by_lem s i y b (term_kind s t u) (term_value s t u) (event_small s h t u l m) (mask_lt s h t u l m)
      ∙ event_same (term_kind s t u) (term_value s t u) (every_e (term_count s t) (λ j. is_event_kind (term_kind s t j)) (of_true e) u m))
      ∙ ap (first_of 1) (and_none (map (all_hold s i z t) (alternatives_from s t (term_count s t) 0)))
