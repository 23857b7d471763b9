-- What terms are about: one term, and the loop over the terms of a transition. Assumes nothing.
use mathlib.Core.Path.{◌≡◌, refl, sym, ap, ap₂, ◌∙◌, subst}
use mathlib.Core.Logic.{◌⊎◌, inl, inr, ⊎_elim}
use mathlib.Core.Bool.{Bool, true, false, ◌&&◌, ◌||◌, or-false}
use mathlib.Core.List.{List}
use Prim.Native.Nat.{ℕ, ◌+◌, ◌<◌}
use native.Mathlib.Omega.{arith}
use lib.Dec.{T, eqb, eqb→eq, ltb→lt}
use borrow.Author.Tests.{ne_eqb}
use Rattle.sets.specs.Sets.{has, union, single, some}
use Rattle.sets.proofs.Tests.{of_true, and_l, and_r, or_e, eqb-sym}
use Rattle.sets.proofs.Facts.{has-lt, some_e}
use Rattle.sets.proofs.Membership.{has_none, has-single, has-union}
use Rattle.sets.proofs.Quantifiers.{some-false}
use Rattle.sets.proofs.Loops.{some_or}
use Rattle.meaning.specs.Sheet.{n_of, k_of, t_of, term_count, term_kind, term_value}
use Rattle.meaning.specs.Check.{kind_ok, sheet_refusal}
use Rattle.meaning.specs.Reaction.{is_delay}
use Rattle.meaning.specs.NamedEvents.{names}
use Rattle.meaning.proofs.SheetLaws.{sound, n_le, k_le, t_le}
use Rattle.reaction.proofs.TermLaws.{met_at, mask_lt}
use Rattle.reaction.proofs.AboutLaws.{delay-kind}
use Rattle.planner.specs.Looks.{on_event, on_entry, on_exit, on_taken, some_term, LooksTo, looks_entry, looks_exit, looks_taken}

-- ---- one term

-- a number alone where a test passes, and nothing where not
pub one_where : (b : Bool) (v i : ℕ) {x r : ℕ} → b ≡ true → x ≡ v → r ≡ single x → has r i ≡ (b && eqb v i)
one_where b v i k q e = rw (k, e, q) (has-single v i ∙ eqb-sym i v)

pub none_where : (b : Bool) (v i : ℕ) → b ≡ false → has 0 i ≡ (b && eqb v i)
none_where b v i k = rw k (has_none i)

-- the events of a term
module _ (c v e : ℕ) where
  pub event_one : {x r : ℕ} → (c ≡ 1) ⊎ (c ≡ 2) → x ≡ v → r ≡ single x → has r e ≡ on_event c v e
  event_one k q f = one_where (eqb c 1 || eqb c 2) v e (⊎_elim (λ p. rw p) (λ p. rw p) k) q f

  pub event_none : (c ≡ 1 → ⊥) → (c ≡ 2 → ⊥) → has 0 e ≡ on_event c v e
  event_none p q = rw (ne_eqb c 1 p, ne_eqb c 2 q) (has_none e)

-- the modes of a term about entry: a mask, one mode, none
module _ (c v m : ℕ) where
  pub entry_mask : c ≡ 3 → has v m ≡ on_entry c v m
  entry_mask e = rw e (sym (or-false (has v m)))

  pub entry_one : {x r : ℕ} → c ≡ 4 → x ≡ v → r ≡ single x → has r m ≡ on_entry c v m
  entry_one e q k = rw (e, k, q) (has-single v m ∙ eqb-sym m v)

  pub entry_none : (c ≡ 3 → ⊥) → (c ≡ 4 → ⊥) → has 0 m ≡ on_entry c v m
  entry_none p q = rw (ne_eqb c 3 p, ne_eqb c 4 q) (has_none m)

-- ---- the terms of a transition of a sheet past 1 to 6

module _ (s : List ℕ) (h : sheet_refusal s ≡ 0) (u : ℕ) (l : u < t_of s) where
  module _ (j : ℕ) (k : j < term_count s u) where
    event_value : (term_kind s u j ≡ 1) ⊎ (term_kind s u j ≡ 2) → term_value s u j < k_of s
    unfolding kind_ok
    event_value (inl e) = ltb→lt (term_value s u j) (k_of s) (met_at s h u j l k 1 e)
    event_value (inr e) = ltb→lt (term_value s u j) (k_of s) (met_at s h u j l k 2 e)

    mode_value : (term_kind s u j ≡ 4) ⊎ (term_kind s u j ≡ 5) → term_value s u j < n_of s
    unfolding kind_ok
    mode_value (inl e) = ltb→lt (term_value s u j) (n_of s) (met_at s h u j l k 4 e)
    mode_value (inr e) = ltb→lt (term_value s u j) (n_of s) (met_at s h u j l k 5 e)

    taken_value : term_kind s u j ≡ 6 → term_value s u j < t_of s
    unfolding kind_ok
    taken_value e = ltb→lt (term_value s u j) (t_of s) (met_at s h u j l k 6 e)

    -- so of the words that are its kind and value
    module _ {c v : ℕ} (p : c ≡ term_kind s u j) (q : v ≡ term_value s u j) where
      pub event_asks : (c ≡ 1) ⊎ (c ≡ 2) → v < 64
      event_asks e = omega (arith, q, k_le s (sound s h), event_value (⊎_elim (λ x. inl (sym p ∙ x)) (λ x. inr (sym p ∙ x)) e))

      pub mode_asks : (c ≡ 4) ⊎ (c ≡ 5) → v < 32
      mode_asks e = omega (arith, q, n_le s (sound s h), mode_value (⊎_elim (λ x. inl (sym p ∙ x)) (λ x. inr (sym p ∙ x)) e))

      pub taken_asks : c ≡ 6 → v < 64
      taken_asks e = omega (arith, q, t_le s (sound s h), taken_value (sym p ∙ e))

  -- a term is about modes and transitions of the sheet
  pub entry_lt : (m : ℕ) → T (looks_entry s u m) → m < n_of s
  unfolding looks_entry
  entry_lt m b =
      let r = some_e (term_count s u) (λ j. on_entry (term_kind s u j) (term_value s u j) m) b in
      let c = term_kind s u r.0 in
      let v = term_value s u r.0 in
      ⊎_elim (λ a. has-lt (n_of s) v m (mask_lt s h u r.0 l r.1 (eqb→eq c 3 (and_l (eqb c 3) (has v m) a))) (and_r (eqb c 3) (has v m) a))
      (λ a.
      subst (λ (i : ℕ). i < n_of s) (eqb→eq v m (and_r (eqb c 4) (eqb v m) a)) (mode_value r.0 r.1 (inl (eqb→eq c 4 (and_l (eqb c 4) (eqb v m) a)))))
      (or_e (eqb c 3 && has v m) (eqb c 4 && eqb v m) r.2)

  pub exit_lt : (m : ℕ) → T (looks_exit s u m) → m < n_of s
  unfolding looks_exit
  exit_lt m b =
      let r = some_e (term_count s u) (λ j. on_exit (term_kind s u j) (term_value s u j) m) b in
      let c = term_kind s u r.0 in
      let v = term_value s u r.0 in
      subst (λ (i : ℕ). i < n_of s) (eqb→eq v m (and_r (eqb c 5) (eqb v m) r.2))
      (mode_value r.0 r.1 (inr (eqb→eq c 5 (and_l (eqb c 5) (eqb v m) r.2))))

  pub taken_lt : (t : ℕ) → T (looks_taken s u t) → t < t_of s
  unfolding looks_taken
  taken_lt t b =
      let r = some_e (term_count s u) (λ j. on_taken (term_kind s u j) (term_value s u j) t) b in
      let c = term_kind s u r.0 in
      let v = term_value s u r.0 in
      subst (λ (i : ℕ). i < t_of s) (eqb→eq v t (and_r (eqb c 6) (eqb v t) r.2))
      (taken_value r.0 r.1 (eqb→eq c 6 (and_l (eqb c 6) (eqb v t) r.2)))

-- ---- the loop over the terms

module _ (s : List ℕ) (u : ℕ) where
  pub looks_start : LooksTo s u 0 0 0 0 0
  unfolding some
  looks_start = record { events = has_none; entry = has_none; exit = has_none; taken = has_none }

  -- one word with one term more
  more : (on : ℕ → ℕ → ℕ → Bool) (n i c v a x : ℕ) → c ≡ term_kind s u n → v ≡ term_value s u n → has a i ≡ some_term s on u n i → has x i ≡ on c v i
      → has (union a x) i ≡ some_term s on u (n + 1) i
  more on n i c v a x p q e f =
      has-union a x i ∙ some_or (λ j. on (term_kind s u j) (term_value s u j) i) n e (f ∙ ap₂ (λ (b d : ℕ). on b d i) p q)

  pub looks_turn : (n x y z w : ℕ) {c v a b d e : ℕ} → c ≡ term_kind s u n → v ≡ term_value s u n → LooksTo s u n a b d e
      → ((i : ℕ) → has x i ≡ on_event c v i) → ((i : ℕ) → has y i ≡ on_entry c v i) → ((i : ℕ) → has z i ≡ on_exit c v i) → ((i : ℕ) → has w i ≡ on_taken c v i)
      → LooksTo s u (n + 1) (union a x) (union b y) (union d z) (union e w)
  looks_turn n x y z w {c} {v} {a} {b} {d} {e} p q k ex ey ez ew =
      record {
        events = λ i. more on_event n i c v a x p q (k.events i) (ex i);
        entry = λ i. more on_entry n i c v b y p q (k.entry i) (ey i);
        exit = λ i. more on_exit n i c v d z p q (k.exit i) (ez i);
        taken = λ i. more on_taken n i c v e w p q (k.taken i) (ew i);
      }

  pub looks_done : {n m a b d e : ℕ} → LooksTo s u n a b d e → n ≡ m → LooksTo s u m a b d e
  looks_done k q = rw q at k

-- a delay is about none of these
module _ (s : List ℕ) (h : sheet_refusal s ≡ 0) (t : ℕ) (l : t < t_of s) (w : is_delay s t ≡ true) where
  none : (on : ℕ → ℕ → ℕ → Bool) (i : ℕ) → ((v : ℕ) → on 0 v i ≡ false) → has 0 i ≡ some_term s on t (term_count s t) i
  none on i e =
      has_none i
      ∙ sym (some-false (term_count s t) (λ j. on (term_kind s t j) (term_value s t j) i) (λ j k.
      ap (λ (c : ℕ). on c (term_value s t j) i) (delay-kind s h t l (of_true w) j k) ∙ e (term_value s t j)))

  pub delay_looks : LooksTo s t (term_count s t) 0 0 0 0
  delay_looks =
      record {
        events = λ i. none on_event i (λ v. refl);
        entry = λ i. none on_entry i (λ v. refl);
        exit = λ i. none on_exit i (λ v. refl);
        taken = λ i. none on_taken i (λ v. refl);
      }

-- what the terms of a transition are about, by its words
module _ (s : List ℕ) (h : sheet_refusal s ≡ 0) (t : ℕ) (l : t < t_of s) {es ms xs ts : ℕ} (o : LooksTo s t (term_count s t) es ms xs ts) where
  pub names_are : (e : ℕ) → has es e ≡ names s t e
  unfolding names
  names_are e = o.events e

  pub entry_is : (m : ℕ) → has ms m ≡ looks_entry s t m
  unfolding looks_entry
  entry_is m = o.entry m

  pub exit_is : (m : ℕ) → has xs m ≡ looks_exit s t m
  unfolding looks_exit
  exit_is m = o.exit m

  pub taken_is : (v : ℕ) → has ts v ≡ looks_taken s t v
  unfolding looks_taken
  taken_is v = o.taken v

  -- what the words are about is in the sheet
  pub entry_small : (m : ℕ) → T (has ms m) → m < 32
  entry_small m q = omega (arith, n_le s (sound s h), entry_lt s h t l m (subst T (entry_is m) q))

  pub exit_small : (m : ℕ) → T (has xs m) → m < 32
  exit_small m q = omega (arith, n_le s (sound s h), exit_lt s h t l m (subst T (exit_is m) q))

  pub taken_small : (v : ℕ) → T (has ts v) → v < 64
  taken_small v q = omega (arith, t_le s (sound s h), taken_lt s h t l v (subst T (taken_is v) q))
