-- The targets of each source, gathered transition by transition: where one is met again, two transitions share both ends. Assumes nothing.
use mathlib.Core.Path.{◌≡◌, refl, sym, ap, ap₂, ◌∙◌}
use mathlib.Core.Bool.{Bool, ◌&&◌, ◌||◌, or_comm}
use mathlib.Core.List.{List}
use Prim.Native.Nat.{ℕ, ◌+◌, ◌<◌}
use native.Mathlib.Numerals.{add-one}
use native.Mathlib.Omega.{arith}
use lib.Dec.{T, eqb, ltb→lt}
use lib.ListN.{length, get_or, set}
use borrow.Author.Tests.{eq-eqb, ne_eqb}
use Rattle.sets.specs.Sets.{has, union, single, some}
use Rattle.sets.proofs.Tests.{eqb-sym}
use Rattle.sets.proofs.Membership.{has_none, has-union, has-single}
use Rattle.sets.proofs.Facts.{every_e}
use Rattle.sets.proofs.Loops.{set_word_has}
use Rattle.meaning.specs.Sheet.{n_of, t_of, source, target}
use Rattle.meaning.specs.Check.{head_ok, pairs_ok, end_ok, ends_ok, shares_ends}
use Rattle.meaning.proofs.ListLaws.{all_of_e}
use Rattle.sheet.proofs.SheetTestLaws.{head_of}

-- the ends of a transition are modes
pub ends_modes : (s : List ℕ) → T (ends_ok s) → (t : ℕ) → t < t_of s → (source s t < n_of s) × (target s t < n_of s)
unfolding ends_ok end_ok
ends_modes s h t l =
    let r = all_of_e _ (every_e (t_of s) (end_ok s) h t l) in
    (ltb→lt (source s t) (n_of s) r.0, ltb→lt (target s t) (n_of s) r.1.0)

pub source_small : (s : List ℕ) {n t a : ℕ} → T (head_ok s) × T (pairs_ok s) × T (ends_ok s) → n ≡ t_of s → t < n → a ≡ source s t → a < 32
source_small s {n} {t} r c l e = omega (arith, e, (ends_modes s r.2 t (omega arith)).0, head_of s r.0)

pub target_small : (s : List ℕ) {n t b : ℕ} → T (head_ok s) × T (pairs_ok s) × T (ends_ok s) → n ≡ t_of s → t < n → b ≡ target s t → b < 32
target_small s {n} {t} r c l e = omega (arith, e, (ends_modes s r.2 t (omega arith)).1, head_of s r.0)

module _ (s : List ℕ) where
  abbrev goes : ℕ → ℕ → ℕ → Bool
  goes a b u = eqb (source s u) a && eqb (target s u) b

  -- word a is the set of the targets of the transitions below t with source a
  abbrev pub TargetsTo : ℕ → List ℕ → Type 0
  TargetsTo t words = (a b : ℕ) → has (get_or words a 0) b ≡ some t (goes a b)

  pub targets_start : (words : List ℕ) → ((a : ℕ) → get_or words a 0 ≡ 0) → TargetsTo 0 words
  unfolding some
  targets_start words f a b = ap (λ (w : ℕ). has w b) (f a) ∙ has_none b

  pub targets_turn : (words : List ℕ) (t a b x : ℕ) → a ≡ source s t → b ≡ target s t → a < length words → x ≡ single b → TargetsTo t words
      → TargetsTo (t + 1) (set words a (union (get_or words a 0) x))
  unfolding some
  targets_turn words t a b x ea eb room ex h c d =
      rw (add-one t)
      (set_word_has words a (union (get_or words a 0) x) c d room
      (λ e.
      has-union (get_or words a 0) x d
      ∙ ap₂ ◌||◌ (h a d) (ap (λ (w : ℕ). has w d) ex ∙ has-single b d ∙ eqb-sym d b)
      ∙ or_comm (some t (goes a d)) (eqb b d)
      ∙ ap₂ ◌||◌ (ap₂ ◌&&◌ (sym (eq-eqb (source s t) a (sym ea))) (ap (λ (i : ℕ). eqb i d) eb)) refl
      ∙ ap (λ (i : ℕ). goes i d t || some t (goes i d)) (sym e))
      (λ n. h c d ∙ sym (ap (λ (v : Bool). v && eqb (target s t) d || some t (goes c d)) (ne_eqb (source s t) c (λ e. n (sym e ∙ sym ea))))))

  -- the ends of t are those of a transition below it
  pub targets_met : (words : List ℕ) (t a b : ℕ) → a ≡ source s t → b ≡ target s t → TargetsTo t words → has (get_or words a 0) b ≡ shares_ends s t
  unfolding shares_ends
  targets_met words t a b ea eb h = h a b ∙ rw (ea, eb)
