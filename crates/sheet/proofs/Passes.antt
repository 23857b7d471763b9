-- A word for each mode, in one pass over the modes: from the highest mode down each adds a word to its parent's, whose number is lower.
-- What the words hold, bit by bit. Assumes nothing.
use mathlib.Core.Path.{◌≡◌, sym, ap, ap₂, ◌∙◌, subst}
use mathlib.Core.Logic.{⊎_elim}
use mathlib.Core.Bool.{Bool, ◌&&◌, ◌||◌, or-false, or_assoc}
use mathlib.Core.List.{List}
use Prim.Native.Nat.{ℕ, ◌+◌, ◌≤◌, ◌<◌}
use native.Mathlib.Nat.{eq-or-lt_of_le}
use native.Mathlib.Omega.{arith}
use lib.Dec.{T, leb, leb→le, le→leb}
use lib.ListN.{length, get_or, set}
use Rattle.sets.specs.Sets.{has, union, some}
use Rattle.sets.proofs.Tests.{is_true, is_false, and_l, and_r, and_i, or_e, or_l, or_r, bool_ext}
use Rattle.sets.proofs.Membership.{has-union}
use Rattle.sets.proofs.Facts.{some_e, some_i}
use Rattle.sets.proofs.Quantifiers.{some_same, some-false}
use Rattle.sets.proofs.Loops.{set_word_has}
use Rattle.meaning.specs.Sheet.{n_of, parent, is_child}
use Rattle.meaning.proofs.SheetLaws.{Rooted}
use Rattle.meaning.proofs.Containment.{is_child_e, is_child_i}

-- bit i of word p is `own p i` at first, and mode c adds the bits `adds c i` to its parent's word
module _ (s : List ℕ) (own adds : ℕ → ℕ → Bool) where
  abbrev from_child : ℕ → ℕ → ℕ → ℕ → Bool
  from_child m p i c = is_child s p c && leb m c && adds c i

  -- bit i of word p after the modes from m on were added to their parents
  unfoldable pub added_from : ℕ → ℕ → ℕ → Bool
  added_from m p i = own p i || some (n_of s) (from_child m p i)

  abbrev pub Added : ℕ → List ℕ → Type 0
  Added m words = (p i : ℕ) → has (get_or words p 0) i ≡ added_from m p i

  -- and after all were
  abbrev pub added_all : ℕ → ℕ → Bool
  added_all p i = own p i || some (n_of s) (λ c. is_child s p c && adds c i)

  from_i : (m p i c : ℕ) → T (is_child s p c) → m ≤ c → T (adds c i) → T (from_child m p i c)
  from_i m p i c a b g = and_i (is_child s p c && leb m c) (adds c i) (and_i (is_child s p c) (leb m c) a (le→leb m c b)) g

  from_e : (m p i c : ℕ) → T (from_child m p i c) → T (is_child s p c) × (m ≤ c) × T (adds c i)
  from_e m p i c h =
      let a = and_l (is_child s p c && leb m c) (adds c i) h in
      (and_l (is_child s p c) (leb m c) a, leb→le m c (and_r (is_child s p c) (leb m c) a), and_r (is_child s p c && leb m c) (adds c i) h)

  -- mode m is added to its parent, and to no other
  one_more : (m p i : ℕ) → m < n_of s → some (n_of s) (from_child m p i) ≡ (some (n_of s) (from_child (m + 1) p i) || is_child s p m && adds m i)
  one_more m p i l =
      bool_ext (some (n_of s) (from_child m p i)) (some (n_of s) (from_child (m + 1) p i) || is_child s p m && adds m i)
      (λ h.
      let r = some_e (n_of s) (from_child m p i) h in
      let f = from_e m p i r.0 r.2 in
      ⊎_elim
      (λ (e : m ≡ r.0).
      or_r (some (n_of s) (from_child (m + 1) p i)) (is_child s p m && adds m i)
      (subst (λ (c : ℕ). T (is_child s p c && adds c i)) (sym e) (and_i (is_child s p r.0) (adds r.0 i) f.0 f.2)))
      (λ k.
      or_l (some (n_of s) (from_child (m + 1) p i)) (is_child s p m && adds m i)
      (some_i (n_of s) (from_child (m + 1) p i) r.0 r.1 (from_i (m + 1) p i r.0 f.0 (omega arith) f.2)))
      (eq-or-lt_of_le f.1))
      (λ h.
      ⊎_elim
      (λ a.
      let r = some_e (n_of s) (from_child (m + 1) p i) a in
      let f = from_e (m + 1) p i r.0 r.2 in
      some_i (n_of s) (from_child m p i) r.0 r.1 (from_i m p i r.0 f.0 (omega (arith, f.1)) f.2))
      (λ a. some_i (n_of s) (from_child m p i) m l (from_i m p i m (and_l (is_child s p m) (adds m i) a) (omega arith) (and_r (is_child s p m) (adds m i) a)))
      (or_e (some (n_of s) (from_child (m + 1) p i)) (is_child s p m && adds m i) h))

  pub added_start : (words : List ℕ) (n : ℕ) → n ≡ n_of s → ((p i : ℕ) → has (get_or words p 0) i ≡ own p i) → Added n words
  unfolding added_from
  added_start words n e f p i =
      f p i
      ∙ rw e (sym (ap (λ (b : Bool). own p i || b) (some-false (n_of s) (from_child (n_of s) p i) (λ c l. is_false (from_child (n_of s) p i c) (λ h. omega (arith, (from_e (n_of s) p i c h).1)))) ∙ or-false (own p i)))

  pub added_turn : (words : List ℕ) (m p x : ℕ) → 0 < m → m < n_of s → p ≡ parent s m → p < length words → Added (m + 1) words
      → ((i : ℕ) → has x i ≡ adds m i) → Added m (set words p (union (get_or words p 0) x))
  unfolding added_from
  added_turn words m p x pos l e room a g q i =
      set_word_has words p (union (get_or words p 0) x) q i room (λ k. has-union (get_or words p 0) x i ∙ ap₂ ◌||◌ (a p i) (g i) ∙ to_parent q k) (λ k. a q i ∙ to_other q k)
    where
      to_parent : (q : ℕ) → q ≡ p → (added_from (m + 1) p i || adds m i) ≡ added_from m q i
      to_parent q k =
          rw k
          (or_assoc (own p i) (some (n_of s) (from_child (m + 1) p i)) (adds m i)
          ∙ sym (ap (λ (b : Bool). own p i || b) (one_more m p i l ∙ ap (λ (b : Bool). some (n_of s) (from_child (m + 1) p i) || b && adds m i) (is_true (is_child s p m) (is_child_i s p m pos (sym e))))))

      to_other : (q : ℕ) → (q ≡ p → ⊥) → added_from (m + 1) q i ≡ added_from m q i
      to_other q k =
          sym (ap (λ (b : Bool). own q i || b)
          (one_more m q i l
          ∙ ap (λ (b : Bool). some (n_of s) (from_child (m + 1) q i) || b && adds m i) (is_false (is_child s q m) (λ c. k (sym (is_child_e s q m c).1 ∙ sym e)))
          ∙ or-false (some (n_of s) (from_child (m + 1) q i))))

  -- where all children of p were added, word p is whole
  pub added_whole : Rooted s → (m p i : ℕ) → m ≤ p + 1 → added_from m p i ≡ added_all p i
  unfolding added_from
  added_whole ro m p i h =
      ap (λ (b : Bool). own p i || b) (some_same (n_of s) (from_child m p i) (λ c. is_child s p c && adds c i) (λ c l.
      bool_ext (from_child m p i c) (is_child s p c && adds c i)
      (λ k. let f = from_e m p i c k in and_i (is_child s p c) (adds c i) f.0 f.2)
      (λ k.
      let q = is_child_e s p c (and_l (is_child s p c) (adds c i) k) in
      let lower = ro.lower c q.0 l in
      from_i m p i c (and_l (is_child s p c) (adds c i) k) (omega (arith, q.1)) (and_r (is_child s p c) (adds c i) k))))
