-- The masks of children: what a word of them holds, and the loop that makes them by adding each mode to its parent's word, its
-- start, its turn at mode m and its end. Assumes nothing.
use mathlib.Core.Path.{◌≡◌, sym, ap, ap₂, ◌∙◌}
use mathlib.Core.Bool.{Bool, false, not, ◌&&◌}
use mathlib.Core.List.{List}
use Prim.Native.Nat.{ℕ, ◌+◌, ◌^◌, ◌≤◌, ◌<◌}
use native.Mathlib.Omega.{arith}
use lib.Dec.{T, eqb}
use lib.ListN.{length, get_or, set, replicate, get_or-replicate}
use borrow.Author.Tests.{eq-eqb, ne_eqb, lt-ltb, le-ltb}
use Rattle.sets.specs.Sets.{has, union, single, set_of, some}
use Rattle.sets.proofs.Loops.{set_word, set_of_none, set_of_width}
use Rattle.sets.proofs.Membership.{set_of-lt, set_of-add, set_of_skip}
use Rattle.sets.proofs.Facts.{set_of_e, set_of_i}
use Rattle.sets.proofs.Quantifiers.{set_of-some}
use Rattle.meaning.specs.Sheet.{n_of, parent, is_child}
use Rattle.meaning.specs.Check.{sheet_refusal}
use Rattle.meaning.specs.Hierarchy.{children}
use Rattle.sheet.specs.Masks.{Children}
use Rattle.sheet.proofs.Past.{mode_small}

-- word p is the set of the children of p below m
abbrev pub ChildrenBelow : List ℕ → ℕ → List ℕ → Type 0
ChildrenBelow s m words = (p : ℕ) → p < 32 → get_or words p 0 ≡ set_of m (is_child s p)

module _ (s : List ℕ) where
  -- ---- the children of p

  pub children-lt : (p : ℕ) → children s p < 2 ^ n_of s
  unfolding children
  children-lt p = set_of-lt (n_of s) (is_child s p)

  pub children_e : (p c : ℕ) → T (has (children s p) c) → (c < n_of s) × T (is_child s p c)
  unfolding children
  children_e p c h = set_of_e (n_of s) (is_child s p) c h

  pub children_i : (p c : ℕ) → c < n_of s → T (is_child s p c) → T (has (children s p) c)
  unfolding children
  children_i p c l h = set_of_i (n_of s) (is_child s p) c l h

  -- the word of a mode
  pub children_word : (words : List ℕ) (p : ℕ) → sheet_refusal s ≡ 0 → p < n_of s → Children s words → get_or words p 0 ≡ children s p
  unfolding Children
  children_word words p h l c = c p (mode_small s h p l)

  -- ---- the loop that makes them

  -- the root is nobody's child
  is_child_root : (p : ℕ) → is_child s p 0 ≡ false
  unfolding is_child
  is_child_root p = ap (λ (b : Bool). b && eqb (parent s 0) p) (le-ltb 0 0 (omega arith))

  is_child-parent : (p m : ℕ) → 0 < m → is_child s p m ≡ eqb (parent s m) p
  unfolding is_child
  is_child-parent p m h = ap (λ (b : Bool). b && eqb (parent s m) p) (lt-ltb 0 m h)

  pub children_start : ChildrenBelow s 1 (replicate 32 0)
  children_start p l = get_or-replicate 32 p 0 0 l ∙ set_of_none (is_child s p) ∙ set_of_skip 0 (is_child s p) (is_child_root p)

  module _ (r : List ℕ) (m : ℕ) (h : 0 < m) (a : ChildrenBelow s m r) where
    -- m is added to no other word than its parent's
    children_other : (p : ℕ) → p < 32 → (parent s m ≡ p → ⊥) → get_or r p 0 ≡ set_of (m + 1) (is_child s p)
    children_other p l n = a p l ∙ set_of_skip m (is_child s p) (is_child-parent p m h ∙ ne_eqb (parent s m) p n)

    pub children-add : (p x : ℕ) → p < length r → p < 32 → p ≡ parent s m → x ≡ single m → ChildrenBelow s (m + 1) (set r p (union (get_or r p 0) x))
    children-add p x k l e f q n = set_word r p _ q k (λ i. added ∙ ap (λ (j : ℕ). set_of (m + 1) (is_child s j)) (sym i)) (λ i. children_other q n (λ j. i (sym (e ∙ j))))
      where
        added : union (get_or r p 0) x ≡ set_of (m + 1) (is_child s p)
        added = ap₂ union (a p l) f ∙ set_of-add m (is_child s p) (is_child-parent p m h ∙ eq-eqb (parent s m) p (sym e))

    -- a parent that is no mode has no word
    pub children-pass : (p : ℕ) → 32 ≤ p → p ≡ parent s m → ChildrenBelow s (m + 1) r
    children-pass p k e q n = children_other q n (λ j. omega arith)

  pub children_end : (r : List ℕ) (m : ℕ) → m ≡ n_of s → ChildrenBelow s m r → Children s r
  unfolding Children children
  children_end r m e a p l = set_of_width (is_child s p) (a p l) e

  -- a mode with a child
  pub children-some : (words : List ℕ) (m : ℕ) → Children s words → m < 32 → not (eqb (get_or words m 0) 0) ≡ some (n_of s) (is_child s m)
  unfolding Children children
  children-some words m h l = ap (λ (w : ℕ). not (eqb w 0)) (h m l) ∙ set_of-some (n_of s) (is_child s m)
