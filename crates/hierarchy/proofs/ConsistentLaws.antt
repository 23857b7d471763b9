-- Consistency on words: a set is tested at 32 places, member by member. Assumes nothing.
use mathlib.Core.Path.{◌≡◌, sym, ap, ◌∙◌}
use mathlib.Core.Bool.{true, false, and-true, and-false}
use mathlib.Core.List.{List}
use Prim.Native.Nat.{ℕ, ◌^◌, ◌<◌}
use native.Mathlib.Nat.{lt_of_lt_of_le, pow-le-pow_right}
use native.Mathlib.Omega.{arith}
use lib.Dec.{eqb, ltb}
use borrow.Author.Tests.{ltb-true, ne_eqb}
use Rattle.sets.specs.Sets.{has, meet, below, those, size, every_in}
use Rattle.sets.proofs.Membership.{those-lt}
use Rattle.sets.proofs.Widths.{meet-set_of, size_width, every_in_width, every_in_below}
use Rattle.meaning.specs.Lists.{all_of}
use Rattle.meaning.specs.Sheet.{n_of, kind, parent, is_child}
use Rattle.meaning.specs.Check.{sheet_refusal}
use Rattle.meaning.specs.Hierarchy.{children, member_ok, consistent}
use Rattle.meaning.proofs.SheetLaws.{sound, n_le}
use Rattle.sheet.proofs.MaskLaws.{children-lt}

module _ (s : List ℕ) (h : sheet_refusal s ≡ 0) where
  pub fits_32 : {x : ℕ} → x < 2 ^ n_of s → x < 2 ^ 32
  fits_32 l = lt_of_lt_of_le l (pow-le-pow_right (omega arith) (n_le s (sound s h)))

  one_child : (x m : ℕ) → size (n_of s) (those (n_of s) x (is_child s m)) ≡ size 32 (meet x (children s m))
  unfolding children
  one_child x m =
      let l = those-lt (n_of s) x (is_child s m) in
      size_width (n_of s) 32 l (fits_32 l) ∙ ap (size 32) (sym (meet-set_of (n_of s) x (is_child s m)))

  -- ---- a member of a consistent set, by its kind

  module _ (x m : ℕ) where
    pub member_orphan : has x (parent s m) ≡ false → member_ok s x m ≡ false
    unfolding member_ok all_of
    member_orphan e = rw e

    module _ (e : has x (parent s m) ≡ true) where
      pub member_serial : kind s m ≡ 1 → eqb (size 32 (meet x (children s m))) 1 ≡ member_ok s x m
      unfolding member_ok all_of
      member_serial k = rw (e, k, one_child x m) (sym (and-true (eqb (size 32 (meet x (children s m))) 1)))

      pub member_parallel : kind s m ≡ 2 → every_in 32 (children s m) (has x) ≡ member_ok s x m
      unfolding member_ok all_of
      member_parallel k =
          rw (e, k)
          (every_in_width 32 (n_of s) (has x) (fits_32 (children-lt s m)) (children-lt s m)
          ∙ sym (and-true (every_in (n_of s) (children s m) (has x))))

      pub member_atomic : (kind s m ≡ 1 → ⊥) → (kind s m ≡ 2 → ⊥) → true ≡ member_ok s x m
      unfolding member_ok all_of
      member_atomic j k = rw (e, ne_eqb (kind s m) 1 j, ne_eqb (kind s m) 2 k)

  -- ---- a consistent set: all its modes below n, the root among them, every member as it must be

  module _ (x : ℕ) (l : x < 2 ^ 32) where
    pub consistent_not_below : every_in 32 x (has (below (n_of s))) ≡ false → false ≡ consistent s x
    unfolding consistent all_of
    consistent_not_below e = rw (sym (every_in_below 32 (n_of s) x l) ∙ e)

    pub consistent_rootless : has x 0 ≡ false → false ≡ consistent s x
    unfolding consistent all_of
    consistent_rootless e = rw e (sym (and-false (ltb x (2 ^ n_of s))))

    module _ (e : every_in 32 x (has (below (n_of s))) ≡ true) where
      pub below_lt_n : x < 2 ^ n_of s
      below_lt_n = ltb-true x (2 ^ n_of s) (sym (every_in_below 32 (n_of s) x l) ∙ e)

      pub consistent-members : has x 0 ≡ true → every_in (n_of s) x (member_ok s x) ≡ consistent s x
      unfolding consistent all_of
      consistent-members r = rw (sym (every_in_below 32 (n_of s) x l) ∙ e, r) (sym (and-true (every_in (n_of s) x (member_ok s x))))
