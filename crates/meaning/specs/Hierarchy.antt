-- Consistent sets, completion, and the modes that a transition exits and enters. Assumes nothing.
use Rattle.std.specs.Prelude.{Bool, not, ◌&&◌, ◌||◌, cond, List, [], ◌∷◌, ℕ, zero, suc, ◌^◌, eqb, ltb}
use Rattle.sets.specs.Sets.{has, set_of, those, size, some, every_in}
use Rattle.meaning.specs.Lists.{all_of}
use Rattle.meaning.specs.Sheet.{n_of, kind, parent, first, is_child, source, target, contains, meeting}

module _ (s : List ℕ) where
  -- the children of p
  unfoldable pub children : ℕ → ℕ
  children p = set_of (n_of s) (is_child s p)

  -- a member m of a consistent set x: x has its parent, "just one child of each serial member and all children of each
  -- parallel member"
  unfoldable pub member_ok : ℕ → ℕ → Bool
  member_ok x m =
      all_of
      (has x (parent s m)
      ∷ (not (eqb (kind s m) 1) || eqb (size (n_of s) (those (n_of s) x (is_child s m))) 1)
      ∷ (not (eqb (kind s m) 2) || every_in (n_of s) (children m) (has x))
      ∷ [])

  -- "A set of modes, all below n, is consistent if it has the root and every member's parent, .."
  unfoldable pub consistent : ℕ → Bool
  consistent x = all_of (ltb x (2 ^ n_of s) ∷ has x 0 ∷ every_in (n_of s) x (member_ok x) ∷ [])

  -- p brings in its child m: "A serial mode is completed by its first mode, a parallel mode by all its children"; "a serial
  -- mode with a child already in the set keeps that child"
  unfoldable pub brings : ℕ → ℕ → ℕ → Bool
  brings x p m =
      eqb (kind s p) 2
      || eqb (kind s p) 1 && eqb (first s p) m && not (some (n_of s) (λ c. is_child s p c && has x c))

  -- "and so on down": m is in x completed if it is in x, or its parent is in x completed and brings it in
  unfoldable pub completed_in : ℕ → ℕ → ℕ → Bool
  completed_in zero x m = has x m
  completed_in (suc f) x m =
      let r = completed_in f x (parent s m) in
      has x m || ltb 0 m && brings x (parent s m) m && r

  -- the set x completed
  unfoldable pub complete : ℕ → ℕ
  complete x = set_of (n_of s) (λ m. completed_in m x m)

  -- the child of p that holds m: the first of m, its parent, .. whose parent is p
  unfoldable pub child_in : ℕ → ℕ → ℕ → ℕ
  child_in zero p m = m
  child_in (suc f) p m = let r = child_in f p (parent s m) in cond (eqb (parent s m) p) m r

  unfoldable pub child_holding : ℕ → ℕ → ℕ
  child_holding p m = child_in m p m

  -- t "exits the meeting mode's child that holds the source, with the active modes within it": the modes it exits if active
  unfoldable pub exits : ℕ → ℕ
  exits t = let c = child_holding (meeting s t) (source s t) in set_of (n_of s) (contains s c)

  -- t "enters the path from the meeting mode's child down to the target, completed"
  unfoldable pub enters : ℕ → ℕ
  enters t =
      let c = child_holding (meeting s t) (target s t) in
      complete (set_of (n_of s) (λ m. contains s c m && contains s m (target s t)))
