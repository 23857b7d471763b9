-- Completion as the code goes: from a mode down. Assumes nothing.
use Rattle.std.specs.Prelude.{Bool, ◌&&◌, cond, List, ℕ, zero, suc, eqb}
use Rattle.sets.specs.Sets.{has, union, single, last}
use Rattle.meaning.specs.Sheet.{n_of, kind, first, is_child}

-- the union of g i over the numbers i below k that pass p
unfoldable pub gather : (ℕ → Bool) → (ℕ → ℕ) → ℕ → ℕ
gather p g zero = 0
gather p g (suc k) = let r = gather p g k in cond (p k) (union r (g k)) r

module _ (s : List ℕ) (x : ℕ) where
  -- the child that serial mode m takes: its child in x, or else its first mode
  unfoldable pub kept_child : ℕ → ℕ
  kept_child m = last (λ c. is_child s m c && has x c) (first s m) (n_of s)

  -- the modes that completing mode m, for the set x, puts below it: below a serial mode the child that it takes and what
  -- completing that one puts below it; below any other mode all its children, each with what completing it puts below it.
  -- f bounds the depth; n will do
  unfoldable pub completed_below_at : ℕ → ℕ → ℕ
  completed_below_at zero m = 0
  completed_below_at (suc f) m =
      let child = kept_child m in
      let one = union (single child) (completed_below_at f child) in
      let each = gather (is_child s m) (λ c. union (single c) (completed_below_at f c)) (n_of s) in
      cond (eqb (kind s m) 1) one each

  unfoldable pub completed_below : ℕ → ℕ
  completed_below m = completed_below_at (n_of s) m

  -- mode m with what completing it puts below it
  unfoldable pub branch : ℕ → ℕ
  branch m = union (single m) (completed_below m)
