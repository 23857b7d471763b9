-- The union of sets over the numbers below k that pass a test: what it holds. Assumes nothing.
use mathlib.Core.Path.{◌≡◌, refl, ap₂, subst}
use mathlib.Core.Logic.{◌⊎◌, inl, inr, ⊎_elim}
use mathlib.Core.Bool.{Bool, true, false, cond}
use Prim.Native.Nat.{ℕ, zero, suc, ◌<◌}
use native.Mathlib.Nat.{le_refl, not-suc-le-zero, le_of_suc-le-suc, eq-or-lt_of_le}
use native.Mathlib.Omega.{arith}
use lib.Dec.{T}
use Rattle.sets.specs.Sets.{has, union}
use Rattle.sets.proofs.Tests.{of_true, of_false}
use Rattle.sets.proofs.Membership.{has_none}
use Rattle.sets.proofs.Facts.{union_e, union_l, union_r}
use Rattle.hierarchy.specs.Below.{gather}

module _ (p : ℕ → Bool) (g : ℕ → ℕ) where
  pub gather_e : (k y : ℕ) → T (has (gather p g k) y) → (c : ℕ) × (c < k) × T (p c) × T (has (g c) y)
  unfolding gather
  gather_e zero y h = absurd (of_false (has_none y) h)
  gather_e (suc k) y h = go (p k) refl h (gather_e k y)
    where
      go : (b : Bool) → p k ≡ b → T (has (cond b (union (gather p g k) (g k)) (gather p g k)) y)
          → (T (has (gather p g k) y) → (c : ℕ) × (c < k) × T (p c) × T (has (g c) y)) → (c : ℕ) × (c < suc k) × T (p c) × T (has (g c) y)
      go false e j ih = let r = ih j in (r.0, omega (arith, r.1), r.2, r.3)
      go true e j ih =
          ⊎_elim (λ a. let r = ih a in (r.0, omega (arith, r.1), r.2, r.3)) (λ a. (k, le_refl (suc k), of_true e, a)) (union_e (gather p g k) (g k) y j)

  pub gather_i : (k y c : ℕ) → c < k → T (p c) → T (has (g c) y) → T (has (gather p g k) y)
  unfolding gather
  gather_i zero y c l e h = absurd (not-suc-le-zero l)
  gather_i (suc k) y c l e h = go (p k) refl (eq-or-lt_of_le (le_of_suc-le-suc l)) (λ i. gather_i k y c i e h)
    where
      go : (b : Bool) → p k ≡ b → (c ≡ k) ⊎ (c < k) → (c < k → T (has (gather p g k) y)) → T (has (cond b (union (gather p g k) (g k)) (gather p g k)) y)
      go true q (inl i) ih = union_r (gather p g k) (g k) y (subst (λ (j : ℕ). T (has (g j) y)) i h)
      go true q (inr i) ih = union_l (gather p g k) (g k) y (ih i)
      go false q (inl i) ih = absurd (of_false q (subst (λ (j : ℕ). T (p j)) i e))
      go false q (inr i) ih = ih i

  pub gather_same : (g' : ℕ → ℕ) (k : ℕ) → ((c : ℕ) → c < k → T (p c) → g c ≡ g' c) → gather p g k ≡ gather p g' k
  unfolding gather
  gather_same g' zero f = refl
  gather_same g' (suc k) f = go (p k) refl (gather_same g' k (λ c l e. f c (omega arith) e))
    where
      go : (b : Bool) → p k ≡ b → gather p g k ≡ gather p g' k
          → cond b (union (gather p g k) (g k)) (gather p g k) ≡ cond b (union (gather p g' k) (g' k)) (gather p g' k)
      go true e ih = ap₂ union ih (f k (le_refl (suc k)) (of_true e))
      go false e ih = ih
