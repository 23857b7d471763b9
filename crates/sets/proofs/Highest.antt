-- The highest number that passes a test, and the highest member of a set: which they are, and that leading zeros tell it. Assumes nothing.
use mathlib.Core.Path.{◌≡◌, refl, sym, subst}
use mathlib.Core.Logic.{◌⊎◌, inl, inr, ⊎_elim}
use mathlib.Core.Bool.{Bool, true, false, cond}
use Prim.Native.Nat.{ℕ, zero, suc, ◌+◌, ◌/◌, ◌^◌, ◌≤◌, ◌<◌}
use native.Mathlib.Nat.{le_refl, not-suc-le-zero, le_of_suc-le-suc, eq-or-lt_of_le, div-eq_of_lt-le, pow-suc}
use native.Mathlib.Omega.{arith}
use lib.Count.{count_leading_zeros, leading_top}
use lib.Dec.{T}
use Rattle.sets.specs.Sets.{has, last, highest}
use Rattle.sets.proofs.Tests.{of_true, of_false}
use Rattle.sets.proofs.Facts.{has-lt}

-- ---- the highest number below k that passes p, or d

module _ (p : ℕ → Bool) (d : ℕ) where
  -- it passes, or none does and it is d
  pub last_cases : (k : ℕ) → ((last p d k < k) × T (p (last p d k))) ⊎ ((last p d k ≡ d) × ((i : ℕ) → i < k → T (p i) → ⊥))
  unfolding last
  last_cases zero = inr (refl, λ i l. absurd (not-suc-le-zero l))
  last_cases (suc k) = go (p k) refl (last_cases k)
    where
      none : p k ≡ false → ((i : ℕ) → i < k → T (p i) → ⊥) → (i : ℕ) → i < suc k → T (p i) → ⊥
      none e f i l h = ⊎_elim (λ q. of_false e (subst (λ (j : ℕ). T (p j)) q h)) (λ q. f i q h) (eq-or-lt_of_le (le_of_suc-le-suc l))

      go : (b : Bool) → p k ≡ b → ((last p d k < k) × T (p (last p d k))) ⊎ ((last p d k ≡ d) × ((i : ℕ) → i < k → T (p i) → ⊥))
          → ((cond b k (last p d k) < suc k) × T (p (cond b k (last p d k)))) ⊎ ((cond b k (last p d k) ≡ d) × ((i : ℕ) → i < suc k → T (p i) → ⊥))
      go true e ih = inl (le_refl (suc k), of_true e)
      go false e (inl f) = inl (omega (arith, f.0), f.1)
      go false e (inr f) = inr (f.0, none e f.1)

  pub last_none : (k : ℕ) → ((i : ℕ) → i < k → p i ≡ false) → last p d k ≡ d
  last_none k f = ⊎_elim (λ h. absurd (of_false (f (last p d k) h.0) h.1)) (λ h. h.0) (last_cases k)

  -- it is x, which passes, where nothing above x does
  pub last_is : (k x : ℕ) → x < k → T (p x) → ((i : ℕ) → x < i → i < k → T (p i) → ⊥) → last p d k ≡ x
  unfolding last
  last_is zero x l h f = absurd (not-suc-le-zero l)
  last_is (suc k) x l h f = go (p k) refl (eq-or-lt_of_le (le_of_suc-le-suc l)) (λ q. last_is k x q h (λ i a b. f i a (omega arith)))
    where
      go : (b : Bool) → p k ≡ b → (x ≡ k) ⊎ (x < k) → (x < k → last p d k ≡ x) → cond b k (last p d k) ≡ x
      go true e (inl q) ih = sym q
      go true e (inr q) ih = absurd (f k q (le_refl (suc k)) (of_true e))
      go false e (inl q) ih = absurd (of_false e (subst (λ (j : ℕ). T (p j)) q h))
      go false e (inr q) ih = ih q

-- ---- the highest member of a set

pub record Highest (w s t : ℕ) : Type 0 where
  pub small : t < w
  pub member : T (has s t)
  pub most : (i : ℕ) → T (has s i) → i ≤ t

pub highest_unique : {w s t : ℕ} → Highest w s t → highest w s ≡ t
highest_unique {w} {s} {t} h = last_is (has s) 0 w t h.small h.member (λ i a b k. absurd (omega (arith, h.most i k)))

-- the top digit of a number that is not 0
top_digit : (s j : ℕ) → 2 ^ j ≤ s → s < 2 ^ suc j → T (has s j)
unfolding has
top_digit s j a b =
    let e : s / 2 ^ j ≡ 1 = div-eq_of_lt-le {k = 1} (2 ^ j) (omega arith) (omega (arith, pow-suc 2 j)) in
    rw e tt

top_highest : (w s : ℕ) → s < 2 ^ w → 0 < s → (j : ℕ) × (count_leading_zeros w s + suc j ≡ w) × Highest w s j
top_highest w s h k =
    let r = leading_top w s k h in
    let j = r.0 in (
      j,
      r.1,
      record {
        small = omega (arith, r.1);
        member = top_digit s j r.2 r.3;
        most = λ i m. le_of_suc-le-suc (has-lt (suc j) s i r.3 m);
      },
    )

pub highest_member : (w s : ℕ) → s < 2 ^ w → 0 < s → Highest w s (highest w s)
highest_member w s h k =
    let r = top_highest w s h k in
    subst (λ (t : ℕ). Highest w s t) (sym (highest_unique r.2)) r.2

pub leading_zeros_highest : (w s : ℕ) → s < 2 ^ w → 0 < s → count_leading_zeros w s + suc (highest w s) ≡ w
leading_zeros_highest w s h k =
    let r = top_highest w s h k in
    rw (highest_unique r.2) r.1
