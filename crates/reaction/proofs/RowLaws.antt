-- Rows by a rule, laid over a list: their words, a row in the place of another, a row of zeros. Assumes nothing.
use mathlib.Core.Path.{◌≡◌, refl, sym, ap, ap₂, ◌∙◌}
use mathlib.Core.List.{List, ◌∷◌}
use Prim.Native.Nat.{ℕ, zero, suc, ◌+◌, ◌≤◌, ◌<◌}
use native.Mathlib.Omega.{arith}
use lib.ListN.{length, get_or}
use Rattle.rows.specs.Over.{over, zeros}
use Rattle.rows.proofs.OverLaws.{length_over, over_in, over_again}
use Rattle.meaning.specs.Lists.{row_from}
use Rattle.meaning.proofs.ListLaws.{row_at, row_from_ext, row_from-length}

-- a row of zeros, by a rule
pub row_zeros : (f : ℕ → ℕ) → ((t : ℕ) → f t ≡ 0) → (i w : ℕ) → row_from i w f ≡ zeros w
unfolding row_from zeros
row_zeros f e i zero = refl
row_zeros f e i (suc w) = ap₂ ◌∷◌ (e i) (row_zeros f e (suc i) w)

-- the row of w words by the rule f, laid over a list at its place, and then another row there
module _ (l₀ : List ℕ) (at w : ℕ) (f : ℕ → ℕ) (h : at + w ≤ length l₀) {l : List ℕ} (e : l ≡ over l₀ at (row_from 0 w f)) where
  long : length (row_from 0 w f) ≡ w
  long = row_from-length f 0 w

  fits : at + length (row_from 0 w f) ≤ length l₀
  fits = omega (arith, long, h)

  pub row-length : length l ≡ length l₀
  row-length = ap length e ∙ length_over l₀ at (row_from 0 w f) fits

  pub row_word : (t : ℕ) → t < w → get_or l (at + t) 0 ≡ f t
  row_word t k = ap (λ (x : List ℕ). get_or x (at + t) 0) e ∙ over_in l₀ at (row_from 0 w f) fits t (omega (arith, long)) ∙ row_at w f t k

  pub row_again : (g : ℕ → ℕ) → over l at (row_from 0 w g) ≡ over l₀ at (row_from 0 w g)
  row_again g = ap (λ (x : List ℕ). over x at (row_from 0 w g)) e ∙ over_again l₀ at (row_from 0 w f) fits (row_from 0 w g) (row_from-length g 0 w ∙ sym long)

  -- made from the words of the first
  pub row_from_lem : (g : ℕ → ℕ) (c : ℕ → ℕ → ℕ) → ((t : ℕ) → c t (f t) ≡ g t) → {m : List ℕ} → m ≡ over l at (row_from 0 w (λ t. c t (get_or l (at + t) 0)))
      → m ≡ over l₀ at (row_from 0 w g)
  row_from_lem g c q p =
      p
      ∙ ap (over l at) (row_from_ext (λ t. c t (get_or l (at + t) 0)) g 0 w (λ t a b. ap (c t) (row_word t (omega arith)) ∙ q t))
      ∙ row_again g
