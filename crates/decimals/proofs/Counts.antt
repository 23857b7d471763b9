-- The lent words stay as many, and no more numbers are counted than they hold. Assumes nothing.
use mathlib.Core.Path.{◌≡◌, refl}
use mathlib.Core.Bool.{Bool, true, false, cond}
use mathlib.Core.List.{List}
use Prim.Native.Nat.{ℕ, ◌^◌, zero-le}
use native.Mathlib.Omega.{arith}
use lib.Dec.{ltb}
use lib.ListN.{length, length-set}
use borrow.Author.Tests.{ltb-true}
use Rattle.decimals.specs.Numbers.{is_digit, is_gap}
use Rattle.std.proofs.Common.{Option, None, Some}
use Rattle.decimals.specs.Reading.{Reading, Fits, begun, refused, with_digit, gap_after, with_gap, with_byte}
use Rattle.decimals.proofs.Steps.{made, lengthened, put}

pub fits_begun : (words : List ℕ) → Fits (length words) (begun words)
unfolding begun
fits_begun words = record { words = refl; count = zero-le }

module _ (n : ℕ) where
  pub fits_cond : (c : Bool) (x y : Reading) → Fits n x → Fits n y → Fits n (cond c x y)
  fits_cond true x y h k = h
  fits_cond false x y h k = k

  module _ (x : Reading) (h : Fits n x) where
    fits_refused : Fits n (refused x)
    unfolding refused
    fits_refused = record { words = h.words; count = h.count }

    fits_digit : (b : ℕ) → Fits n (with_digit x b)
    unfolding with_digit
    fits_digit b =
        fits_cond (ltb (made x b) (2 ^ 32)) (lengthened x b) (refused x) (record { words = h.words; count = h.count }) fits_refused

    fits_put : (v : ℕ) (c : Bool) → ltb x.count (length x.words) ≡ c → Fits n (cond c (put x v) (refused x))
    fits_put v true e =
        let l = ltb-true x.count (length x.words) e in
        record { words = simp length-set h.words; count = omega (arith, h.words) }
    fits_put v false e = fits_refused

    fits_after : (p : Option ℕ) → Fits n (gap_after p x)
    unfolding gap_after
    fits_after None = h
    fits_after (Some v) = fits_put v (ltb x.count (length x.words)) refl

    pub fits_gap : Fits n (with_gap x)
    unfolding with_gap
    fits_gap = fits_after x.pending

    pub fits_byte : (b : ℕ) → Fits n (with_byte x b)
    unfolding with_byte
    fits_byte b =
        fits_cond (is_digit b) (with_digit x b) (cond (is_gap b) (with_gap x) (refused x)) (fits_digit b)
        (fits_cond (is_gap b) (with_gap x) (refused x) fits_gap fits_refused)
