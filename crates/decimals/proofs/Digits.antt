-- How many decimal digits a number has: the fewest that hold it. Assumes nothing.
use mathlib.Core.Path.{◌≡◌, refl, sym, ap, ◌∙◌}
use mathlib.Core.List.{[], ◌∷◌}
use Prim.Native.Nat.{ℕ, zero, suc, ◌-◌, ◌/◌, ◌%◌, ◌^◌, ◌≤◌, ◌<◌}
use native.Mathlib.Nat.{lt_of_not-le, pow-le-pow_right, pow-suc}
use native.Mathlib.Omega.{arith}
use lib.ListN.{length, length-append}
use borrow.Author.Tests.{lt-ltb, le-ltb}
use Rattle.io.specs.Digits.{last_digits, hex_digit_ascii, IsDigitCount}
use Rattle.decimals.specs.Printing.{digit_count, decimal_of}

pub length_digits : (b k n : ℕ) → length (last_digits b k n) ≡ k
length_digits b zero n = refl
length_digits b (suc k) n =
    omega (arith, length-append (last_digits b k (n / b)) (hex_digit_ascii (n % b) ∷ []), length_digits b k (n / b))

-- a number below 10 has one digit; another one more than its tenth
module _ (f n : ℕ) where
  pub count_one : n < 10 → digit_count (suc f) n ≡ 1
  unfolding digit_count
  count_one h = rw (lt-ltb n 10 h)

  pub count_more : 10 ≤ n → digit_count (suc f) n ≡ suc (digit_count f (n / 10))
  unfolding digit_count
  count_more h = rw (le-ltb n 10 h)

-- suc p digits hold n, and no fewer do
pub count_is : (f p n : ℕ) → p ≤ f → n < 10 ^ suc p → (0 < p → 10 ^ p ≤ n) → suc p ≡ digit_count f n
unfolding digit_count
count_is zero zero n h k l = refl
count_is zero (suc p) n h k l = omega arith
count_is (suc f) zero n h k l = sym (count_one f n (omega arith))
count_is (suc f) (suc p) n h k l =
    let least : 10 ^ suc p ≤ n = l (omega arith) in
    let ten : 10 ^ 1 ≤ 10 ^ suc p = pow-le-pow_right (omega arith) {i = 1} (omega arith) in
    ap suc (count_is f p (n / 10) (omega arith) (omega (arith, pow-suc 10 (suc p))) (λ _. omega (arith, pow-suc 10 p)))
    ∙ sym (count_more f n (omega arith))

-- a number below 2^32 has at most 10 digits
pub few_digits : (n k : ℕ) → n < 2 ^ 32 → (1 < k → 10 ^ (k - 1) ≤ n) → k < 11
few_digits n k small fewest = lt_of_not-le
    (λ (many : 11 ≤ k).
    let least : 10 ^ (k - 1) ≤ n = fewest (omega arith) in
    let grows : 10 ^ 10 ≤ 10 ^ (k - 1) = pow-le-pow_right (omega arith) {i = 10} (omega arith) in
    omega arith)

pub fewest_is : (n k : ℕ) → n < 2 ^ 32 → IsDigitCount 10 1 n k → k ≡ digit_count 19 n
fewest_is n zero small h = omega arith
fewest_is n (suc p) small h =
    let few : suc p < 11 = few_digits n (suc p) small h.2 in
    let one : suc p - 1 ≡ p = omega arith in
    count_is 19 p n (omega arith) h.1 (λ (l : 0 < p). rw one at (h.2 (omega arith)))

-- ---- a number in decimal, as `io::decimal` gives it: its fewest digits

module _ (n k : ℕ) (small : n < 2 ^ 32) (h : IsDigitCount 10 1 n k) where
  pub decimal_is : last_digits 10 k n ≡ decimal_of n
  unfolding decimal_of
  decimal_is = ap (λ (j : ℕ). last_digits 10 j n) (fewest_is n k small h)

  pub decimal_length : length (decimal_of n) ≡ k
  decimal_length = ap length (sym decimal_is) ∙ length_digits 10 k n
