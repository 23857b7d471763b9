-- A number printed reads back, and so does a line of numbers. Assumes nothing.
use mathlib.Core.Path.{◌≡◌, refl, ap, ◌∙◌}
use mathlib.Core.List.{List, [], ◌∷◌, ◌++◌, append_assoc, append-nil}
use Prim.Native.Nat.{ℕ, zero, suc, ◌+◌, ◌-◌, ◌*◌, ◌/◌, ◌%◌, ◌^◌, ◌≤◌, ◌<◌}
use native.Mathlib.Nat.{pow-suc, lt_of_not-le}
use native.Mathlib.Decide.{dec_le}
use native.Mathlib.Omega.{arith}
use lib.ListN.{get_or}
use borrow.Author.Tests.{lt-ltb}
use Rattle.std.proofs.Common.{Option, None, Some, unwrap_or}
use Rattle.io.specs.Digits.{last_digits, hex_digit_ascii}
use Rattle.decimals.specs.Numbers.{is_digit, is_gap, longer, Numbers, none, closed, numbers_from, numbers_in}
use Rattle.decimals.specs.Printing.{digit_count, decimal_of, line_of}
use Rattle.decimals.specs.Promises.{ReadsBack, LineReadsBack}
use Rattle.decimals.proofs.Steps.{digit_is, numbers_digit}
use Rattle.decimals.proofs.Digits.{count_one, count_more}

-- one digit more
digit_back : (pending : Option ℕ) (d n : ℕ) (rest : List ℕ) → d < 10 → unwrap_or pending 0 * 10 + d ≡ n → n < 2 ^ 32
    → numbers_from pending (hex_digit_ascii d ∷ rest) ≡ numbers_from (Some n) rest
unfolding longer
digit_back pending d n rest h e k =
    let same : unwrap_or pending 0 * 10 + (48 + d - 48) ≡ n = omega arith in
    rw (lt-ltb d 10 h)
    (numbers_digit pending (48 + d) rest (digit_is (48 + d) (omega arith) (omega arith)) (omega arith)
    ∙ ap (λ (w : ℕ). numbers_from (Some w) rest) same)

-- a number's digits, with a text after them
Back : ℕ → ℕ → Type 0
Back k n = (pending : Option ℕ) → unwrap_or pending 0 ≡ 0 → (rest : List ℕ) → numbers_from pending (last_digits 10 k n ++ rest) ≡ numbers_from (Some n) rest

one_back : (n : ℕ) → n < 10 → Back 1 n
unfolding Back
one_back n h pending empty rest = digit_back pending (n % 10) n rest (omega arith) (omega (arith, empty)) (omega arith)

more_back : (f n : ℕ) → n < 2 ^ 32 → Back (digit_count f (n / 10)) (n / 10) → Dec (10 ≤ n) → Back (digit_count (suc f) n) n
unfolding Back
more_back f n small before (yes h) pending empty rest =
    rw (count_more f n h, append_assoc)
    (before pending empty (hex_digit_ascii (n % 10) ∷ rest) ∙ digit_back (Some (n / 10)) (n % 10) n rest (omega arith) (omega arith) small)
more_back f n small before (no h) pending empty rest =
    rw (count_one f n (lt_of_not-le h)) (one_back n (lt_of_not-le h) pending empty rest)

digits_back : (f n : ℕ) → n < 2 ^ 32 → n < 10 ^ suc f → Back (digit_count f n) n
unfolding digit_count
digits_back zero n small h = one_back n (omega arith)
digits_back (suc f) n small h = more_back f n small (digits_back f (n / 10) (omega arith) (omega (arith, pow-suc 10 (suc f)))) (dec_le 10 n)

-- whether no digits or zeros alone are pending
pub decimal_back : (n : ℕ) → n < 2 ^ 32 → (pending : Option ℕ) → unwrap_or pending 0 ≡ 0 → (rest : List ℕ)
    → numbers_from pending (decimal_of n ++ rest) ≡ numbers_from (Some n) rest
unfolding decimal_of Back
decimal_back n small = digits_back 19 n small (omega arith)

pub reads_back_lem : ReadsBack
unfolding ReadsBack numbers_in numbers_from closed none
reads_back_lem n small = rw append-nil at (decimal_back n small None refl [])

-- ---- a line of numbers

-- the numbers ns, and then those of the rest
unfoldable pub before : List ℕ → Numbers → Numbers
before ns rest = record { good = rest.good; list = ns ++ rest.list }

-- with a text after it
pub line_back : (ns rest : List ℕ) → ((i : ℕ) → get_or ns i 0 < 2 ^ 32) → numbers_in (line_of ns ++ rest) ≡ before ns (numbers_in rest)
unfolding numbers_in numbers_from line_of before closed is_digit is_gap
line_back [] rest small = refl
line_back (n ∷ []) rest small = rw append_assoc (decimal_back n (small 0) None refl (10 ∷ rest))
line_back (n ∷ m ∷ ns) rest small =
    rw append_assoc
    (decimal_back n (small 0) None refl (32 ∷ (line_of (m ∷ ns) ++ rest))
    ∙ ap (closed (Some n)) (line_back (m ∷ ns) rest (λ i. small (suc i))))

pub line_reads_back_lem : LineReadsBack
unfolding LineReadsBack numbers_in numbers_from before closed none
line_reads_back_lem ns small = rw (append-nil (line_of ns), append-nil ns) at (line_back ns [] small)
