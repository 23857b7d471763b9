-- Numbers printed: "in decimal with one space between". Assumes nothing.
use Rattle.std.specs.Prelude.{cond, List, [], ◌∷◌, ◌++◌, ℕ, zero, suc, ◌/◌, ltb, length}
use Rattle.io.specs.Digits.{last_digits}
use Rattle.meaning.specs.Lists.{overwritten}

-- how many decimal digits a number has, where that is at most suc f
unfoldable pub digit_count : ℕ → ℕ → ℕ
digit_count zero n = 1
digit_count (suc f) n = let r = suc (digit_count f (n / 10)) in cond (ltb n 10) 1 r

-- a number below 10^20 in decimal
unfoldable pub decimal_of : ℕ → List ℕ
decimal_of n = last_digits 10 (digit_count 19 n) n

-- a line of numbers with one space between
unfoldable pub line_of : List ℕ → List ℕ
line_of [] = 10 ∷ []
line_of (n ∷ []) = decimal_of n ++ 10 ∷ []
line_of (n ∷ m ∷ ns) = decimal_of n ++ 32 ∷ line_of (m ∷ ns)

-- bytes put into a lent line: how many, and the line after it
pub record Put : Type 0 where
  pub count : ℕ
  pub line : List ℕ

-- the line of a row of numbers put at the start of a lent line; later bytes stay
unfoldable pub line_put : List ℕ → List ℕ → Put
line_put row line = record { count = length (line_of row); line = overwritten (line_of row) line }
