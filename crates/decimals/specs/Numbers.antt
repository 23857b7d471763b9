-- What a text says: "decimals below 2^32 (leading zeros allowed), with spaces or line feeds between and around them". Assumes nothing.
use Rattle.std.specs.Prelude.{Bool, true, false, ◌&&◌, ◌||◌, cond, Option, None, Some, unwrap_or, List, [], ◌∷◌, ℕ, ◌+◌, ◌-◌, ◌*◌, ◌^◌, eqb, leb, ltb}

-- a byte that is a digit; a space or a line feed
unfoldable pub is_digit : ℕ → Bool
is_digit b = leb 48 b && leb b 57

unfoldable pub is_gap : ℕ → Bool
is_gap b = eqb b 32 || eqb b 10

-- the number v with one more digit
unfoldable pub longer : ℕ → ℕ → ℕ
longer v b = v * 10 + (b - 48)

-- whether a text is one of decimals, and its numbers
pub record Numbers : Type 0 where
  pub good : Bool
  pub list : List ℕ

unfoldable pub none : Numbers
none = record { good = true; list = [] }

unfoldable pub no_numbers : Numbers
no_numbers = record { good = false; list = [] }

-- the number that pending digits make, if any are pending: it comes before those of the rest
unfoldable pub closed : Option ℕ → Numbers → Numbers
closed (Some v) rest = record { good = rest.good; list = v ∷ rest.list }
closed None rest = rest

-- the numbers of a text, after the pending digits
unfoldable pub numbers_from : Option ℕ → List ℕ → Numbers
numbers_from pending [] = closed pending none
numbers_from pending (b ∷ bs) =
    let v = longer (unwrap_or pending 0) b in
    let on = numbers_from (Some v) bs in
    let next = closed pending (numbers_from None bs) in
    cond (is_digit b) (cond (ltb v (2 ^ 32)) on no_numbers) (cond (is_gap b) next no_numbers)

unfoldable pub numbers_in : List ℕ → Numbers
numbers_in text = numbers_from None text
