-- A text of decimals read byte by byte into lent words. Assumes nothing.
use Rattle.std.specs.Prelude.{◌≡◌, Bool, true, false, cond, Option, None, Some, unwrap_or, List, [], ◌∷◌, ℕ, suc, ◌^◌, ◌≤◌, ltb, length, set}
use Rattle.decimals.specs.Numbers.{is_digit, is_gap, longer}
use Rattle.decimals.specs.declared.reader.Reader.{Reader}

-- how far a text is read, the number that pending digits make if any are pending, and the lent words
pub record Reading : Type 0 where
  pub good : Bool
  pub pending : Option ℕ
  pub count : ℕ
  pub words : List ℕ

abbrev pub reading_of : Reader → List ℕ → Reading
reading_of x words = record { good = x.good; pending = x.pending; count = x.count; words = words }

-- a reading into n words, with no more numbers counted
pub record Fits (n : ℕ) (x : Reading) : Type 0 where
  pub words : length x.words ≡ n
  pub count : x.count ≤ n

-- nothing is read
unfoldable pub begun : List ℕ → Reading
begun words = record { good = true; pending = None; count = 0; words = words }

-- no text of decimals, or one with more numbers than lent words
unfoldable pub refused : Reading → Reading
refused x = record { good = false; pending = x.pending; count = x.count; words = x.words }

-- after a digit
unfoldable pub with_digit : Reading → ℕ → Reading
with_digit x b =
    let v = longer (unwrap_or x.pending 0) b in
    let on : Reading = record { good = x.good; pending = Some v; count = x.count; words = x.words } in
    cond (ltb v (2 ^ 32)) on (refused x)

-- after a space, a line feed or the end: the number v that pending digits make is put
unfoldable pub gap_after : Option ℕ → Reading → Reading
gap_after None x = x
gap_after (Some v) x =
    let on : Reading = record { good = x.good; pending = None; count = suc x.count; words = set x.words x.count v } in
    cond (ltb x.count (length x.words)) on (refused x)

unfoldable pub with_gap : Reading → Reading
with_gap x = gap_after x.pending x

unfoldable pub with_byte : Reading → ℕ → Reading
with_byte x b = cond (is_digit b) (with_digit x b) (cond (is_gap b) (with_gap x) (refused x))

unfoldable pub with_text : Reading → List ℕ → Reading
with_text x [] = x
with_text x (b ∷ bs) = with_text (with_byte x b) bs
