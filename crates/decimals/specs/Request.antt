-- What the bench program is asked: "sheet length, sheet, tick count, input sets, and nothing more"; more than 2,403 sheet words or
-- 1,024 ticks, or numbers that are no such list, are refused. Assumes nothing.
use Rattle.std.specs.Prelude.{Bool, cond, Option, None, Some, List, [], ◌∷◌, ℕ, ◌+◌, eqb, leb, length, get_or, take, drop}
use Rattle.meaning.specs.Lists.{all_of}
use Rattle.decimals.specs.declared.request.Request.{Request}

-- the most sheet words and ticks, and the numbers of the longest list
abbrev pub most_words : ℕ
most_words = 2403

abbrev pub most_ticks : ℕ
most_ticks = 1024

abbrev pub most_numbers : ℕ
most_numbers = 2 + most_words + most_ticks

module _ (numbers : List ℕ) where
  unfoldable pub sheet_length : ℕ
  sheet_length = get_or numbers 0 0

  unfoldable pub tick_count : ℕ
  tick_count = get_or numbers (1 + sheet_length) 0

  unfoldable pub request_ok : Bool
  request_ok =
      all_of
      (leb 1 (length numbers)
      ∷ leb sheet_length most_words
      ∷ leb (2 + sheet_length) (length numbers)
      ∷ leb tick_count most_ticks
      ∷ eqb (length numbers) (2 + sheet_length + tick_count)
      ∷ [])

  unfoldable pub sheet_asked : List ℕ
  sheet_asked = take sheet_length (drop 1 numbers)

  unfoldable pub inputs_asked : List ℕ
  inputs_asked = take tick_count (drop (2 + sheet_length) numbers)

  -- how many words and ticks they ask for; none where the numbers are no such list
  unfoldable pub asked : Option Request
  asked = cond request_ok (Some (record { words = sheet_length; ticks = tick_count })) None
