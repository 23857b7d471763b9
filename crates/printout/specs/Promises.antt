-- What is promised of the answers to texts. Assumes nothing.
use Rattle.std.specs.Prelude.{◌≡◌, true, false, Option, List, ◌++◌, ℕ, ◌<◌, length, get_or}
use Rattle.meaning.specs.Run.{output_short}
use Rattle.decimals.specs.Numbers.{numbers_in}
use Rattle.decimals.specs.Reading.{Reading, begun}
use Rattle.decimals.specs.Request.{most_numbers, request_ok, inputs_asked}
use Rattle.printout.specs.Answers.{output_room, answer_to}
use Rattle.printout.specs.Texts.{ends_text, after_part, answer_read}

-- two parts of the input, read one after the other, are the input read whole
unfoldable pub InputParts : Type 0
InputParts = (end : Option ℕ) (x : Reading) (a b : List ℕ) → after_part end x (a ++ b) ≡ after_part end (after_part end x a) b

-- a text, no byte of which ends it, is answered as the numbers that it says; no list of more numbers is accepted than there are
-- words to read them into
unfoldable pub AnswersText : Type 0
AnswersText =
    (end : Option ℕ) (text words out : List ℕ)
    → ((i : ℕ) → i < length text → ends_text end (get_or text i 0) ≡ false)
    → length words ≡ most_numbers
    → (answer_read (after_part end (begun words) text) out).answered ≡ answer_to (numbers_in text).good (numbers_in text).list out

-- the output words lent are enough for each request that is accepted: no run is refused 12
unfoldable pub OutputEnough : Type 0
OutputEnough =
    (numbers out : List ℕ) → request_ok numbers ≡ true → length out ≡ output_room → output_short (inputs_asked numbers) out ≡ false

-- all of them
pub record Promised : Type 0 where
  pub input_parts : InputParts
  pub answers_text : AnswersText
  pub output_enough : OutputEnough
