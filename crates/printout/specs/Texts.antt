-- Texts on the input of a program: where they end, what is read of them, and the answer to each. Assumes nothing.
use Rattle.std.specs.Prelude.{◌≡◌, Bool, false, cond, Option, None, Some, List, [], ◌∷◌, ℕ, eqb, length, take}
use Rattle.decimals.specs.Reading.{Reading, begun, with_gap, with_byte}
use Rattle.decimals.specs.Request.{most_numbers}
use Rattle.printout.specs.Answers.{Answered, answer_to}

-- b is the byte that ends a text, if there is one beside the end of the input
abbrev pub ends_text : Option ℕ → ℕ → Bool
ends_text None b = false
ends_text (Some e) b = eqb b e

-- after a byte of the input: the end of a text begins the next
unfoldable pub after_byte : Option ℕ → Reading → ℕ → Reading
after_byte end x b = cond (ends_text end b) (begun (with_gap x).words) (with_byte x b)

-- after a part of the input
unfoldable pub after_part : Option ℕ → Reading → List ℕ → Reading
after_part end x [] = x
after_part end x (b ∷ bs) = after_part end (after_byte end x b) bs

-- x is after some input, read into as many words as the longest list has numbers
pub record AfterInput (end : Option ℕ) (x : Reading) : Type 0 where
  pub input : List ℕ
  pub words : List ℕ
  pub room : length words ≡ most_numbers
  pub is : x ≡ after_part end (begun words) input

-- the answer to a text, and the words of its numbers at the end
pub record TextAnswered : Type 0 where
  pub answered : Answered
  pub words : List ℕ

-- a text that is read, and ends here
unfoldable pub answer_read : Reading → List ℕ → TextAnswered
answer_read x out =
    let y = with_gap x in record { answered = answer_to y.good (take y.count y.words) out; words = y.words }
