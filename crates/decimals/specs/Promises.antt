-- What is promised of texts read and lines printed, each as one statement. Assumes nothing.
use Rattle.std.specs.Prelude.{◌≡◌, true, ◌&&◌, List, [], ◌∷◌, ◌++◌, ℕ, ◌^◌, ◌<◌, leb, length, get_or, take}
use Rattle.decimals.specs.Numbers.{numbers_in}
use Rattle.decimals.specs.Reading.{Reading, begun, with_gap, with_text}
use Rattle.decimals.specs.Printing.{decimal_of, line_of}

-- two parts of a text, read one after the other, are the text read whole
unfoldable pub TextParts : Type 0
TextParts = (x : Reading) (a b : List ℕ) → with_text x (a ++ b) ≡ with_text (with_text x a) b

-- a text read to its end gives just the numbers that it says; it is refused if it is none of decimals, or has more numbers than
-- the lent words hold
unfoldable pub ReadWhole : Type 0
ReadWhole =
    (text words : List ℕ) →
    let r = with_gap (with_text (begun words) text) in
    let n = numbers_in text in
    (r.good ≡ (n.good && leb (length n.list) (length words))) × (r.good ≡ true → take r.count r.words ≡ n.list)

-- a number printed reads back as the number
unfoldable pub ReadsBack : Type 0
ReadsBack = (n : ℕ) → n < 2 ^ 32 → numbers_in (decimal_of n) ≡ record { good = true; list = n ∷ [] }

-- a line of numbers printed reads back as the numbers
unfoldable pub LineReadsBack : Type 0
LineReadsBack = (ns : List ℕ) → ((i : ℕ) → get_or ns i 0 < 2 ^ 32) → numbers_in (line_of ns) ≡ record { good = true; list = ns }

-- all of them
pub record Promised : Type 0 where
  pub text_parts : TextParts
  pub read_whole : ReadWhole
  pub reads_back : ReadsBack
  pub line_reads_back : LineReadsBack
