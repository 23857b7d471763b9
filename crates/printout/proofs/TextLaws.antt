-- Laws of the texts of an input: a byte, a part, a text that ends. Assumes nothing.
use mathlib.Core.Path.{◌≡◌, refl, sym, ap, ◌∙◌}
use mathlib.Core.Logic.{inl, inr}
use mathlib.Core.Bool.{Bool, true, false, ◌&&◌}
use mathlib.Core.List.{List, [], ◌∷◌, ◌++◌}
use Prim.Native.Nat.{ℕ, suc, ◌+◌, ◌≤◌, ◌<◌}
use native.Mathlib.Numerals.{add-one}
use native.Mathlib.Omega.{arith}
use lib.Dec.{eqb, leb}
use lib.ListN.{length, get_or, take, drop, drop_of_length-le}
use lib.Seq.{drop-cons}
use borrow.Author.Tests.{leb-false}
use Rattle.decimals.specs.Numbers.{Numbers, numbers_in}
use Rattle.decimals.specs.Reading.{Reading, Fits, begun, with_gap, with_byte, with_text}
use Rattle.decimals.specs.Request.{most_ticks, most_numbers}
use Rattle.decimals.specs.Promises.{ReadWhole}
use Rattle.decimals.proofs.Counts.{fits_begun, fits_cond, fits_gap, fits_byte}
use Rattle.decimals.proofs.Requests.{unaccepted}
use Rattle.decimals.proofs.Whole.{read_whole_lem}
use Rattle.std.proofs.Common.{Option, None, Some}
use Rattle.std.specs.Option.{option_eq}
use Rattle.sets.proofs.Tests.{eqb-sym}
use Rattle.printout.specs.Answers.{ticks_done, Answered, answer_to}
use Rattle.printout.specs.Texts.{ends_text, after_byte, after_part, AfterInput, TextAnswered, answer_read}
use Rattle.printout.specs.Promises.{InputParts, AnswersText}
use Rattle.printout.proofs.AnswerLaws.{answer_few, answer_not}

-- ---- a text that ends

module _ (x : Reading) (out : List ℕ) where
  pub text_answered : (y : Reading) (a : Answered) → y ≡ with_gap x → a ≡ answer_to y.good (take y.count y.words) out
      → record { answered = a; words = y.words } ≡ answer_read x out
  unfolding answer_read
  text_answered y a e h = rw (← e, h)

  pub read_few : (t : TextAnswered) → t ≡ answer_read x out → ticks_done t.answered.answer ≤ most_ticks
  unfolding answer_read
  read_few t e = let y = with_gap x in rw e (answer_few (take y.count y.words) out y.good)

  pub read_words_lem : (t : TextAnswered) → t ≡ answer_read x out → t.words ≡ (with_gap x).words
  unfolding answer_read
  read_words_lem t e = ap (λ (t : TextAnswered). t.words) e

module _ (end : Option ℕ) where
  -- ---- a byte

  -- what the comparison of the byte that ends a text answers
  pub ends_is : (b : ℕ) → option_eq eqb end (Some b) ≡ ends_text end b
  ends_is b = go end
    where
      go : (o : Option ℕ) → option_eq eqb o (Some b) ≡ ends_text o b
      go None = refl
      go (Some e) = eqb-sym e b

  module _ (x : Reading) (b : ℕ) where
    pub byte_ends : ends_text end b ≡ true → begun (with_gap x).words ≡ after_byte end x b
    unfolding after_byte
    byte_ends h = rw h

    pub byte_read : ends_text end b ≡ false → with_byte x b ≡ after_byte end x b
    unfolding after_byte
    byte_read h = rw h

    pub fits_after : (n : ℕ) → Fits n x → Fits n (after_byte end x b)
    unfolding after_byte
    fits_after n h =
        let g = fits_gap n x h in
        let next : Fits n (begun (with_gap x).words) = rw g.words at (fits_begun (with_gap x).words) in
        fits_cond n (ends_text end b) (begun (with_gap x).words) (with_byte x b) next (fits_byte n x h b)

  -- ---- a part

  pub fits_part : (n : ℕ) (x : Reading) (part : List ℕ) → Fits n x → Fits n (after_part end x part)
  unfolding after_part
  fits_part n x [] h = h
  fits_part n x (b ∷ bs) h = fits_part n (after_byte end x b) bs (fits_after x b n h)

  module _ (x : Reading) (part : List ℕ) (i : ℕ) where
    -- the byte at i, and then those after it
    pub part_turn : i < length part → after_part end (after_byte end x (get_or part i 0)) (drop (i + 1) part) ≡ after_part end x (drop i part)
    unfolding after_part
    part_turn h = rw (add-one, drop-cons part i 0)

    pub part_end : length part ≤ i → after_part end x (drop i part) ≡ x
    unfolding after_part
    part_end h = let none : drop i part ≡ [] = drop_of_length-le part h in rw none

pub input_parts_lem : InputParts
unfolding InputParts after_part
input_parts_lem end x [] b = refl
input_parts_lem end x (y ∷ a) b = input_parts_lem end (after_byte end x y) a b

-- ---- after some input

module _ (end : Option ℕ) (x : Reading) where
  pub after_none : (words : List ℕ) → length words ≡ most_numbers → x ≡ begun words → AfterInput end x
  unfolding after_part
  after_none words h e = record { input = []; words = words; room = h; is = e }

  pub after_more : (y : Reading) (part : List ℕ) → AfterInput end x → y ≡ after_part end x part → AfterInput end y
  unfolding InputParts
  after_more y part h e =
      record {
        input = h.input ++ part;
        words = h.words;
        room = h.room;
        is = e ∙ ap (λ (z : Reading). after_part end z part) h.is ∙ sym (input_parts_lem end (begun h.words) h.input part);
      }

  pub after_fits : AfterInput end x → Fits most_numbers x
  after_fits h =
      let first : Fits most_numbers (begun h.words) = rw h.room at (fits_begun h.words) in
      rw h.is (fits_part end most_numbers (begun h.words) h.input first)

-- ---- a text is answered as the numbers that it says

part_text : (end : Option ℕ) (x : Reading) (text : List ℕ) → ((i : ℕ) → i < length text → ends_text end (get_or text i 0) ≡ false)
    → after_part end x text ≡ with_text x text
unfolding after_part with_text
part_text end x [] h = refl
part_text end x (b ∷ bs) h =
    rw (← byte_read end x b (h 0 (omega arith))) (part_text end (with_byte x b) bs (λ i k. h (suc i) (omega arith)))

-- what is read of a good text that fits is its numbers; no other is served
numbers_answered : (out words : List ℕ) (r : Reading) (n : Numbers) → length words ≡ most_numbers
    → r.good ≡ (n.good && leb (length n.list) (length words)) → (r.good ≡ true → take r.count r.words ≡ n.list)
    → answer_to r.good (take r.count r.words) out ≡ answer_to n.good n.list out
numbers_answered out words r n room g l = go n.good (leb (length n.list) (length words)) refl refl
  where
    go : (a b : Bool) → n.good ≡ a → leb (length n.list) (length words) ≡ b
        → answer_to r.good (take r.count r.words) out ≡ answer_to n.good n.list out
    go true true p q = let k : r.good ≡ true = g ∙ rw (p, q) in rw (k, p, l k)
    go true false p q =
        let long = leb-false (length n.list) (length words) q in
        sym (answer_not r.good _ out (inl (g ∙ rw (p, q))))
        ∙ answer_not n.good n.list out (inr (unaccepted n.list (λ k. omega (arith, room, k.sheet, k.ticks, k.whole))))
    go false b p q = sym (answer_not r.good _ out (inl (g ∙ rw p))) ∙ answer_not n.good n.list out (inl p)

pub answers_text_lem : AnswersText
unfolding AnswersText ReadWhole answer_read
answers_text_lem end text words out none room =
    let k = read_whole_lem text words in
    rw (part_text end (begun words) text none)
    (numbers_answered out words (with_gap (with_text (begun words) text)) (numbers_in text) room k.0 k.1)
