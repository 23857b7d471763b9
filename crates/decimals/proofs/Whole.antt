-- The reader gives just the numbers that the text says, or refuses where there are more than the lent words hold. Assumes nothing.
use mathlib.Core.Path.{◌≡◌, refl, sym, subst, ◌∙◌}
use mathlib.Core.Bool.{Bool, true, false, ◌&&◌, and-true, and-false, false≢true}
use mathlib.Core.List.{List, [], ◌∷◌, ◌++◌, append-nil}
use Prim.Native.Nat.{ℕ, suc, ◌+◌, ◌^◌, ◌≤◌, zero-le, ◌<◌}
use native.Mathlib.Nat.{zero-add, add-zero, lt_of_not-le}
use native.Mathlib.Decide.{dec_le}
use native.Mathlib.Omega.{arith}
use lib.Dec.{leb}
use lib.ListN.{length, take, length-set}
use lib.Seq.{take-suc-set, append_snoc}
use borrow.Author.Tests.{le-leb, lt-leb}
use Rattle.std.proofs.Common.{Option, None, Some}
use Rattle.decimals.specs.Numbers.{is_digit, is_gap, Numbers, none, no_numbers, closed, numbers_from, numbers_in}
use Rattle.decimals.specs.Reading.{Reading, begun, refused, with_gap, with_byte, with_text}
use Rattle.decimals.specs.Promises.{ReadWhole}
use Rattle.decimals.proofs.Steps.{made, lengthened, put, digit_fits, digit_large, gap_none, gap_put, gap_full, byte_digit, byte_gap, byte_other, numbers_digit, numbers_large, numbers_gap, numbers_other}

-- from x the numbers n are read, and r is after them: all are put, or it refuses
pub record Reads (x : Reading) (n : Numbers) (r : Reading) : Type 0 where
  pub good : r.good ≡ (x.good && (n.good && leb (x.count + length n.list) (length x.words)))
  pub list : r.good ≡ true → take r.count r.words ≡ take x.count x.words ++ n.list

-- nothing is left
reads_none : (x : Reading) → x.count ≤ length x.words → Reads x none x
unfolding none
reads_none x h = record {
  good = rw (add-zero, le-leb x.count (length x.words) h) (sym (and-true x.good));
  list = λ _. sym (append-nil (take x.count x.words));
}

-- no number more fits: it refuses
reads_more : (x : Reading) (n : Numbers) (r : Reading) → length x.words < x.count + length n.list → r.good ≡ false → Reads x n r
reads_more x n r h e = record {
  good = rw (lt-leb (x.count + length n.list) (length x.words) h, and-false, and-false) e;
  list = λ k. absurd (false≢true (sym e ∙ k));
}

module _ (x r : Reading) where
  -- a reading that is refused stays refused
  stays_refused : {n : Numbers} → Reads (refused x) n r → r.good ≡ false
  unfolding refused
  stays_refused k = k.good

  reads_refused : {n : Numbers} → Reads (refused x) n r → Reads x no_numbers r
  unfolding no_numbers
  reads_refused k = record {
    good = stays_refused k ∙ sym (and-false x.good);
    list = λ h. absurd (false≢true (sym (stays_refused k) ∙ h));
  }

  -- a number put, and then others
  reads_put : (v : ℕ) {n : Numbers} → x.count < length x.words → Reads (put x v) n r → Reads x (closed (Some v) n) r
  unfolding closed
  reads_put v {n} h k =
      let w = x.words in
      let more : suc x.count + length n.list ≡ x.count + suc (length n.list) = omega arith in
      record {
        good = rw (length-set, more) at k.good;
        list = λ e. k.list e ∙ rw (take-suc-set w x.count v h) (append_snoc (take x.count w) v n.list);
      }

-- a gap, and then the numbers n, which `after` reads from where nothing is pending
module _
    (x : Reading)
    (s : x.count ≤ length x.words)
    (n : Numbers)
    (after : Reading → Reading)
    (reads : (y : Reading) → y.count ≤ length y.words → y.pending ≡ None → Reads y n (after y))
    (refuses : (after (refused x)).good ≡ false)
  where
    reads_gap : (p : Option ℕ) → x.pending ≡ p → Dec (length x.words ≤ x.count) → Reads x (closed p n) (after (with_gap x))
    unfolding closed
    reads_gap None e d = rw (gap_none x e) (reads x s e)
    reads_gap (Some v) e (yes h) = rw (gap_full x v e h) (reads_more x (closed (Some v) n) (after (refused x)) (omega arith) refuses)
    reads_gap (Some v) e (no h) =
        let l = lt_of_not-le h in
        rw (gap_put x v e l) (reads_put x (after (put x v)) v l (reads (put x v) (simp length-set l) refl))

-- ---- a text read from where no more numbers are counted than there are words

abbrev From : List ℕ → Type 0
From text = (x : Reading) → x.count ≤ length x.words → Reads x (numbers_from x.pending text) (with_gap (with_text x text))

module _ (bs : List ℕ) (rest : From bs) (x : Reading) (s : x.count ≤ length x.words) (b : ℕ) where
  off : Reads (refused x) (numbers_from (refused x).pending bs) (with_gap (with_text (refused x) bs))
  unfolding refused
  off = rest (refused x) s

  abbrev Here : Type 0
  Here = Reads x (numbers_from x.pending (b ∷ bs)) (with_gap (with_text (with_byte x b) bs))

  by_digit : is_digit b ≡ true → Dec (2 ^ 32 ≤ made x b) → Here
  by_digit d (yes h) =
      rw (numbers_large x.pending b bs d h, byte_digit x b d, digit_large x b h)
      (reads_refused x (with_gap (with_text (refused x) bs)) off)
  by_digit d (no h) =
      let l = lt_of_not-le h in
      let k = rest (lengthened x b) s in
      rw (numbers_digit x.pending b bs d l, byte_digit x b d, digit_fits x b l)
      record { good = k.good; list = k.list }

  from_idle : (y : Reading) → y.count ≤ length y.words → y.pending ≡ None → Reads y (numbers_from None bs) (with_gap (with_text y bs))
  from_idle y t p = subst (λ (q : Option ℕ). Reads y (numbers_from q bs) (with_gap (with_text y bs))) p (rest y t)

  by_byte : (d g : Bool) → is_digit b ≡ d → is_gap b ≡ g → Here
  by_byte true g d e = by_digit d (dec_le (2 ^ 32) (made x b))
  by_byte false true d e =
      rw (numbers_gap x.pending b bs d e, byte_gap x b d e)
      (reads_gap x s (numbers_from None bs) (λ y. with_gap (with_text y bs)) from_idle
      (stays_refused x (with_gap (with_text (refused x) bs)) off) x.pending refl (dec_le (length x.words) x.count))
  by_byte false false d e =
      rw (numbers_other x.pending b bs d e, byte_other x b d e)
      (reads_refused x (with_gap (with_text (refused x) bs)) off)

pub text_reads : (text : List ℕ) → From text
unfolding with_text numbers_from refused
text_reads [] x s = reads_gap x s none (λ y. y) (λ y t _. reads_none y t) refl x.pending refl (dec_le (length x.words) x.count)
text_reads (b ∷ bs) x s = by_byte bs (text_reads bs) x s b (is_digit b) (is_gap b) refl refl

pub read_whole_lem : ReadWhole
unfolding ReadWhole begun numbers_in
read_whole_lem text words =
    let k = text_reads text (begun words) zero-le in
    (rw zero-add at k.good, k.list)
