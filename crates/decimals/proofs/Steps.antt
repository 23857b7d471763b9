-- One byte: what `with_digit`, `with_gap`, `with_byte` and `numbers_from` give in each case. Assumes nothing.
use mathlib.Core.Path.{◌≡◌}
use mathlib.Core.Logic.{◌⊎◌, inl, inr}
use mathlib.Core.Bool.{true, false}
use mathlib.Core.List.{List, ◌∷◌}
use Prim.Native.Nat.{ℕ, suc, ◌^◌, ◌≤◌, ◌<◌}
use native.Mathlib.Omega.{arith}
use lib.ListN.{length, set}
use Rattle.std.proofs.Common.{Option, None, Some, unwrap_or}
use borrow.Author.Tests.{lt-ltb, le-ltb, le-leb, lt-leb, ne_eqb}
use Rattle.decimals.specs.Numbers.{is_digit, is_gap, longer, no_numbers, closed, numbers_from}
use Rattle.decimals.specs.Reading.{Reading, refused, with_digit, gap_after, with_gap, with_byte}

-- ---- the three kinds of byte

pub digit_is : (b : ℕ) → 48 ≤ b → b ≤ 57 → is_digit b ≡ true
unfolding is_digit
digit_is b h k = rw (le-leb 48 b h, le-leb b 57 k)

pub digit_not : (b : ℕ) → (b < 48) ⊎ (57 < b) → is_digit b ≡ false
unfolding is_digit
digit_not b (inl h) = rw (lt-leb 48 b h)
digit_not b (inr h) = rw (le-leb 48 b (omega arith), lt-leb b 57 h)

pub gap_is : (b : ℕ) → (b ≡ 32) ⊎ (b ≡ 10) → is_gap b ≡ true
unfolding is_gap
gap_is b (inl h) = rw h
gap_is b (inr h) = rw h

pub gap_not : (b : ℕ) → (b ≡ 32 → ⊥) → (b ≡ 10 → ⊥) → is_gap b ≡ false
unfolding is_gap
gap_not b h k = rw (ne_eqb b 32 h, ne_eqb b 10 k)

module _ (x : Reading) where
  -- ---- a digit

  module _ (b : ℕ) where
    abbrev pub made : ℕ
    made = longer (unwrap_or x.pending 0) b

    abbrev pub lengthened : Reading
    lengthened = record { good = x.good; pending = Some made; count = x.count; words = x.words }

    pub digit_fits : made < 2 ^ 32 → with_digit x b ≡ lengthened
    unfolding with_digit
    digit_fits h = rw (lt-ltb made (2 ^ 32) h)

    pub digit_large : 2 ^ 32 ≤ made → with_digit x b ≡ refused x
    unfolding with_digit
    digit_large h = rw (le-ltb made (2 ^ 32) h)

  -- ---- a space, a line feed or the end

  pub gap_none : x.pending ≡ None → with_gap x ≡ x
  unfolding with_gap gap_after
  gap_none h = rw h

  module _ (v : ℕ) where
    abbrev pub put : Reading
    put = record { good = x.good; pending = None; count = suc x.count; words = set x.words x.count v }

    pub gap_put : x.pending ≡ Some v → x.count < length x.words → with_gap x ≡ put
    unfolding with_gap gap_after
    gap_put h k = rw (h, lt-ltb x.count (length x.words) k)

    pub gap_full : x.pending ≡ Some v → length x.words ≤ x.count → with_gap x ≡ refused x
    unfolding with_gap gap_after
    gap_full h k = rw (h, le-ltb x.count (length x.words) k)

  -- ---- a byte

  module _ (b : ℕ) where
    pub byte_digit : is_digit b ≡ true → with_byte x b ≡ with_digit x b
    unfolding with_byte
    byte_digit h = rw h

    pub byte_gap : is_digit b ≡ false → is_gap b ≡ true → with_byte x b ≡ with_gap x
    unfolding with_byte
    byte_gap h k = rw (h, k)

    pub byte_other : is_digit b ≡ false → is_gap b ≡ false → with_byte x b ≡ refused x
    unfolding with_byte
    byte_other h k = rw (h, k)

-- ---- the numbers of a text that starts with the byte b

module _ (pending : Option ℕ) (b : ℕ) (bs : List ℕ) where
  abbrev now : ℕ
  now = longer (unwrap_or pending 0) b

  pub numbers_digit : is_digit b ≡ true → now < 2 ^ 32 → numbers_from pending (b ∷ bs) ≡ numbers_from (Some now) bs
  unfolding numbers_from
  numbers_digit h k = rw (h, lt-ltb now (2 ^ 32) k)

  pub numbers_large : is_digit b ≡ true → 2 ^ 32 ≤ now → numbers_from pending (b ∷ bs) ≡ no_numbers
  unfolding numbers_from
  numbers_large h k = rw (h, le-ltb now (2 ^ 32) k)

  pub numbers_gap : is_digit b ≡ false → is_gap b ≡ true → numbers_from pending (b ∷ bs) ≡ closed pending (numbers_from None bs)
  unfolding numbers_from
  numbers_gap h k = rw (h, k)

  pub numbers_other : is_digit b ≡ false → is_gap b ≡ false → numbers_from pending (b ∷ bs) ≡ no_numbers
  unfolding numbers_from
  numbers_other h k = rw (h, k)
