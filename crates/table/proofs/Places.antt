-- What the head and the pairs say once they have passed: every word that the code looks at is there. And a block's mask and timers, as they are read.
-- Assumes nothing.
use mathlib.Core.Path.{◌≡◌, refl, ap}
use mathlib.Core.Bool.{Bool, and-true}
use mathlib.Core.List.{List}
use Prim.Native.Nat.{ℕ, suc, ◌+◌, ◌*◌, ◌^◌, ◌≤◌, ◌<◌}
use native.Mathlib.Nat.{le_refl, le_trans, le_of_eq}
use native.Mathlib.Numerals.{add-one}
use native.Mathlib.Omega.{arith}
use lib.Dec.{T, eqb, leb, eqb→eq, leb→le}
use lib.ListN.{length, get_or}
use borrow.Author.Tests.{le-leb, eq-eqb}
use Rattle.sets.specs.Sets.{every}
use Rattle.sets.proofs.Tests.{and_l, and_r}
use Rattle.sets.proofs.Facts.{every_e}
use Rattle.meaning.specs.Lists.{all_of}
use Rattle.meaning.specs.Table.{word_in, k_in, t_in, b_in, offset_in, length_in, end_before_in, mask_in, timers_in}
use Rattle.meaning.proofs.ListLaws.{all_of_e, steps_le}
use Rattle.table.specs.Parts.{table_head_ok, table_pairs_ok}

-- ---- the head

pub record TableHead (w : List ℕ) : Type 0 where
  pub four : 4 ≤ length w
  pub one : word_in w 0 ≡ 1
  pub k_le : k_in w ≤ 6
  pub t_le : t_in w ≤ 64
  pub b_pos : 1 ≤ b_in w
  pub b_le : b_in w ≤ 4096
  pub room : 4 + t_in w + 2 * b_in w ≤ length w

pub head_of : (w : List ℕ) → T (table_head_ok w) → TableHead w
unfolding table_head_ok
head_of w h =
    let r = all_of_e _ h in
    record {
      four = leb→le 4 (length w) r.0;
      one = eqb→eq (word_in w 0) 1 r.1.0;
      k_le = leb→le (k_in w) 6 r.1.1.0;
      t_le = leb→le (t_in w) 64 r.1.1.1.0;
      b_pos = leb→le 1 (b_in w) r.1.1.1.1.0;
      b_le = leb→le (b_in w) 4096 r.1.1.1.1.1.0;
      room = leb→le (4 + t_in w + 2 * b_in w) (length w) r.1.1.1.1.1.1.0;
    }

-- where all its tests but the last have passed
pub head_is : (w : List ℕ) → 4 ≤ length w → word_in w 0 ≡ 1 → k_in w ≤ 6 → t_in w ≤ 64 → 1 ≤ b_in w → b_in w ≤ 4096
    → table_head_ok w ≡ leb (4 + t_in w + 2 * b_in w) (length w)
unfolding table_head_ok all_of
head_is w l o k t p b =
    rw (le-leb 4 (length w) l, eq-eqb (word_in w 0) 1 o, le-leb (k_in w) 6 k, le-leb (t_in w) 64 t, le-leb 1 (b_in w) p, le-leb (b_in w) 4096 b)
    (and-true (leb (4 + t_in w + 2 * b_in w) (length w)))

-- ---- where blocks must begin

-- block i begins where the one before ends
abbrev pub begins : List ℕ → ℕ → Bool
begins w i = eqb (offset_in w i) (end_before_in w i)

pub end_first : (w : List ℕ) → end_before_in w 0 ≡ 4 + t_in w + 2 * b_in w
unfolding end_before_in
end_first w = refl

pub end_after : (w : List ℕ) (b : ℕ) → end_before_in w (b + 1) ≡ offset_in w b + length_in w b
unfolding end_before_in
end_after w b = rw add-one

-- ---- a block's mask, the word at its offset, and its timers, read as two words after it

pub mask_read : (w : List ℕ) (b : ℕ) {i : ℕ} → i ≡ offset_in w b → get_or w i 0 ≡ mask_in w b
unfolding mask_in word_in
mask_read w b e = ap (λ (j : ℕ). get_or w j 0) e

pub timers_read : (w : List ℕ) (b : ℕ) {at r : ℕ} → at ≡ offset_in w b → r ≡ word_in w (at + 2) * 2 ^ 32 + word_in w (at + 1) → r ≡ timers_in w b
unfolding timers_in
timers_read w b e h = rw e at h

-- ---- the pairs: the blocks follow one another, so that each lies within the table

module _ (w : List ℕ) (h : T (table_pairs_ok w)) where
  pub offset_is : (b : ℕ) → b < b_in w → offset_in w b ≡ end_before_in w b
  unfolding table_pairs_ok
  offset_is b l =
      eqb→eq (offset_in w b) (end_before_in w b)
      (every_e (b_in w) (λ i. eqb (offset_in w i) (end_before_in w i)) (and_l (every (b_in w) (λ i. eqb (offset_in w i) (end_before_in w i))) (eqb (end_before_in w (b_in w)) (length w)) h) b l)

  last_end : end_before_in w (b_in w) ≡ length w
  unfolding table_pairs_ok
  last_end = eqb→eq (end_before_in w (b_in w)) (length w) (and_r (every (b_in w) (λ i. eqb (offset_in w i) (end_before_in w i))) (eqb (end_before_in w (b_in w)) (length w)) h)

  end_next : (b : ℕ) → b < b_in w → end_before_in w b ≤ end_before_in w (suc b)
  unfolding end_before_in
  end_next b l = let at = offset_is b l in omega arith

  pub block_room : (b : ℕ) → b < b_in w → offset_in w b + length_in w b ≤ length w
  unfolding end_before_in
  block_room b l = le_trans (steps_le (end_before_in w) (b_in w) end_next (suc b) (b_in w) l (le_refl (b_in w))) (le_of_eq last_end)
