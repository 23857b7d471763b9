-- What a table of sound layout has: blocks one after the other, a block 0 without modes, and next blocks that are there. Assumes nothing.
use mathlib.Core.Path.{◌≡◌}
use mathlib.Core.Bool.{◌&&◌}
use mathlib.Core.List.{List}
use Prim.Native.Nat.{ℕ, ◌+◌, ◌*◌, ◌<◌}
use lib.Dec.{T, eqb, ltb, eqb→eq, ltb→lt, leb→le}
use lib.ListN.{length}
use Rattle.sets.proofs.Tests.{and_l, and_r}
use Rattle.sets.proofs.Facts.{every_e}
use Rattle.meaning.specs.Table.{word_in, b_in, offset_in, length_in, end_before_in, mask_in, timers_in, cells_in, cell_word, block_ok, table_ok}
use Rattle.meaning.proofs.ListLaws.{all_of_e}

module _ (w : List ℕ) (h : T (table_ok w)) where
  pub b_pos : 0 < b_in w
  unfolding table_ok
  b_pos = leb→le 1 (b_in w) (all_of_e _ h).1.1.1.1.0

  pub word_first : word_in w 0 ≡ 1
  unfolding table_ok
  word_first = eqb→eq (word_in w 0) 1 (all_of_e _ h).1.0

  -- the blocks follow one another, and the last ends the table
  pub offset_is : (b : ℕ) → b < b_in w → offset_in w b ≡ end_before_in w b
  unfolding table_ok
  offset_is b l =
      eqb→eq (offset_in w b) (end_before_in w b)
      (every_e (b_in w) (λ i. eqb (offset_in w i) (end_before_in w i)) (all_of_e _ h).1.1.1.1.1.1.1.1.0 b l)

  pub last_end : end_before_in w (b_in w) ≡ length w
  unfolding table_ok
  last_end = eqb→eq (end_before_in w (b_in w)) (length w) (all_of_e _ h).1.1.1.1.1.1.1.1.1.0

  pub block_sound : (b : ℕ) → b < b_in w → T (block_ok w b)
  unfolding table_ok
  block_sound = every_e (b_in w) (block_ok w) (all_of_e _ h).1.1.1.1.1.1.1.1.1.1.0

  pub length_is : (b : ℕ) → b < b_in w → length_in w b ≡ 3 + 6 * cells_in w b
  unfolding block_ok
  length_is b l = eqb→eq (length_in w b) (3 + 6 * cells_in w b) (all_of_e _ (block_sound b l)).1.1.1.0

  first : T (eqb (mask_in w 0) 0 && eqb (timers_in w 0) 0)
  unfolding block_ok
  first = (all_of_e _ (block_sound 0 b_pos)).0

  pub mask_first : mask_in w 0 ≡ 0
  mask_first = eqb→eq (mask_in w 0) 0 (and_l (eqb (mask_in w 0) 0) (eqb (timers_in w 0) 0) first)

  pub timers_first : timers_in w 0 ≡ 0
  timers_first = eqb→eq (timers_in w 0) 0 (and_r (eqb (mask_in w 0) 0) (eqb (timers_in w 0) 0) first)

  module _ (b : ℕ) (l : b < b_in w) (c : ℕ) (k : c < cells_in w b) where
    next : T (ltb 0 (cell_word w b c 0) && ltb (cell_word w b c 0) (b_in w))
    unfolding block_ok
    next = every_e (cells_in w b) (λ i. ltb 0 (cell_word w b i 0) && ltb (cell_word w b i 0) (b_in w)) (all_of_e _ (block_sound b l)).1.1.1.1.0 c k

    pub next_pos : 0 < cell_word w b c 0
    next_pos = ltb→lt 0 (cell_word w b c 0) (and_l (ltb 0 (cell_word w b c 0)) (ltb (cell_word w b c 0) (b_in w)) next)

    pub next_lt : cell_word w b c 0 < b_in w
    next_lt = ltb→lt (cell_word w b c 0) (b_in w) (and_r (ltb 0 (cell_word w b c 0)) (ltb (cell_word w b c 0) (b_in w)) next)
