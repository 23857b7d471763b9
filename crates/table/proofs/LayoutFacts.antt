-- What a table says whose layout is sound but for next blocks: its counts, its timers, and where its blocks and cells lie.
-- A table of sound layout is such a table (`shape_of`). Assumes nothing.
use mathlib.Core.Path.{◌≡◌, subst}
use mathlib.Core.Logic.{◌⊎◌, inl, inr}
use mathlib.Core.Bool.{not, ◌&&◌}
use mathlib.Core.List.{List}
use Prim.Native.Nat.{ℕ, ◌+◌, ◌*◌, ◌≤◌, ◌<◌}
use native.Mathlib.Nat.{mod-lt, pos_of_ne-zero}
use native.Mathlib.Omega.{arith}
use lib.Dec.{T, T_not, eqb, ltb, eqb→eq, ltb→lt, lit<}
use lib.ListN.{length}
use borrow.Author.Tests.{eq-eqb, ne_eqb}
use Rattle.sets.specs.Sets.{has, size, every}
use Rattle.sets.proofs.Tests.{of_true, and_l, and_r, or_e}
use Rattle.sets.proofs.Facts.{every_e, every_in_e}
use Rattle.meaning.specs.Table.{word_in, k_in, t_in, b_in, source_in, delay_in, offset_in, length_in, mask_in, timers_in, cells_in, timer_ok, table_ok}
use Rattle.table.specs.Parts.{table_head_ok, table_pairs_ok, preamble_ok, block_head_ok, shape_ok, nexts_ok}
use Rattle.table.proofs.Places.{TableHead, head_of, block_room}
use Rattle.table.proofs.BlockTests.{BlockHead, block_head_of}
use Rattle.table.proofs.TableParts.{ok_is, preamble_of}

pub shape_of : (w : List ℕ) → T (table_ok w) → T (shape_ok w)
shape_of w h = and_l (shape_ok w) (nexts_ok w) (subst T (ok_is w) h)

pub delay-lt : (w : List ℕ) (t : ℕ) → delay_in w t < 65536
unfolding delay_in
delay-lt w t = mod-lt (word_in w (4 + t)) (lit< tt)

module _ (w : List ℕ) (h : T (shape_ok w)) where
  -- ---- the parts

  preamble : T (table_head_ok w) × T (every (t_in w) (timer_ok w)) × T (table_pairs_ok w)
  unfolding shape_ok
  preamble = preamble_of w (and_l (preamble_ok w) (every (b_in w) (block_head_ok w)) h)

  pub head_sound : T (table_head_ok w)
  head_sound = preamble.0

  timer_sound : (t : ℕ) → t < t_in w → T (timer_ok w t)
  timer_sound = every_e (t_in w) (timer_ok w) preamble.1

  pub pairs_sound : T (table_pairs_ok w)
  pairs_sound = preamble.2

  pub block_head_sound : (b : ℕ) → b < b_in w → T (block_head_ok w b)
  unfolding shape_ok
  block_head_sound = every_e (b_in w) (block_head_ok w) (and_r (preamble_ok w) (every (b_in w) (block_head_ok w)) h)

  -- ---- the head

  head : TableHead w
  head = head_of w head_sound

  pub k_le : k_in w ≤ 6
  k_le = head.k_le

  pub t_le : t_in w ≤ 64
  t_le = head.t_le

  pub b_pos : 0 < b_in w
  b_pos = head.b_pos

  pub b_le : b_in w ≤ 4096
  b_le = head.b_le

  -- ---- the timer words

  pub source-lt : (t : ℕ) → t < t_in w → 0 < delay_in w t → source_in w t < 32
  unfolding timer_ok delay_in
  source-lt t l p = go (or_e (eqb (word_in w (4 + t)) 0) (ltb (source_in w t) 32 && ltb 0 (delay_in w t)) (timer_sound t l))
    where
      go : T (eqb (word_in w (4 + t)) 0) ⊎ T (ltb (source_in w t) 32 && ltb 0 (delay_in w t)) → source_in w t < 32
      go (inl e) = absurd (omega (arith, eqb→eq (word_in w (4 + t)) 0 e))
      go (inr r) = ltb→lt (source_in w t) 32 (and_l (ltb (source_in w t) 32) (ltb 0 (delay_in w t)) r)

  -- ---- block 0

  first : T (eqb (mask_in w 0) 0 && eqb (timers_in w 0) 0)
  first = (block_head_of w 0 (block_head_sound 0 b_pos)).mask

  pub mask_first : mask_in w 0 ≡ 0
  mask_first = eqb→eq (mask_in w 0) 0 (and_l (eqb (mask_in w 0) 0) (eqb (timers_in w 0) 0) first)

  pub timers_first : timers_in w 0 ≡ 0
  timers_first = eqb→eq (timers_in w 0) 0 (and_r (eqb (mask_in w 0) 0) (eqb (timers_in w 0) 0) first)

  -- ---- any block

  module _ (b : ℕ) (l : b < b_in w) where
    block : BlockHead w b
    block = block_head_of w b (block_head_sound b l)

    pub mask_pos : 0 < b → 0 < mask_in w b
    mask_pos p =
        let other : T (not (eqb (mask_in w b) 0)) = rw (ne_eqb b 0 (λ e. omega arith)) at block.mask in
        pos_of_ne-zero (λ e. T_not (eqb (mask_in w b) 0) other (of_true (eq-eqb (mask_in w b) 0 e)))

    pub timers_few : size 64 (timers_in w b) ≤ 6
    timers_few = block.few

    timer_timed : (t : ℕ) → T (has (timers_in w b) t) → t < 64 → T (ltb t (t_in w) && ltb 0 (delay_in w t))
    timer_timed t m k = every_in_e 64 (timers_in w b) (λ i. ltb i (t_in w) && ltb 0 (delay_in w i)) block.timers t k m

    pub timer_lt : (t : ℕ) → T (has (timers_in w b) t) → t < 64 → t < t_in w
    timer_lt t m k = ltb→lt t (t_in w) (and_l (ltb t (t_in w)) (ltb 0 (delay_in w t)) (timer_timed t m k))

    pub delay_pos : (t : ℕ) → T (has (timers_in w b) t) → t < 64 → 0 < delay_in w t
    delay_pos t m k = ltb→lt 0 (delay_in w t) (and_r (ltb t (t_in w)) (ltb 0 (delay_in w t)) (timer_timed t m k))

    pub length_is : length_in w b ≡ 3 + 6 * cells_in w b
    length_is = block.length_is

    pub block_inside : offset_in w b + length_in w b ≤ length w
    block_inside = block_room w pairs_sound b l

    pub cell_inside : (c : ℕ) → c < cells_in w b → offset_in w b + 3 + 6 * c + 5 < length w
    cell_inside c k = omega (arith, length_is, block_inside)
