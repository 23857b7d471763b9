-- A block's timers and cells: where they stand, and the number of a cell. Assumes nothing.
use mathlib.Core.Path.{◌≡◌}
use mathlib.Core.Bool.{true}
use mathlib.Core.List.{List}
use Prim.Native.Nat.{ℕ, ◌+◌, ◌*◌, ◌^◌, ◌≤◌, ◌<◌}
use native.Mathlib.Nat.{lt_of_lt_of_le, mul-le-mul_left}
use native.Mathlib.Omega.{arith}
use lib.Arith.{digits_lt}
use lib.Dec.{T}
use lib.ListN.{length}
use lib.Pow.{pow_mono}
use Rattle.sets.proofs.Tests.{of_true}
use Rattle.meaning.specs.Table.{b_in, offset_in, table_ok}
use Rattle.table.specs.Parts.{table_head_ok}
use Rattle.table.proofs.LayoutFacts.{shape_of, head_sound, length_is, block_inside}

-- a block's mask and timers lie within the table
pub header_inside : (w : List ℕ) → T (table_ok w) → (b : ℕ) → b < b_in w → offset_in w b + 3 ≤ length w
header_inside w h b l = omega (arith, length_is w (shape_of w h) b l, block_inside w (shape_of w h) b l)

-- the number of a cell is small
pub cell_small : {due : ℕ} (k : ℕ) {input : ℕ} → due < 64 → k ≤ 6 → input < 2 ^ k → due * 2 ^ k + input < 4096
cell_small k d l i = lt_of_lt_of_le (digits_lt d i) (mul-le-mul_left 64 (pow_mono {j = 6} l))

-- its head is sound
pub head_ok : (w : List ℕ) → table_ok w ≡ true → T (table_head_ok w)
head_ok w h = head_sound w (shape_of w (of_true h))
