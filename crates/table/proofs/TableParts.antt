-- The table's tests are those of the parts, in the order in which the code makes them; and those of the layout but for next blocks,
-- with those of next blocks. Assumes nothing.
use mathlib.Core.Path.{◌≡◌, sym, ap, ◌∙◌}
use mathlib.Core.Bool.{Bool, ◌&&◌, and_assoc, and-true}
use mathlib.Core.List.{List}
use Prim.Native.Nat.{ℕ}
use lib.Dec.{T}
use Rattle.sets.specs.Sets.{every}
use Rattle.sets.proofs.Tests.{and_l, and_r}
use Rattle.sets.proofs.Quantifiers.{every_same, every_both}
use Rattle.meaning.specs.Lists.{all_of}
use Rattle.meaning.specs.Table.{t_in, b_in, timer_ok, block_ok, table_ok}
use Rattle.table.specs.Parts.{table_head_ok, table_pairs_ok, preamble_ok, block_head_ok, next_blocks_ok, shape_ok, nexts_ok}

pub table_is : (w : List ℕ) → table_ok w ≡ (preamble_ok w && every (b_in w) (block_ok w))
unfolding table_ok table_head_ok table_pairs_ok all_of
table_is w = simp (and_assoc, and-true)

pub preamble_of : (w : List ℕ) → T (preamble_ok w) → T (table_head_ok w) × T (every (t_in w) (timer_ok w)) × T (table_pairs_ok w)
preamble_of w h =
    let two = and_l (table_head_ok w && every (t_in w) (timer_ok w)) (table_pairs_ok w) h in (
      and_l (table_head_ok w) (every (t_in w) (timer_ok w)) two,
      and_r (table_head_ok w) (every (t_in w) (timer_ok w)) two,
      and_r (table_head_ok w && every (t_in w) (timer_ok w)) (table_pairs_ok w) h,
    )

pub block_is : (w : List ℕ) (b : ℕ) → block_ok w b ≡ (block_head_ok w b && next_blocks_ok w b)
unfolding block_ok block_head_ok next_blocks_ok all_of
block_is w b = simp (and_assoc, and-true)

pub ok_is : (w : List ℕ) → table_ok w ≡ (shape_ok w && nexts_ok w)
unfolding shape_ok nexts_ok
ok_is w =
    table_is w
    ∙ ap (λ (x : Bool). preamble_ok w && x) (every_same (b_in w) (block_ok w) (λ b. block_head_ok w b && next_blocks_ok w b) (λ b l. block_is w b)
    ∙ every_both (b_in w) (block_head_ok w) (next_blocks_ok w))
    ∙ sym (and_assoc (preamble_ok w) (every (b_in w) (block_head_ok w)) (every (b_in w) (next_blocks_ok w)))
