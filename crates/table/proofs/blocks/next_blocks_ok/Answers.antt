-- `table::blocks::next_blocks_ok` meets its contract: the block's length says how many cells it has. Assumes nothing.
use Rattle.std.proofs.Common.{◌≡◌, ◌+◌, ◌-◌, ◌*◌, ◌/◌, ◌≤◌, length, ◌∙◌, arith}
use Rattle.meaning.specs.Table.{word_in, b_in, cells_in}
use Rattle.table.proofs.Places.{head_of, block_room}
use Rattle.table.proofs.BlockTests.{block_head_of, next_in_part}
use Rattle.table.proofs.blocks.next_blocks_ok.Goals as goal
use Rattle.table.proofs.blocks.next_blocks_ok.Goals.{After-block_length-size}

room : (c : After-block_length-size) → c.offset-at.result + c.block_length-size.result ≤ length c.args.table.now
room c = omega (arith, block_room c.args.table.now c.requires.1 c.args.b c.requires.2)

size_is : (c : After-block_length-size) → c.block_length-size.result ≡ 3 + 6 * cells_in c.args.table.now c.args.b
size_is c = c.block_length-size.ensures ∙ (block_head_of _ _ c.requires.3).length_is

pub overflow_add-at : goal.overflow_add-at
overflow_add-at c = omega (arith, room c, size_is c)

pub overflow_add-at-2 : goal.overflow_add-at-2
overflow_add-at-2 c = omega (arith, room c)

pub offset_bounds-table-at : goal.offset_bounds-table-at
offset_bounds-table-at c = omega (arith, room c, size_is c)

pub slice_bounds-cells_ok-count : goal.slice_bounds-cells_ok-count
slice_bounds-cells_ok-count c = omega (arith, size_is c)

pub slice_bounds-cells_ok-start : goal.slice_bounds-cells_ok-start
slice_bounds-cells_ok-start c = omega (arith, size_is c)

pub slice_bounds-cells_ok-end : goal.slice_bounds-cells_ok-end
slice_bounds-cells_ok-end c = omega (arith, room c)

pub overflow_sub-size : goal.overflow_sub-size
overflow_sub-size c = omega (arith, size_is (goal.at.overflow_sub-size c).After-block_length-size)

pub bounds-table-3 : goal.bounds-table-3
bounds-table-3 c = omega (arith, head_of _ c.requires.0)

pub returns : goal.returns
unfolding b_in word_in
returns c =
    let at = c.offset-at.result in
    let size = c.block_length-size.result in
    c.cells_ok.ensures
    ∙ next_in_part c.args.table.now c.args.b at ((size - 3) / 6) (at + size - (at + 3)) c.offset-at.ensures (omega (arith, size_is (goal.at.returns c).After-block_length-size)) (omega arith)
