-- `table::words::block_length` meets its contract. Assumes nothing.
use Rattle.std.proofs.Common.{arith}
use Rattle.meaning.specs.Table.{word_in, length_in}
use Rattle.table.proofs.Places.{head_of}
use Rattle.table.proofs.words.block_length.Goals as goal

pub overflow_add-result : goal.overflow_add-result
overflow_add-result c = omega (arith, head_of _ c.requires.0)

pub overflow_mul-result : goal.overflow_mul-result
overflow_mul-result c = omega (arith, head_of _ c.requires.0)

pub overflow_add-result-2 : goal.overflow_add-result-2
overflow_add-result-2 c = omega (arith, head_of _ c.requires.0)

pub offset_bounds-table-transition_count : goal.offset_bounds-table-transition_count
offset_bounds-table-transition_count c = omega (arith, head_of _ c.requires.0)

pub bounds-table-transition_count : goal.bounds-table-transition_count
bounds-table-transition_count c = omega (arith, head_of _ c.requires.0)

pub returns : goal.returns
unfolding length_in word_in
returns c = rw c.transition_count.ensures
