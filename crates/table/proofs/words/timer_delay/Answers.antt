-- `table::words::timer_delay` meets its contract. Assumes nothing.
use Rattle.std.proofs.Common.{arith, refl}
use Rattle.meaning.specs.Table.{word_in, delay_in}
use Rattle.table.proofs.Places.{head_of}
use Rattle.table.proofs.words.timer_delay.Goals as goal

pub overflow_add-result : goal.overflow_add-result
overflow_add-result c = omega (arith, head_of _ c.requires.0)

pub offset_bounds-table-t : goal.offset_bounds-table-t
offset_bounds-table-t c = omega (arith, head_of _ c.requires.0)

pub bounds-table-t : goal.bounds-table-t
bounds-table-t c = omega (arith, head_of _ c.requires.0)

pub returns : goal.returns
unfolding delay_in word_in
returns c = refl
