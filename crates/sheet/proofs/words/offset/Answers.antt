-- `sheet::words::offset` meets its contract. Assumes nothing.
use Rattle.std.proofs.Common.{arith}
use Rattle.meaning.specs.Sheet.{word, offset}
use Rattle.sheet.proofs.SheetTestLaws.{head_of}
use Rattle.sheet.proofs.words.offset.Goals as goal

pub overflow_mul-mode_count : goal.overflow_mul-mode_count
overflow_mul-mode_count c = omega (arith, head_of _ c.requires.head)

pub overflow_add-mode_count : goal.overflow_add-mode_count
overflow_add-mode_count c = omega (arith, head_of _ c.requires.head)

pub overflow_mul-t : goal.overflow_mul-t
overflow_mul-t c = omega (arith, head_of _ c.requires.head)

pub overflow_add-mode_count-2 : goal.overflow_add-mode_count-2
overflow_add-mode_count-2 c = omega (arith, head_of _ c.requires.head)

pub offset_bounds-sheet-mode_count : goal.offset_bounds-sheet-mode_count
offset_bounds-sheet-mode_count c = omega (arith, head_of _ c.requires.head)

pub bounds-sheet-mode_count : goal.bounds-sheet-mode_count
bounds-sheet-mode_count c = omega (arith, head_of _ c.requires.head)

pub returns : goal.returns
unfolding offset word
returns c = rw c.mode_count.ensures at c.wide.ensures
