-- `sheet::words::parent` meets its contract. Assumes nothing.
use Rattle.std.proofs.Common.{arith}
use Rattle.meaning.specs.Sheet.{word, parent}
use Rattle.sheet.proofs.SheetTestLaws.{head_of}
use Rattle.sheet.proofs.words.parent.Goals as goal

pub overflow_mul-m : goal.overflow_mul-m
overflow_mul-m c = omega (arith, head_of _ c.requires.head)

pub overflow_add-m : goal.overflow_add-m
overflow_add-m c = omega (arith, head_of _ c.requires.head)

pub offset_bounds-sheet-m : goal.offset_bounds-sheet-m
offset_bounds-sheet-m c = omega (arith, head_of _ c.requires.head)

pub bounds-sheet-m : goal.bounds-sheet-m
bounds-sheet-m c = omega (arith, head_of _ c.requires.head)

pub returns : goal.returns
unfolding parent word
returns c = c.wide.ensures
