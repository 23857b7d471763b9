-- `sheet::words::term_value` meets its contract. Assumes nothing.
use Rattle.std.proofs.Common.{arith}
use Rattle.meaning.specs.Sheet.{word, term_value}
use Rattle.sheet.proofs.SheetTestLaws.{term_room}
use Rattle.sheet.proofs.words.term_value.Goals as goal

pub overflow_add-result : goal.overflow_add-result
overflow_add-result c = omega (arith, term_room c.requires)

pub overflow_mul-result : goal.overflow_mul-result
overflow_mul-result c = omega (arith, term_room c.requires)

pub overflow_add-result-2 : goal.overflow_add-result-2
overflow_add-result-2 c = omega (arith, term_room c.requires)

pub offset_bounds-sheet-offset : goal.offset_bounds-sheet-offset
offset_bounds-sheet-offset c = omega (arith, term_room c.requires)

pub bounds-sheet-offset : goal.bounds-sheet-offset
bounds-sheet-offset c = omega (arith, term_room c.requires)

pub returns : goal.returns
unfolding term_value word
returns c = rw c.offset.ensures
