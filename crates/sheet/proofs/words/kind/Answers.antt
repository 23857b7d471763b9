-- `sheet::words::kind` meets its contract. Assumes nothing.
use Rattle.std.proofs.Common.{arith, refl}
use Rattle.meaning.specs.Sheet.{word, kind}
use Rattle.sheet.proofs.SheetTestLaws.{head_of}
use Rattle.sheet.proofs.words.kind.Goals as goal

pub overflow_mul-result : goal.overflow_mul-result
overflow_mul-result c = omega (arith, head_of _ c.requires.head)

pub overflow_add-result : goal.overflow_add-result
overflow_add-result c = omega (arith, head_of _ c.requires.head)

pub offset_bounds-sheet-m : goal.offset_bounds-sheet-m
offset_bounds-sheet-m c = omega (arith, head_of _ c.requires.head)

pub bounds-sheet-m : goal.bounds-sheet-m
bounds-sheet-m c = omega (arith, head_of _ c.requires.head)

pub returns : goal.returns
unfolding kind word
returns c = refl
