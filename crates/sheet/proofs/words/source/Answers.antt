-- `sheet::words::source` meets its contract. Assumes nothing.
use Rattle.std.proofs.Common.{arith}
use Rattle.meaning.specs.Sheet.{word, source}
use Rattle.sheet.proofs.SheetTestLaws.{placed}
use Rattle.sheet.proofs.words.source.Goals as goal

pub offset_bounds-sheet-offset : goal.offset_bounds-sheet-offset
offset_bounds-sheet-offset c = omega (arith, placed c.requires)

pub bounds-sheet-offset : goal.bounds-sheet-offset
bounds-sheet-offset c = omega (arith, placed c.requires)

pub returns : goal.returns
unfolding source word
returns c = rw c.offset.ensures at c.wide.ensures
