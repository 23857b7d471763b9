-- `sheet::words::mode_count` meets its contract. Assumes nothing.
use Rattle.std.proofs.Common.{arith}
use Rattle.meaning.specs.Sheet.{word, n_of}
use Rattle.sheet.proofs.SheetTestLaws.{head_of}
use Rattle.sheet.proofs.words.mode_count.Goals as goal

pub bounds-sheet-0 : goal.bounds-sheet-0
bounds-sheet-0 c = omega (arith, head_of _ c.requires)

pub returns : goal.returns
unfolding n_of word
returns c = c.wide.ensures
