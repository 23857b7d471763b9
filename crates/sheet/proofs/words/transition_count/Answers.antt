-- `sheet::words::transition_count` meets its contract. Assumes nothing.
use Rattle.std.proofs.Common.{arith}
use Rattle.meaning.specs.Sheet.{word, t_of}
use Rattle.sheet.proofs.SheetTestLaws.{head_of}
use Rattle.sheet.proofs.words.transition_count.Goals as goal

pub bounds-sheet-2 : goal.bounds-sheet-2
bounds-sheet-2 c = omega (arith, head_of _ c.requires)

pub returns : goal.returns
unfolding t_of word
returns c = c.wide.ensures
