-- `sheet::words::event_count` meets its contract. Assumes nothing.
use Rattle.std.proofs.Common.{arith, refl}
use Rattle.meaning.specs.Sheet.{word, k_of}
use Rattle.sheet.proofs.SheetTestLaws.{head_of}
use Rattle.sheet.proofs.words.event_count.Goals as goal

pub bounds-sheet-1 : goal.bounds-sheet-1
bounds-sheet-1 c = omega (arith, head_of _ c.requires)

pub returns : goal.returns
unfolding k_of word
returns c = refl
