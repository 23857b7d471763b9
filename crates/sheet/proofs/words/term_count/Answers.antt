-- `sheet::words::term_count` meets its contract. Assumes nothing.
use Rattle.std.proofs.Common.{arith}
use Rattle.meaning.specs.Sheet.{term_count}
use Rattle.sheet.proofs.SheetTestLaws.{placed}
use Rattle.sheet.proofs.words.term_count.Goals as goal

pub overflow_sub-result : goal.overflow_sub-result
overflow_sub-result c = omega (arith, placed c.requires)

pub returns : goal.returns
unfolding term_count
returns c = rw c.record_length.ensures
