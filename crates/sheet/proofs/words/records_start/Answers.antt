-- `sheet::words::records_start` meets its contract. Assumes nothing.
use Rattle.std.proofs.Common.{arith}
use Rattle.sheet.proofs.SheetTestLaws.{head_of}
use Rattle.sheet.proofs.words.records_start.Goals as goal

pub overflow_mul-result : goal.overflow_mul-result
overflow_mul-result c = omega (arith, head_of _ c.requires)

pub overflow_add-result : goal.overflow_add-result
overflow_add-result c = omega (arith, head_of _ c.requires)

pub overflow_mul-result-2 : goal.overflow_mul-result-2
overflow_mul-result-2 c = omega (arith, head_of _ c.requires)

pub overflow_add-result-2 : goal.overflow_add-result-2
overflow_add-result-2 c = omega (arith, head_of _ c.requires)
