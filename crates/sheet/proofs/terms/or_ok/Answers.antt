-- `sheet::terms::or_ok` meets its contract. Assumes nothing.
use Rattle.std.proofs.Common.{arith}
use Rattle.sheet.proofs.SheetTestLaws.{term_room}
use Rattle.sheet.proofs.terms.or_ok.Goals as goal

pub overflow_add-j : goal.overflow_add-j
overflow_add-j c = omega (arith, term_room c.requires)
