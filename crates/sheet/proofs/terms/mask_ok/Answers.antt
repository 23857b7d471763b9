-- `sheet::terms::mask_ok` meets its contract. Assumes nothing.
use borrow.Author.Tests.{lt-ltb}
use Rattle.sheet.proofs.SheetTestLaws.{shifted_none}
use Rattle.sheet.proofs.terms.mask_ok.Goals as goal

pub returns-then-v-gt0 : goal.returns-then-v-gt0
returns-then-v-gt0 c = rw (lt-ltb 0 _ c.if-v-gt0.true) (shifted_none c.args.v c.args.n)
