-- `sheet::words::is_child` meets its contract. Assumes nothing.
use borrow.Author.Tests.{lt-ltb, le-ltb}
use Rattle.meaning.specs.Sheet.{is_child}
use Rattle.sheet.proofs.words.is_child.Goals as goal

pub returns-then-m-gt0 : goal.returns-then-m-gt0
unfolding is_child
returns-then-m-gt0 c = rw (lt-ltb _ _ c.if-m-gt0.true, c.parent.ensures)

pub returns-else-m-gt0 : goal.returns-else-m-gt0
unfolding is_child
returns-else-m-gt0 c = rw (le-ltb _ _ c.if-m-gt0.false)
