-- `table::blocks::mask_ok` meets its contract. Assumes nothing.
use borrow.Author.Tests.{eq-eqb, ne_eqb}
use Rattle.meaning.specs.Table.{word_in}
use Rattle.table.proofs.blocks.mask_ok.Goals as goal

pub returns-then-table-offset-eq0 : goal.returns-then-table-offset-eq0
unfolding word_in
returns-then-table-offset-eq0 c = rw (eq-eqb _ _ c.if-b-eq0.true, eq-eqb _ _ c.if-table-offset-eq0.true)

pub returns-else-table-offset-eq0 : goal.returns-else-table-offset-eq0
unfolding word_in
returns-else-table-offset-eq0 c = rw (eq-eqb _ _ c.if-b-eq0.true, ne_eqb _ _ c.if-table-offset-eq0.false)

pub returns : goal.returns
unfolding word_in
returns c = rw (ne_eqb _ _ c.if-b-eq0.false)
