-- `table::table_ok` meets its contract: the blocks count where what stands before them has passed. Assumes nothing.
use Rattle.std.proofs.Common.{sym, ◌∙◌}
use Rattle.sets.proofs.Loops.{and_on, and_off}
use Rattle.table.proofs.TableParts.{table_is}
use Rattle.table.proofs.table_ok.Goals as goal

pub returns-then-preamble_ok : goal.returns-then-preamble_ok
returns-then-preamble_ok c = and_on _ _ _ (sym c.preamble_ok.ensures ∙ c.if-preamble_ok.true) c.blocks_ok.ensures ∙ sym (table_is _)

pub returns-else-preamble_ok : goal.returns-else-preamble_ok
returns-else-preamble_ok c = and_off _ _ _ (sym c.preamble_ok.ensures ∙ c.if-preamble_ok.false) c.preamble_ok.ensures ∙ sym (table_is _)
