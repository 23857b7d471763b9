-- `table::blocks::block_ok` meets its contract: the next blocks count where the rest has passed. Assumes nothing.
use Rattle.std.proofs.Common.{sym, ◌∙◌}
use Rattle.sets.proofs.Loops.{and_on, and_off}
use Rattle.table.proofs.TableParts.{block_is}
use Rattle.table.proofs.blocks.block_ok.Goals as goal

pub returns-then-block_head_ok : goal.returns-then-block_head_ok
returns-then-block_head_ok c =
    and_on _ _ _ (sym c.block_head_ok.ensures ∙ c.if-block_head_ok.true) c.next_blocks_ok.ensures ∙ sym (block_is _ _)

pub returns-else-block_head_ok : goal.returns-else-block_head_ok
returns-else-block_head_ok c =
    and_off _ _ _ (sym c.block_head_ok.ensures ∙ c.if-block_head_ok.false) c.block_head_ok.ensures ∙ sym (block_is _ _)
