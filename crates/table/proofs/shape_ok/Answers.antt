-- `table::shape_ok` meets its contract: the blocks count where what stands before them has passed. Assumes nothing.
use Rattle.std.proofs.Common.{sym, ◌∙◌}
use Rattle.sets.proofs.Loops.{and_on, and_off}
use Rattle.table.specs.Parts.{shape_ok}
use Rattle.table.proofs.shape_ok.Goals as goal

pub returns-then-preamble_ok : goal.returns-then-preamble_ok
unfolding shape_ok
returns-then-preamble_ok c = and_on _ _ _ (sym c.preamble_ok.ensures ∙ c.if-preamble_ok.true) c.block_heads_ok.ensures

pub returns-else-preamble_ok : goal.returns-else-preamble_ok
unfolding shape_ok
returns-else-preamble_ok c = and_off _ _ _ (sym c.preamble_ok.ensures ∙ c.if-preamble_ok.false) c.preamble_ok.ensures
