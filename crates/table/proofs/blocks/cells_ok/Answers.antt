-- `table::blocks::cells_ok` meets its contract. Assumes nothing.
use Rattle.std.proofs.Common.{refl, sym}
use Rattle.sets.proofs.Loops.{every_start, every_and}
use Rattle.table.specs.Parts.{next_ok}
use Rattle.table.proofs.blocks.cells_ok.Goals as goal

pub loop-c-init : goal.loop-c-init
loop-c-init c = sym (every_start _)

pub loop-c-preserved : goal.loop-c-preserved
unfolding next_ok
loop-c-preserved c = every_and (next_ok c.args.cells.now c.args.blocks) _ _ _ _ c.loop-c.invariant refl
