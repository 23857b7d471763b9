-- `recorder::table_run::ticks` meets its contract. Assumes nothing.
use Rattle.std.proofs.Common.{◌∙◌, arith, rules}
use borrow.Author.Tests.{tests}
use Rattle.sets.proofs.Tests.{of_true}
use Rattle.run.proofs.LoopLaws.{stopped_none}
use Rattle.table.proofs.LayoutFacts.{shape_of, b_le}
use Rattle.recorder.proofs.BlockPlaceLaws.{head_ok}
use Rattle.recorder.proofs.table_run.ticks.Goals as goal

pub returns-then-is_empty : goal.returns-then-is_empty
returns-then-is_empty c = c.stops.ensures _ ∙ stopped_none _ _ _ _ _ (search (rules, tests))

pub block_count-requires : goal.block_count-requires
block_count-requires c = head_ok _ c.requires.0

pub ticks_sized-requires-2 : goal.ticks_sized-requires-2
ticks_sized-requires-2 c = (c.requires.0, c.requires.1, c.requires.2, c.requires.3, b_le _ (shape_of _ (of_true c.requires.0)), omega arith)
