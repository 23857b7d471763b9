-- `recorder::table_run::block_at` meets its contract. Assumes nothing.
use Rattle.recorder.proofs.BlockPlaceLaws.{head_ok}
use Rattle.recorder.proofs.table_run.block_at.Goals as goal

pub offset-at-requires : goal.offset-at-requires
offset-at-requires c = (head_ok _ c.requires.0, c.requires.2)
