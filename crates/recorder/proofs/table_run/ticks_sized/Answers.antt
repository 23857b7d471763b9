-- `recorder::table_run::ticks_sized` meets its contract. Assumes nothing.
use Rattle.std.proofs.Common.{arith}
use Rattle.recorder.proofs.table_run.ticks_sized.Goals as goal

pub whole_as_slice-put_block_timers : goal.whole_as_slice-put_block_timers
whole_as_slice-put_block_timers g c = omega (arith, c.requires.5)

pub shared_whole_as_slice-ticks_with : goal.shared_whole_as_slice-ticks_with
shared_whole_as_slice-ticks_with g c = omega (arith, c.requires.5)
