-- The timers of the blocks passed stand in their places.
use Rattle.std.proofs.Common.{◌≡◌, ◌<◌, ℕ, get_or}
use Rattle.meaning.specs.Table.{timers_in}
use Rattle.recorder.proofs.timers.put_block_timers.Given as goal

abbrev pub invariant-loop-b : goal.invariant-loop-b
invariant-loop-b l = (j : ℕ) → j < l.b → get_or l.timers j 0 ≡ timers_in l.table j
