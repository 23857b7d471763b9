-- The timers among the transitions passed stand with their sources.
use Rattle.std.proofs.Common.{◌≡◌}
use Rattle.meaning.specs.Lists.{row_from}
use Rattle.recorder.specs.Timers.{timers_below}
use Rattle.recorder.proofs.timers.timers_from.Given as goal

abbrev pub invariant-loop-t : goal.invariant-loop-t
invariant-loop-t l = l.r ≡ row_from 0 32 (timers_below l.table l.t)
