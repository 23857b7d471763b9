-- The delays of the transitions passed stand in their places.
use Rattle.std.proofs.Common.{◌≡◌}
use Rattle.meaning.specs.Lists.{row_from}
use Rattle.recorder.proofs.TimerLaws.{delays_below}
use Rattle.recorder.proofs.timers.delays.Given as goal

abbrev pub invariant-loop-t : goal.invariant-loop-t
invariant-loop-t l = l.r ≡ row_from 0 64 (delays_below l.table l.t)
