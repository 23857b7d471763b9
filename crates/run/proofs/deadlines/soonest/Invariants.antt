-- The timers passed are due at the tick found or later (`Soonest`).
use Rattle.run.proofs.SoonestLaws.{Soonest}
use Rattle.run.proofs.deadlines.soonest.Given as goal

abbrev pub invariant-loop-t : goal.invariant-loop-t
invariant-loop-t l = Soonest l.timers l.ends l.soon l.t-iterator.rest
