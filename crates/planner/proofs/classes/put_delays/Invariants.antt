-- Of the loop of `planner::classes::put_delays`: the timers passed have their delays, the other words are 0.
use Rattle.std.proofs.Common.{◌^◌, ◌<◌}
use Rattle.sets.proofs.Those.{Subset}
use Rattle.planner.specs.Parts.{Words}
use Rattle.planner.proofs.ClassLaws.{delays_but}
use Rattle.planner.proofs.classes.put_delays.Given as goal

abbrev pub invariant-loop-t : goal.invariant-loop-t
invariant-loop-t l =
    (l.t-iterator.rest < 2 ^ 64) × Subset l.t-iterator.rest l.timing × Words l.delays 64 (delays_but l.sheet l.t-iterator.rest)
