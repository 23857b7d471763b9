-- Of the loop of `simulator::state::sums_ok`: the sums of the timers left are as they must be just if all are.
use Rattle.std.proofs.Common.{◌≡◌, ◌^◌, ◌<◌, get_or}
use Rattle.sets.proofs.Those.{Subset}
use Rattle.meaning.specs.Sheet.{source}
use Rattle.meaning.specs.Ages.{sums_ok}
use Rattle.meaning.specs.Run.{reading}
use Rattle.simulator.proofs.state.sums_ok.Given as goal

abbrev pub invariant-loop-t : goal.invariant-loop-t
invariant-loop-t l =
    let rest = l.t-iterator.rest in
    (rest < 2 ^ 64) × Subset rest l.timers
    × (sums_ok rest (source l.sheet) (λ t. get_or l.delays t 0) (reading l.readings) l.ages
    ≡ sums_ok l.timers (source l.sheet) (λ t. get_or l.delays t 0) (reading l.readings) l.ages)
