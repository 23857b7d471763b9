-- The running readings passed are as they must be, and added up (`Adding`).
use Rattle.std.proofs.Common.{◌&&◌, get_or}
use lib.Dec.{leb}
use Rattle.meaning.specs.Run.{reading}
use Rattle.run.proofs.SumLaws.{Adding}
use Rattle.run.proofs.state.readings_ok.Given as goal

abbrev pub invariant-loop-t : goal.invariant-loop-t
invariant-loop-t l =
    Adding 64 l.timers (λ t. leb 1 (reading l.readings t) && leb (reading l.readings t) (get_or l.delays t 0)) (reading l.readings) l.sum l.t-iterator.rest
