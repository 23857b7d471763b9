-- Of the timers passed, those that are due are found, and their number (`Counted`).
use Rattle.std.proofs.Common.{eqb, get_or}
use Rattle.run.proofs.DueNumberLaws.{Counted}
use Rattle.run.proofs.deadlines.due.Given as goal

abbrev pub invariant-loop-t : goal.invariant-loop-t
invariant-loop-t l = Counted l.timers l.low (λ t. eqb (get_or l.ends t 0) l.tick) l.set l.number l.place l.t-iterator.rest
