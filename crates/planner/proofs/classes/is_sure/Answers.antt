-- `planner::classes::is_sure` meets its contract. Assumes nothing.
use Rattle.std.proofs.Common.{ℕ, eqb, ap}
use Rattle.planner.specs.Parts.{is_sure}
use Rattle.planner.proofs.classes.is_sure.Goals as goal

pub returns-then-is_delay : goal.returns-then-is_delay
unfolding is_sure
returns-then-is_delay c = rw (← c.is_delay.ensures, c.if-is_delay.true) (ap (λ (x : ℕ). eqb x 0) c.delay.ensures)

pub returns : goal.returns
unfolding is_sure
returns c = rw (← c.is_delay.ensures, c.if-is_delay.false) c.events_only.ensures
