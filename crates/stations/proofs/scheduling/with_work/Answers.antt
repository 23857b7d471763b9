-- `stations::scheduling::with_work` meets its contract. Assumes nothing.
use Rattle.stations.proofs.ScheduleCases.{digit-true, digit-false}
use Rattle.stations.proofs.scheduling.with_work.Goals as goal

pub returns-then-works : goal.returns-then-works
returns-then-works c = digit-true _ _ c.if-works.true

pub returns : goal.returns
returns c = digit-false _ _ c.if-works.false
