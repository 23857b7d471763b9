-- `stations::turn::has_work` meets its contract. Assumes nothing.
use Rattle.stations.proofs.TurnLaws.{work_marked, work_unmarked}
use Rattle.stations.proofs.turn.has_work.Goals as goal

pub returns-then-s-ne0 : goal.returns-then-s-ne0
returns-then-s-ne0 c = work_marked _ c.if-s-ne0.true

pub returns : goal.returns
returns c = work_unmarked _ c.if-s-ne0.false
