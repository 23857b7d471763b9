-- `planner::looks::entry_by` meets its contract. Assumes nothing.
use Rattle.planner.proofs.LookLaws.{entry_mask, entry_one, entry_none}
use Rattle.planner.proofs.looks.entry_by.Goals as goal

pub returns-then-kind : goal.returns-then-kind
returns-then-kind c m = entry_mask _ _ m c.if-kind.true

pub returns-then-kind-2 : goal.returns-then-kind-2
returns-then-kind-2 c m = entry_one _ _ m c.if-kind-2.true c.wide.ensures c.single.ensures

pub returns : goal.returns
returns c m = entry_none _ _ m c.if-kind.false c.if-kind-2.false
