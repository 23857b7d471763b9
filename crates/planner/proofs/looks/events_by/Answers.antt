-- `planner::looks::events_by` meets its contract. Assumes nothing.
use Rattle.std.proofs.Common.{inl, inr}
use Rattle.planner.proofs.LookLaws.{event_one, event_none}
use Rattle.planner.proofs.looks.events_by.Goals as goal
use Rattle.planner.proofs.looks.events_by.Goals.{then-kind-via-then-kind, then-kind-via-else-kind+then-kind-2}

pub returns-then-kind : goal.returns-then-kind
returns-then-kind c e =
    event_one _ _ e (elim c.then-kind.branch [ then-kind-via-then-kind w ↦ inl w.if-kind.true | then-kind-via-else-kind+then-kind-2 w ↦ inr w.if-kind-2.true ])
    c.wide.ensures c.single.ensures

pub returns : goal.returns
returns c e = event_none _ _ e c.if-kind.false c.if-kind-2.false
