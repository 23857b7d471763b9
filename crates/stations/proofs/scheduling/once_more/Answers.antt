-- `stations::scheduling::once_more` meets its contract. Assumes nothing.
use Rattle.std.proofs.Common.{sym, ◌∙◌}
use Rattle.stations.proofs.ScheduleCases.{once_spent, once_idle, once_goes}
use Rattle.stations.proofs.scheduling.once_more.Goals as goal

pub returns-then-left-eq0 : goal.returns-then-left-eq0
returns-then-left-eq0 c = c.stops_at.ensures ∙ sym (once_spent _ _ _ c.if-left-eq0.true)

pub returns-then-working-eq0 : goal.returns-then-working-eq0
returns-then-working-eq0 c = c.stops_at-then-working-eq0.ensures ∙ sym (once_idle _ _ _ c.if-left-eq0.false c.if-working-eq0.true)

pub returns : goal.returns
returns c = c.sweep.ensures ∙ sym (once_goes _ _ _ c.if-left-eq0.false c.if-working-eq0.false)
