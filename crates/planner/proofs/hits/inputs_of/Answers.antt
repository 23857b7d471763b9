-- `planner::hits::inputs_of` meets its contract. Assumes nothing.
use Rattle.std.proofs.Common.{sym, ◌∙◌}
use Rattle.planner.proofs.HitLaws.{inputs_all, inputs_on, sure_events}
use Rattle.planner.proofs.hits.inputs_of.Goals as goal

pub returns-then-is_delay : goal.returns-then-is_delay
returns-then-is_delay c = inputs_all c.args.sheet.now c.args.t (sym c.is_delay.ensures ∙ c.if-is_delay.true)

pub inputs_on-requires : goal.inputs_on-requires
inputs_on-requires c = (c.requires.0, c.requires.1, sure_events c.args.sheet.now c.args.t c.requires.2 (sym c.is_delay.ensures ∙ c.if-is_delay.false))

pub returns : goal.returns
returns c = inputs_on c.args.sheet.now c.args.t (sym c.is_delay.ensures ∙ c.if-is_delay.false) c.inputs_on.ensures
