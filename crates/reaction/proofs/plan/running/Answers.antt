-- `reaction::plan::running` meets its contract. Assumes nothing.
use Rattle.std.proofs.Common.{ap₂, ◌∙◌}
use Rattle.sets.specs.Sets.{meet}
use Rattle.reaction.proofs.PlanLaws.{running_meet}
use Rattle.reaction.proofs.plan.running.Goals as goal

pub returns : goal.returns
returns c = ap₂ meet c.from_set.ensures c.requires.timing_at ∙ running_meet c.args.sheet.now c.args.set
