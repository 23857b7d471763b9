-- `reaction::plan::named_in` meets its contract. Assumes nothing.
use Rattle.reaction.proofs.PlanLaws.{named_words}
use Rattle.reaction.proofs.plan.named_in.Goals as goal

pub returns : goal.returns
returns c = named_words c.args.sheet.now c.args.plan.now c.requires c.args.set c.ranges.set.fits c.union_of.ensures
