-- `reaction::plan::from_set` meets its contract. Assumes nothing.
use Rattle.reaction.proofs.PlanLaws.{from_words_lem}
use Rattle.reaction.proofs.plan.from_set.Goals as goal

pub returns : goal.returns
returns c = from_words_lem c.args.sheet.now c.args.plan.now c.requires c.args.set c.ranges.set.fits c.union_of.ensures
