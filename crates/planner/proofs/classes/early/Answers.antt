-- `planner::classes::early` meets its contract. Assumes nothing.
use Rattle.reaction.proofs.TriggerLaws.{mixed_asks}
use Rattle.planner.proofs.ClassLaws.{early_is}
use Rattle.planner.proofs.classes.early.Goals as goal

pub judged-requires : goal.judged-requires
judged-requires c = (c.requires.0, λ t k. mixed_asks c.args.sheet.now t c.requires.1 k)

pub returns : goal.returns
returns c = early_is c.args.sheet.now c.requires.0 c.requires.1 c.judged.ensures
