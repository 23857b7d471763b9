-- `reaction::tick::first_triggered` meets its contract. Assumes nothing.
use Rattle.std.proofs.Common.{◌∙◌}
use Rattle.reaction.proofs.StartLaws.{unsure_asks, first_words}
use Rattle.reaction.proofs.tick.first_triggered.Goals as goal

pub triggered-requires : goal.triggered-requires
triggered-requires c = (c.requires.0.passes, unsure_asks c.args.sheet.now c.requires.1)

pub returns : goal.returns
returns c = c.triggered.ensures ∙ first_words c.args.sheet.now c.requires.0.passes c.requires.1 c.requires.2 c.hits.ensures
