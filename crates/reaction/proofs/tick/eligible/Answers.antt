-- `reaction::tick::eligible` meets its contract, by `eligible_words`. Assumes nothing.
use Rattle.std.proofs.Common.{ap, ◌∙◌}
use Rattle.sets.specs.Sets.{minus}
use Rattle.reaction.proofs.RoundLaws.{eligible_words}
use Rattle.reaction.proofs.tick.eligible.Goals as goal

pub returns : goal.returns
returns c =
    let a = c.args in
    c.minus.ensures ∙ ap (minus a.ts) c.yielding.ensures ∙ eligible_words a.sheet.now a.ts c.requires.1
