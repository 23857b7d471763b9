-- `stations::turn::parts_well` meets its contract. Assumes nothing.
use Rattle.std.proofs.Common.{sym, ◌∙◌, refl}
use Rattle.sets.proofs.Loops.{and_on}
use Rattle.stations.proofs.turn.parts_well.Goals as goal

pub returns-then-not-parts_within : goal.returns-then-not-parts_within
returns-then-not-parts_within c = rw (sym c.parts_within.ensures ∙ c.if-not-parts_within.true) refl

pub returns : goal.returns
returns c = and_on _ _ _ (sym c.parts_within.ensures ∙ c.if-not-parts_within.false) c.apart.ensures
