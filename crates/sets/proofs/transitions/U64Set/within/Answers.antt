-- `sets::transitions::U64Set::within` meets its contract: nothing is left of a set without the other where every member is in the other. Assumes
-- nothing.
use Rattle.sets.proofs.Quantifiers.{minus_every}
use Rattle.sets.proofs.transitions.U64Set.within.Goals as goal

pub returns : goal.returns
returns c = rw c.minus.ensures (minus_every 64 c.args.self c.args.other c.ranges.self.fits)
