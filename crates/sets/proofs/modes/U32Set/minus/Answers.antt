-- `sets::modes::U32Set::minus` meets its contract: what is in a set and in the complement of the other is in it and not in the other. Assumes nothing.
use Rattle.sets.proofs.Membership.{and-not}
use Rattle.sets.proofs.modes.U32Set.minus.Goals as goal

pub returns : goal.returns
returns c = and-not 32 c.ranges.self.fits c.ranges.other.fits
