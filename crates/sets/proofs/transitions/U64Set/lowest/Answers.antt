-- `sets::transitions::U64Set::lowest` meets its contract: the zeros below the lowest set bit count up to the lowest member. Assumes nothing.
use Rattle.sets.proofs.Members.{trailing_zeros_lowest}
use Rattle.sets.proofs.transitions.U64Set.lowest.Goals as goal

pub returns : goal.returns
returns c = trailing_zeros_lowest 64 c.args.self c.ranges.self.fits
