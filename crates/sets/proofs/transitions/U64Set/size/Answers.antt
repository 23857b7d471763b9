-- `sets::transitions::U64Set::size` meets its contract: the count of ones is the number of members. Assumes nothing.
use Rattle.sets.proofs.Members.{ones-size}
use Rattle.sets.proofs.transitions.U64Set.size.Goals as goal

pub returns : goal.returns
returns c = ones-size 64 c.args.self c.ranges.self.fits
