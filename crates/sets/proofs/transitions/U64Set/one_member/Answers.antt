-- `sets::transitions::U64Set::one_member` meets its contract: the count of ones is the number of members. Assumes nothing.
use Rattle.sets.proofs.Members.{ones-size}
use Rattle.sets.proofs.transitions.U64Set.one_member.Goals as goal

pub returns : goal.returns
returns c = rw (ones-size 64 c.args.self c.ranges.self.fits)
