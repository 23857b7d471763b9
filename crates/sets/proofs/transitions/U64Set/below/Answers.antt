-- `sets::transitions::U64Set::below` meets its contract: all places moved down leave the n low ones. Assumes nothing.
use Rattle.std.proofs.Common.{arith}
use Rattle.sets.proofs.Membership.{ones_shr}
use Rattle.sets.proofs.transitions.U64Set.below.Goals as goal

pub returns : goal.returns
returns c = ones_shr 64 c.args.n (omega arith)
