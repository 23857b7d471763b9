-- `sets::modes::U32Set::below` meets its contract: all places moved down leave the n low ones. Assumes nothing.
use Rattle.std.proofs.Common.{arith}
use Rattle.sets.proofs.Membership.{ones_shr}
use Rattle.sets.proofs.modes.U32Set.below.Goals as goal

pub returns : goal.returns
returns c = ones_shr 32 c.args.n (omega arith)
