-- `sets::modes::U32Set::single_if` meets its contract: by the value of the test. Assumes nothing.
use Rattle.sets.proofs.Membership.{placed}
use Rattle.sets.proofs.modes.U32Set.single_if.Goals as goal

pub returns : goal.returns
returns c = placed 32 c.args.test c.args.m c.requires
