-- `sets::transitions::U64Set::single_if` meets its contract: by the value of the test. Assumes nothing.
use Rattle.sets.proofs.Membership.{placed}
use Rattle.sets.proofs.transitions.U64Set.single_if.Goals as goal

pub returns : goal.returns
returns c = placed 64 c.args.test c.args.m c.requires
