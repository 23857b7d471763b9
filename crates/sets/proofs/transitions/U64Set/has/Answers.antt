-- `sets::transitions::U64Set::has` meets its contract: the bit at m, moved to place 0, is the test of membership. Assumes nothing.
use Rattle.sets.proofs.Membership.{shift_test}
use Rattle.sets.proofs.transitions.U64Set.has.Goals as goal

pub returns : goal.returns
returns c = shift_test c.args.self c.args.m
