-- `sets::transitions::U64Set::highest` meets its contract: the zeros above the highest set bit, that bit and those below it make the width. Assumes nothing.
use Rattle.std.proofs.Common.{arith}
use Rattle.sets.proofs.Highest.{leading_zeros_highest}
use Rattle.sets.proofs.transitions.U64Set.highest.Goals as goal

pub returns : goal.returns
returns c = omega (arith, leading_zeros_highest 64 c.args.self c.ranges.self.fits c.requires)
