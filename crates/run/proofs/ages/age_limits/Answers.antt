-- `run::ages::age_limits` meets its contract: each limit is that of the age in its place. Assumes nothing.
use Rattle.std.proofs.Common.{arith}
use Rattle.run.proofs.ArrayLaws.{row_of}
use Rattle.run.proofs.ages.age_limits.Goals as goal

pub returns : goal.returns
returns c = row_of c.loop-m.limits 32 _ c.loop-m.invariant.0 (λ j k. c.loop-m.invariant.1 j (omega arith))
