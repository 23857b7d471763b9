-- `run::deadlines::deadlines` meets its contract: each deadline is the reading in its place. Assumes nothing.
use Rattle.std.proofs.Common.{arith}
use Rattle.std.proofs.lemmas.Grind.{same_number_lists}
use Rattle.run.proofs.deadlines.deadlines.Goals as goal

pub returns : goal.returns
returns c = same_number_lists _ _ (omega arith) (λ j k. c.loop-t.invariant.1 j (omega arith))
