-- Of the loop of `acceptance::masks::heads_true`: the blocks before block b have true heads, and the masks of those after block 0 are
-- noted.
use Rattle.acceptance.specs.Heads.{Noted}
use Rattle.acceptance.proofs.masks.heads_true.Given as goal

abbrev pub invariant-loop-b : goal.invariant-loop-b
invariant-loop-b l = Noted l.sheet l.table l.plan l.masks l.hints l.b
