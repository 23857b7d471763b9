-- Of the loop of `run::deadlines::deadlines`: the deadlines so far are the readings in their places.
use Rattle.std.proofs.Common.{◌≡◌, ℕ, ◌<◌, length, get_or}
use Rattle.run.proofs.deadlines.deadlines.Given as goal

abbrev pub invariant-loop-t : goal.invariant-loop-t
invariant-loop-t l = (length l.ends ≡ 64) × ((u : ℕ) → u < l.t → get_or l.ends u 0 ≡ get_or l.reading-items u 0)
