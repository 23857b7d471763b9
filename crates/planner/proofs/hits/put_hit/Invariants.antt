-- Of the loop of `planner::hits::put_hit`: the words of the input sets passed have t where they are to, the others are as they were.
use Rattle.std.proofs.Common.{◌≡◌, ℕ, ◌*◌, ◌^◌, ◌≤◌, List, get_or}
use Rattle.sets.specs.Sets.{has, union, digit}
use Rattle.planner.specs.Parts.{Words}
use Rattle.planner.proofs.hits.put_hit.Given as goal

-- word i with t put in
abbrev pub put : List ℕ → ℕ → ℕ → ℕ → ℕ
put hits set t i = union (get_or hits i 0) (digit (has set i) * 2 ^ t)

abbrev pub invariant-loop-i : goal.invariant-loop-i
invariant-loop-i l = Words l.hits l.i (put l.fn.hits l.set l.t) × ((i : ℕ) → l.i ≤ i → get_or l.hits i 0 ≡ get_or l.fn.hits i 0)
