-- `hierarchy::complete::serial_below` and `hierarchy::complete::parallel_below`, which call each other: a child has a higher number
-- than its parent. The loop keeps that r with what is below the children left is what is below m. Assumes nothing.
use Rattle.std.proofs.Common.{◌≡◌, ◌-◌, ◌^◌, ◌<◌}
use Rattle.sets.specs.Sets.{union, members}
use Rattle.sets.proofs.Members.{fold}
use Rattle.sets.proofs.Those.{Subset}
use Rattle.meaning.specs.Hierarchy.{children}
use Rattle.hierarchy.specs.Below.{completed_below}
use Rattle.hierarchy.proofs.complete.+parallel_below_serial_below.Given as goal

abbrev pub decreases-parallel_below : goal.decreases-parallel_below
decreases-parallel_below l = 32 - l.m

abbrev pub decreases-serial_below : goal.decreases-serial_below
decreases-serial_below l = 32 - l.m

abbrev pub invariant-parallel_below-loop-c : goal.invariant-parallel_below-loop-c
invariant-parallel_below-loop-c l =
    (l.c-iterator.rest < 2 ^ 32)
    × Subset l.c-iterator.rest (children l.sheet l.m)
    × (fold (λ y c. union y (completed_below l.sheet l.x c)) l.r (members 32 l.c-iterator.rest) ≡ completed_below l.sheet l.x l.m)
