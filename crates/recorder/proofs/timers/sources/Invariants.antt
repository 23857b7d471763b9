-- The sources among the modes passed are found.
use Rattle.std.proofs.Common.{◌≡◌, not, eqb, get_or}
use Rattle.sets.specs.Sets.{set_of}
use Rattle.recorder.proofs.timers.sources.Given as goal

abbrev pub invariant-loop-m : goal.invariant-loop-m
invariant-loop-m l = l.r ≡ set_of l.m (λ m. not (eqb (get_or l.from m 0) 0))
