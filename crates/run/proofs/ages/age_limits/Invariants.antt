-- Of the loop of `run::ages::age_limits`: the limits so far are those of the ages in their places.
use Rattle.std.proofs.Common.{◌≡◌, ℕ, ◌-◌, ◌<◌, length, get_or}
use Rattle.run.proofs.ages.age_limits.Given as goal

abbrev pub invariant-loop-m : goal.invariant-loop-m
invariant-loop-m l = (length l.limits ≡ 32) × ((u : ℕ) → u < l.m → get_or l.limits u 0 ≡ 65535 - get_or l.age-items u 0)
