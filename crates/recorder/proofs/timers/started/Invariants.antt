-- The timers of the modes that are left, with those found, are all.
use Rattle.std.proofs.Common.{◌≡◌, ◌^◌, ◌<◌}
use Rattle.sets.specs.Sets.{members}
use Rattle.sets.proofs.Members.{fold}
use Rattle.recorder.proofs.TimerLaws.{with_source}
use Rattle.recorder.proofs.timers.started.Given as goal

abbrev pub invariant-loop-m : goal.invariant-loop-m
invariant-loop-m l = record {
  fits : l.m-iterator.rest < 2 ^ 32;
  found : l.r < 2 ^ 64;
  same : fold (with_source l.from) l.r (members 32 l.m-iterator.rest) ≡ fold (with_source l.from) 0 (members 32 l.set);
}
