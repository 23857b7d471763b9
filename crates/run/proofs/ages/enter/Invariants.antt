-- The modes of the set that are left are those whose limits are still to be stored.
use Rattle.std.proofs.Common.{◌≡◌, ◌+◌, ◌^◌, ◌<◌, length}
use Rattle.run.proofs.ArrayLaws.{filled}
use Rattle.run.proofs.ages.enter.Given as goal

abbrev pub invariant-loop-m : goal.invariant-loop-m
invariant-loop-m l = record {
  fits : l.m-iterator.rest < 2 ^ 32;
  long : length l.limits ≡ 32;
  same : filled 32 (λ _. l.tick + 65535) l.limits l.m-iterator.rest ≡ filled 32 (λ _. l.tick + 65535) l.initial.limits l.set;
}
