-- The timers of the set that are left are those whose deadlines are still to be stored.
use Rattle.std.proofs.Common.{◌≡◌, ◌+◌, ◌^◌, ◌<◌, length, get_or}
use Rattle.run.proofs.ArrayLaws.{filled}
use Rattle.run.proofs.deadlines.restart.Given as goal

abbrev pub invariant-loop-t : goal.invariant-loop-t
invariant-loop-t l = record {
  fits : l.t-iterator.rest < 2 ^ 64;
  long : length l.ends ≡ 64;
  same : filled 64 (λ t. l.tick + get_or l.delays t 0) l.ends l.t-iterator.rest
      ≡ filled 64 (λ t. l.tick + get_or l.delays t 0) l.initial.ends l.set;
}
