-- The active modes that are left are those whose ages are still to be stored.
use Rattle.std.proofs.Common.{◌≡◌, ◌-◌, ◌^◌, ◌<◌, length, get_or}
use Rattle.sets.proofs.Those.{Subset}
use Rattle.run.specs.Entries.{ages_by}
use Rattle.run.proofs.ArrayLaws.{filled}
use Rattle.run.proofs.ages.ages_at.Given as goal

abbrev pub invariant-loop-m : goal.invariant-loop-m
invariant-loop-m l = record {
  fits : l.m-iterator.rest < 2 ^ 32;
  part : Subset l.m-iterator.rest l.active;
  long : length l.r ≡ 32;
  same : filled 32 (λ m. 65535 - (get_or l.limits m 0 - l.tick)) l.r l.m-iterator.rest ≡ ages_by l.limits l.active l.tick;
}
