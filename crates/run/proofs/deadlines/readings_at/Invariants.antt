-- The running timers that are left are those whose readings are still to be stored.
use Rattle.std.proofs.Common.{◌≡◌, cond, ◌-◌, ◌%◌, ◌^◌, ◌<◌, length, get_or}
use Rattle.sets.specs.Sets.{has}
use Rattle.sets.proofs.Those.{Subset}
use Rattle.meaning.specs.Lists.{row_from}
use Rattle.run.proofs.ArrayLaws.{filled}
use Rattle.run.proofs.deadlines.readings_at.Given as goal

abbrev pub invariant-loop-t : goal.invariant-loop-t
invariant-loop-t l = record {
  fits : l.t-iterator.rest < 2 ^ 64;
  part : Subset l.t-iterator.rest l.timers;
  long : length l.r ≡ 64;
  same : filled 64 (λ t. (get_or l.ends t 0 - l.tick) % 2 ^ 32) l.r l.t-iterator.rest
      ≡ row_from 0 64 (λ t. cond (has l.timers t) ((get_or l.ends t 0 - l.tick) % 2 ^ 32) 0);
}
