-- What is left to look for, in the ticks before, gives what all gives from the start.
use Rattle.std.proofs.Common.{◌≡◌, length}
use Rattle.run.specs.Entries.{limits_by}
use Rattle.run.proofs.ages.enter_by_words.Given as goal

abbrev pub invariant-loop-p : goal.invariant-loop-p
invariant-loop-p l = record {
  long : length l.limits ≡ 32;
  same : limits_by l.limits l.out l.wanted l.p ≡ limits_by l.initial.limits l.out l.set l.done;
}
