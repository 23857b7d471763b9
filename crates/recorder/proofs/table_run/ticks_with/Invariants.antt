-- What is left from here, by the deadlines now and the limits of ages that the words of the ticks done give, gives what all gives from
-- the start (`ReachedBlock`).
use Rattle.std.proofs.Common.{◌≡◌, ◌≤◌, ℕ, true, length, get_or}
use Rattle.sets.specs.Sets.{has}
use Rattle.run.specs.Entries.{limits_by}
use Rattle.recorder.specs.Runs.{TableBlockOf}
use Rattle.recorder.proofs.TableRunLaws.{state_at, Known, ReachedBlock}
use Rattle.recorder.proofs.table_run.ticks_with.Given as goal

abbrev pub invariant-loop-i : goal.invariant-loop-i
invariant-loop-i l = record {
  known : Known l.table l.k l.delays l.from l.timed;
  reached : ReachedBlock l.table l.inputs l.initial.out (state_at l.table l.initial.b.number l.initial.ends l.initial.limits 0)
      l.out l.ends (limits_by l.limits l.out l.seen l.i) l.b.number l.i;
  block : TableBlockOf l.table l.b;
  long : length l.limits ≡ 32;
  soon : (t : ℕ) → has l.b.timers t ≡ true → l.soon ≤ get_or l.ends t 0;
}
