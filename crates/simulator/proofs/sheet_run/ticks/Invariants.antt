-- Of the loop of `simulator::sheet_run::ticks`: what is left from here, by the deadlines and limits now, gives what all gives from the
-- start, and the numbers so far stand.
use Rattle.std.proofs.Common.{◌≡◌, ◌<◌, length}
use Rattle.run.specs.Counts.{total_of}
use Rattle.run.specs.Entries.{limits_by}
use Rattle.simulator.proofs.SheetRunLaws.{state_at, ReachedModes}
use Rattle.simulator.proofs.sheet_run.ticks.Given as goal

abbrev pub invariant-loop-i : goal.invariant-loop-i
invariant-loop-i l =
    ReachedModes l.sheet l.inputs l.fn.out l.fn.numbers (state_at l.sheet l.initial.x l.initial.ends l.initial.limits 0) l.out l.numbers l.ends
    (limits_by l.limits l.out l.seen l.i) l.x l.live l.soon (total_of l.total) l.i
    × (l.total.1 < 4294967296) × (length l.limits ≡ 32)
