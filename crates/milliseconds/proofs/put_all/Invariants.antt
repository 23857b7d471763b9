-- `milliseconds::put_all`: with the words of the delays that are left, the results are what all leave. Assumes nothing.
use Rattle.std.proofs.Common.{◌≡◌, ◌*◌, length, drop}
use Rattle.rows.specs.Over.{over}
use Rattle.meaning.specs.Milliseconds.{ticks_and_rests}
use Rattle.milliseconds.proofs.put_all.Given as goal

abbrev pub invariant-loop-i : goal.invariant-loop-i
invariant-loop-i l =
    (length l.results ≡ length l.fn.results)
    × (over l.results (2 * l.i) (ticks_and_rests l.tick (drop l.i l.delays)) ≡ over l.fn.results 0 (ticks_and_rests l.tick l.delays))
