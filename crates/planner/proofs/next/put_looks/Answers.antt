-- `planner::next::put_looks` meets its contract. Assumes nothing.
use Rattle.std.proofs.Common.{◌<◌, sym, ◌∙◌, arith}
use Rattle.sets.proofs.Tests.{of_true}
use Rattle.meaning.specs.Sheet.{t_of}
use Rattle.meaning.proofs.SheetLaws.{sound, t_le}
use Rattle.sheet.proofs.Past.{head_read, record_read}
use Rattle.planner.proofs.SourceLaws.{source_small}
use Rattle.planner.proofs.LookLaws.{delay_looks, entry_small, exit_small, taken_small}
use Rattle.planner.proofs.NextLaws.{looked_start, looked_turn, looked_skip, looked_same, looked_done}
use Rattle.planner.proofs.next.put_looks.Goals as goal
use Rattle.planner.proofs.next.put_looks.Goals.{then-not-is_delay, else-not-is_delay}

pub transition_count-t-end-requires : goal.transition_count-t-end-requires
transition_count-t-end-requires c = head_read _ c.requires.0

pub loop-t-init : goal.loop-t-init
loop-t-init c =
    let a = c.args in
    (t_le _ (sound _ c.requires.0), source_small _ c.requires.0, looked_start a.sheet.now a.entry.now a.exit.now a.next.now c.requires.1)

pub source-m-requires : goal.source-m-requires
source-m-requires c = record_read _ c.requires.0 c.loop-t.t (omega arith)

pub add_to-requires : goal.add_to-requires
add_to-requires c = (
  omega arith,
  λ k q. omega (arith, entry_small _ c.requires.0 c.loop-t.t (omega arith) c.looks_of-l.ensures k (of_true (rw c.from.ensures at q))),
)

pub add_to-requires-then-not-is_delay : goal.add_to-requires-then-not-is_delay
add_to-requires-then-not-is_delay c = (
  omega arith,
  λ k q. omega (arith, exit_small _ c.requires.0 c.loop-t.t (omega arith) c.looks_of-l.ensures k (of_true (rw c.from-then-not-is_delay.ensures at q))),
)

pub add_to-requires-then-not-is_delay-2 : goal.add_to-requires-then-not-is_delay-2
add_to-requires-then-not-is_delay-2 c = (
  omega arith,
  λ k q. omega (arith, taken_small _ c.requires.0 c.loop-t.t (omega arith) c.looks_of-l.ensures k (of_true q)),
)

pub loop-t-preserved : goal.loop-t-preserved
loop-t-preserved c =
    let a = c.args in
    let l = c.loop-t in
    let s = a.sheet.now in
    let past = c.requires.0 in
    let on : l.t < t_of s = omega arith in (
      l.invariant.0,
      l.invariant.1,
      elim c.if-not-is_delay.branch [
        | then-not-is_delay w ↦
            looked_same s a.entry.now a.exit.now a.next.now w.named-is w.entry-is w.exit-is w.next-is w.all-is
            (looked_turn s past l.t on l.invariant.2 w.looks_of-l.ensures w.source-m.ensures (omega arith) _ _ _
            (rw w.from.ensures at w.add_to.ensures) (rw w.from-then-not-is_delay.ensures at w.add_to-then-not-is_delay.ensures) w.add_to-then-not-is_delay-2.ensures)
        | else-not-is_delay w ↦
            looked_same s a.entry.now a.exit.now a.next.now w.named-is w.entry-is w.exit-is w.next-is w.all-is
            (looked_skip s past l.t on l.invariant.2 (delay_looks s past l.t on (sym c.is_delay.ensures ∙ w.if-not-is_delay.false)))
      ],
    )

pub returns : goal.returns
returns c = looked_done c.args.sheet.now c.loop-t.invariant.2 (omega arith)
