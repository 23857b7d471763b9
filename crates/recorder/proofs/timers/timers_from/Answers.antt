-- `recorder::timers::timers_from` meets its contract. Assumes nothing.
use Rattle.std.proofs.Common.{◌≡◌, ◌<◌, ℕ, List, true, sym, ◌∙◌, arith}
use Rattle.sets.proofs.Tests.{of_true}
use Rattle.meaning.specs.Table.{t_in, delay_in, source_in, table_ok}
use Rattle.table.proofs.LayoutFacts.{shape_of, t_le, source-lt}
use Rattle.recorder.specs.Timers.{timers_from}
use Rattle.recorder.proofs.BlockPlaceLaws.{head_ok}
use Rattle.recorder.proofs.TimerLaws.{timers_start, timers_skip, timers_add}
use Rattle.recorder.proofs.timers.timers_from.Goals as goal
use Rattle.recorder.proofs.timers.timers_from.Goals.{then-timer_delay-ne0, else-timer_delay-ne0}

-- the source of a timer is a mode
source_small : (w : List ℕ) (t : ℕ) {m delay : ℕ} → table_ok w ≡ true → t < t_in w → m ≡ source_in w t → delay ≡ delay_in w t → 0 < delay → m < 32
source_small w t h l s d p = omega (arith, source-lt w (shape_of w (of_true h)) t l (omega (arith, d)))

pub transition_count-t-end-requires : goal.transition_count-t-end-requires
transition_count-t-end-requires c = head_ok _ c.requires

pub loop-t-init : goal.loop-t-init
loop-t-init c = timers_start c.args.table.now

pub timer_delay-requires : goal.timer_delay-requires
timer_delay-requires c = (head_ok _ c.requires, omega arith)

pub single-requires : goal.single-requires
single-requires c = omega (arith, t_le _ (shape_of _ (of_true c.requires)))

pub timer_source-requires : goal.timer_source-requires
timer_source-requires c = (head_ok _ c.requires, omega arith)

pub offset_bounds-r-timer_source : goal.offset_bounds-r-timer_source
offset_bounds-r-timer_source c =
    omega (arith, source_small _ c.loop-t.t c.requires (omega arith) c.timer_source.ensures c.timer_delay.ensures (omega arith))

pub bounds-r-timer_source : goal.bounds-r-timer_source
bounds-r-timer_source c = source_small _ c.loop-t.t c.requires (omega arith) c.timer_source.ensures c.timer_delay.ensures (omega arith)

pub bounds-r-timer_source-then-timer_delay-ne0 : goal.bounds-r-timer_source-then-timer_delay-ne0
bounds-r-timer_source-then-timer_delay-ne0 c =
    source_small _ c.loop-t.t c.requires (omega arith) c.timer_source.ensures c.timer_delay.ensures (omega arith)

pub loop-t-preserved : goal.loop-t-preserved
loop-t-preserved c =
    let l = c.loop-t in
    elim c.if-timer_delay-ne0.branch [
      | then-timer_delay-ne0 w ↦
          w.r-is
          ∙ timers_add _ l.t l.invariant (omega (arith, c.timer_delay.ensures, w.if-timer_delay-ne0.true)) w.timer_source.ensures
          (source_small _ l.t c.requires (omega arith) w.timer_source.ensures c.timer_delay.ensures (omega (arith, w.if-timer_delay-ne0.true))) w.single.ensures
      | else-timer_delay-ne0 w ↦ w.r-is ∙ l.invariant ∙ timers_skip _ l.t (sym c.timer_delay.ensures ∙ w.if-timer_delay-ne0.false)
    ]

pub returns : goal.returns
unfolding timers_from
returns c = let e : c.loop-t.t ≡ t_in c.args.table.now = omega arith in rw e at c.loop-t.invariant
