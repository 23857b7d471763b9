-- `recorder::timers::delays` meets its contract. Assumes nothing.
use Rattle.std.proofs.Common.{◌≡◌, arith}
use Rattle.sets.proofs.Tests.{of_true}
use Rattle.meaning.specs.Table.{t_in}
use Rattle.table.proofs.LayoutFacts.{shape_of, t_le}
use Rattle.recorder.specs.Timers.{timer_delay_in}
use Rattle.recorder.proofs.BlockPlaceLaws.{head_ok}
use Rattle.recorder.proofs.TimerLaws.{delays_start, delays_turn}
use Rattle.recorder.proofs.timers.delays.Goals as goal

pub transition_count-t-end-requires : goal.transition_count-t-end-requires
transition_count-t-end-requires c = head_ok _ c.requires

pub loop-t-init : goal.loop-t-init
loop-t-init c = delays_start c.args.table.now

pub timer_delay-requires : goal.timer_delay-requires
timer_delay-requires c = (head_ok _ c.requires, omega arith)

pub offset_bounds-r-t : goal.offset_bounds-r-t
offset_bounds-r-t c = omega (arith, t_le _ (shape_of _ (of_true c.requires)))

pub bounds-r-t : goal.bounds-r-t
bounds-r-t c = omega (arith, t_le _ (shape_of _ (of_true c.requires)))

pub loop-t-preserved : goal.loop-t-preserved
loop-t-preserved c = delays_turn _ c.loop-t.t c.loop-t.invariant c.timer_delay.ensures

pub returns : goal.returns
unfolding timer_delay_in
returns c = let e : c.loop-t.t ≡ t_in c.args.table.now = omega arith in rw e at c.loop-t.invariant
