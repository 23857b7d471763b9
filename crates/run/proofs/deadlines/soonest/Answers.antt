-- `run::deadlines::soonest` meets its contract. Assumes nothing.
use Rattle.std.proofs.Common.{arith}
use Rattle.sets.proofs.Members.{step}
use Rattle.run.proofs.SoonestLaws.{soonest_turn, soonest_done}
use Rattle.run.proofs.deadlines.soonest.Goals as goal

pub offset_bounds-ends-t : goal.offset_bounds-ends-t
offset_bounds-ends-t c = omega (arith, (step c.loop-t.invariant.fits c.in-Some.ensures.steps).lowest.small)

pub bounds-ends-t : goal.bounds-ends-t
bounds-ends-t c = (step c.loop-t.invariant.fits c.in-Some.ensures.steps).lowest.small

pub loop-t-preserved-then-e-soon : goal.loop-t-preserved-then-e-soon
loop-t-preserved-then-e-soon c =
    soonest_turn _ _ c.loop-t.invariant (step c.loop-t.invariant.fits c.in-Some.ensures.steps) (omega arith) (omega arith)

pub loop-t-preserved : goal.loop-t-preserved
loop-t-preserved c =
    soonest_turn _ _ c.loop-t.invariant (step c.loop-t.invariant.fits c.in-Some.ensures.steps) (omega arith) (omega arith)

pub returns : goal.returns
returns c = soonest_done c.args.timers c.args.ends.now c.loop-t.invariant c.in-None.ensures.steps.0
