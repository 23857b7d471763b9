-- `run::deadlines::restart` meets its contract. Assumes nothing.
use Rattle.std.proofs.Common.{◌∙◌, arith}
use lib.ListN.{length-set}
use Rattle.sets.proofs.Members.{step}
use Rattle.run.proofs.ArrayLaws.{filled_turn, filled_done}
use Rattle.run.proofs.deadlines.restart.Goals as goal

pub offset_bounds-delays-t : goal.offset_bounds-delays-t
offset_bounds-delays-t c = omega (arith, (step c.loop-t.invariant.fits c.in-Some.ensures.steps).lowest.small)

pub bounds-delays-t : goal.bounds-delays-t
bounds-delays-t c = (step c.loop-t.invariant.fits c.in-Some.ensures.steps).lowest.small

pub overflow_add-ends : goal.overflow_add-ends
overflow_add-ends c = omega (arith, c.requires.2 _ (step c.loop-t.invariant.fits c.in-Some.ensures.steps).lowest.small)

pub offset_bounds-ends-t : goal.offset_bounds-ends-t
offset_bounds-ends-t c = omega (arith, (step c.loop-t.invariant.fits c.in-Some.ensures.steps).lowest.small)

pub bounds-ends-t : goal.bounds-ends-t
bounds-ends-t c = (step c.loop-t.invariant.fits c.in-Some.ensures.steps).lowest.small

pub loop-t-preserved : goal.loop-t-preserved
loop-t-preserved c =
    let u = step c.loop-t.invariant.fits c.in-Some.ensures.steps in
    let l = c.loop-t in
    record { fits = u.fits; long = simp length-set l.invariant.long; same = filled_turn 64 _ l.ends u l.invariant.long ∙ l.invariant.same }

pub returns : goal.returns
returns c = filled_done 64 _ c.loop-t.ends _ c.in-None.ensures.steps.0 c.loop-t.invariant.long ∙ c.loop-t.invariant.same
