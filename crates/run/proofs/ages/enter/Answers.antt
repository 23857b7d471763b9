-- `run::ages::enter` meets its contract. Assumes nothing.
use Rattle.std.proofs.Common.{◌∙◌, arith}
use lib.ListN.{length-set}
use Rattle.sets.proofs.Members.{step}
use Rattle.run.proofs.ArrayLaws.{filled_turn, filled_done}
use Rattle.run.proofs.ages.enter.Goals as goal

pub offset_bounds-limits-m : goal.offset_bounds-limits-m
offset_bounds-limits-m c = omega (arith, (step c.loop-m.invariant.fits c.in-Some.ensures.steps).lowest.small)

pub bounds-limits-m : goal.bounds-limits-m
bounds-limits-m c = (step c.loop-m.invariant.fits c.in-Some.ensures.steps).lowest.small

pub loop-m-preserved : goal.loop-m-preserved
loop-m-preserved c =
    let u = step c.loop-m.invariant.fits c.in-Some.ensures.steps in
    let l = c.loop-m in
    record { fits = u.fits; long = simp length-set l.invariant.long; same = filled_turn 32 _ l.limits u l.invariant.long ∙ l.invariant.same }

pub returns : goal.returns
returns c = filled_done 32 _ c.loop-m.limits _ c.in-None.ensures.steps.0 c.loop-m.invariant.long ∙ c.loop-m.invariant.same
