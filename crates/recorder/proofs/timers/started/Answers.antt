-- `recorder::timers::started` meets its contract. Assumes nothing.
use Rattle.std.proofs.Common.{◌≡◌, refl, ◌∙◌, arith}
use Rattle.sets.proofs.Membership.{union-lt}
use Rattle.sets.proofs.Members.{step, fold_turn}
use Rattle.recorder.proofs.TimerLaws.{started_done}
use Rattle.recorder.proofs.timers.started.Goals as goal

pub loop-m-init : goal.loop-m-init
loop-m-init c =
    let e : c.into_iter-m-iterator.result.rest ≡ c.args.set = cc in
    rw e (record { fits = c.ranges.set.fits; found = omega arith; same = refl })

pub offset_bounds-from-m : goal.offset_bounds-from-m
offset_bounds-from-m c = omega (arith, (step c.loop-m.invariant.fits c.in-Some.ensures.steps).lowest.small)

pub bounds-from-m : goal.bounds-from-m
bounds-from-m c = (step c.loop-m.invariant.fits c.in-Some.ensures.steps).lowest.small

pub loop-m-preserved : goal.loop-m-preserved
loop-m-preserved c =
    let u = step c.loop-m.invariant.fits c.in-Some.ensures.steps in
    let l = c.loop-m in
    record {
      fits = u.fits;
      found = union-lt 64 l.invariant.found (c.requires _ u.lowest.small);
      same = fold_turn _ l.r u ∙ l.invariant.same;
    }

pub returns : goal.returns
returns c = started_done c.args.from.now c.args.set c.in-None.ensures.steps.0 c.loop-m.invariant.found c.loop-m.invariant.same
