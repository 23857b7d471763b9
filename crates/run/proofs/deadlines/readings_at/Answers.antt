-- `run::deadlines::readings_at` meets its contract. Assumes nothing.
use Rattle.std.proofs.Common.{◌≡◌, refl, ◌∙◌, arith}
use lib.ListN.{length-set}
use Rattle.sets.proofs.Tests.{is_true, of_true}
use Rattle.sets.proofs.Members.{step}
use Rattle.sets.proofs.Those.{subset_turn}
use Rattle.run.proofs.ArrayLaws.{filled_turn, filled_done, filled_none}
use Rattle.run.proofs.deadlines.readings_at.Goals as goal

pub loop-t-init : goal.loop-t-init
loop-t-init c =
    let e : c.into_iter-t-iterator.result.rest ≡ c.args.timers = cc in
    rw e (record { fits = c.ranges.timers.fits; part = λ i h. h; long = refl; same = filled_none 64 _ c.args.timers })

pub offset_bounds-ends-t : goal.offset_bounds-ends-t
offset_bounds-ends-t c = omega (arith, (step c.loop-t.invariant.fits c.in-Some.ensures.steps).lowest.small)

pub bounds-ends-t : goal.bounds-ends-t
bounds-ends-t c = (step c.loop-t.invariant.fits c.in-Some.ensures.steps).lowest.small

pub overflow_sub-r : goal.overflow_sub-r
overflow_sub-r c =
    let u = step c.loop-t.invariant.fits c.in-Some.ensures.steps in
    c.requires _ (is_true _ (c.loop-t.invariant.part _ (of_true u.lowest.member)))

pub offset_bounds-r-t : goal.offset_bounds-r-t
offset_bounds-r-t c = omega (arith, (step c.loop-t.invariant.fits c.in-Some.ensures.steps).lowest.small)

pub bounds-r-t : goal.bounds-r-t
bounds-r-t c = (step c.loop-t.invariant.fits c.in-Some.ensures.steps).lowest.small

pub loop-t-preserved : goal.loop-t-preserved
loop-t-preserved c =
    let u = step c.loop-t.invariant.fits c.in-Some.ensures.steps in
    let l = c.loop-t in
    record {
      fits = u.fits;
      part = subset_turn _ u l.invariant.part;
      long = simp length-set l.invariant.long;
      same = filled_turn 64 _ l.r u l.invariant.long ∙ l.invariant.same;
    }

pub returns : goal.returns
returns c = filled_done 64 _ c.loop-t.r _ c.in-None.ensures.steps.0 c.loop-t.invariant.long ∙ c.loop-t.invariant.same
