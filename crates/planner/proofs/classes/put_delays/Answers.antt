-- `planner::classes::put_delays` meets its contract. Assumes nothing.
use Rattle.std.proofs.Common.{◌≡◌, ◌∙◌, arith}
use Rattle.sets.proofs.Tests.{is_true, of_true}
use Rattle.sets.proofs.Members.{step}
use Rattle.sets.proofs.Those.{subset_turn}
use Rattle.planner.proofs.ClassLaws.{timer_lt, delays_start, delays_turn, delays_done}
use Rattle.planner.proofs.classes.put_delays.Goals as goal

pub loop-t-init : goal.loop-t-init
loop-t-init c =
    let e : c.into_iter-t-iterator.result.rest ≡ c.args.timing = cc in
    rw e (c.ranges.timing.fits, λ i h. h, delays_start c.args.sheet.now c.requires.1 c.requires.2)

pub delay-requires : goal.delay-requires
delay-requires c =
    let u = step c.loop-t.invariant.0 c.in-Some.ensures.steps in
    (c.requires.0, timer_lt c.args.sheet.now c.in-Some.t c.requires.1 (is_true _ (c.loop-t.invariant.1 c.in-Some.t (of_true u.lowest.member))))

pub offset_bounds-delays-t : goal.offset_bounds-delays-t
offset_bounds-delays-t c = omega (arith, (step c.loop-t.invariant.0 c.in-Some.ensures.steps).lowest.small)

pub bounds-delays-t : goal.bounds-delays-t
bounds-delays-t c = omega (arith, (step c.loop-t.invariant.0 c.in-Some.ensures.steps).lowest.small)

pub loop-t-preserved : goal.loop-t-preserved
loop-t-preserved c =
    let l = c.loop-t in
    let u = step l.invariant.0 c.in-Some.ensures.steps in (
      u.fits,
      subset_turn _ u l.invariant.1,
      delays_turn c.args.sheet.now l.delays (omega (arith, u.lowest.small)) c.requires.1 u (is_true _ (l.invariant.1 c.in-Some.t (of_true u.lowest.member)))
          l.invariant.2 (c.from.ensures ∙ c.delay.ensures),
    )

pub returns : goal.returns
returns c = delays_done c.args.sheet.now c.loop-t.delays c.in-None.ensures.steps.0 c.loop-t.invariant.2
