-- `run::state::readings_ok` meets its contract. Assumes nothing.
use Rattle.std.proofs.Common.{◌≡◌, ℕ, length, ap, sym, ◌∙◌, arith, rules}
use Rattle.sets.proofs.Members.{step}
use Rattle.meaning.specs.Run.{reading, readings_ok}
use Rattle.meaning.specs.Lists.{sum_to}
use Rattle.run.proofs.SumLaws.{adding_start, adding_fails, adding_room, adding_turn, adding_done}
use Rattle.run.proofs.state.readings_ok.Goals as goal

pub loop-t-init : goal.loop-t-init
loop-t-init c = let e : c.into_iter-t-iterator.result.rest ≡ c.args.timers = cc in rw e (adding_start 64 _ _ _ c.ranges.timers.fits)

pub offset_bounds-delays-t : goal.offset_bounds-delays-t
offset_bounds-delays-t c = omega (arith, (step c.loop-t.invariant.fits c.in-Some.ensures.steps).lowest.small)

pub bounds-delays-t : goal.bounds-delays-t
bounds-delays-t c = (step c.loop-t.invariant.fits c.in-Some.ensures.steps).lowest.small

pub offset_bounds-readings-t : goal.offset_bounds-readings-t
offset_bounds-readings-t c = omega (arith, (step c.loop-t.invariant.fits c.in-Some.ensures.steps).lowest.small)

pub bounds-readings-t : goal.bounds-readings-t
bounds-readings-t c = (step c.loop-t.invariant.fits c.in-Some.ensures.steps).lowest.small

pub returns-then-not-running_ok : goal.returns-then-not-running_ok
unfolding readings_ok reading
returns-then-not-running_ok c =
    adding_fails 64 _ _ _ c.loop-t.invariant (step c.loop-t.invariant.fits c.in-Some.ensures.steps) (sym c.running_ok.ensures.0 ∙ c.if-not-running_ok.true)

pub overflow_add-sum : goal.overflow_add-sum
unfolding reading
overflow_add-sum c =
    omega (arith, adding_room 64 _ _ _ c.loop-t.invariant (step c.loop-t.invariant.fits c.in-Some.ensures.steps) c.running_ok.ensures.1)

pub loop-t-preserved : goal.loop-t-preserved
unfolding reading
loop-t-preserved c =
    rw c.from-sum.ensures
    (adding_turn 64 _ _ _ c.loop-t.invariant (step c.loop-t.invariant.fits c.in-Some.ensures.steps) c.running_ok.ensures.1
    (sym c.running_ok.ensures.0 ∙ c.if-not-running_ok.false))

pub returns : goal.returns
unfolding readings_ok reading
returns c =
    let e : length c.args.readings.now ≡ 64 = search rules in
    adding_done 64 _ _ _ c.loop-t.invariant c.in-None.ensures.steps.0 (c.sum_of.ensures ∙ ap (λ (n : ℕ). sum_to n (reading c.args.readings.now)) e)
