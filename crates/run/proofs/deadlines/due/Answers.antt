-- `run::deadlines::due` meets its contract. Assumes nothing.
use Rattle.std.proofs.Common.{◌≡◌, ◌+◌, ◌*◌, ◌^◌, ◌<◌, ℕ, ap, sym, subst, ◌∙◌, arith}
use Rattle.sets.specs.Sets.{members}
use Rattle.sets.proofs.Members.{step}
use Rattle.meaning.specs.TableRun.{due_number}
use Rattle.run.proofs.DueNumberLaws.{counted_start, place_small, number_small, counted_turn, counted_done}
use Rattle.run.proofs.deadlines.due.Goals as goal

pub loop-t-init : goal.loop-t-init
loop-t-init c =
    let e : c.into_iter-t-iterator.result.rest ≡ c.args.timers = cc in
    rw e (counted_start c.args.timers c.args.low _ c.ranges.timers.fits c.requires)

pub offset_bounds-ends-t : goal.offset_bounds-ends-t
offset_bounds-ends-t c = omega (arith, (step c.loop-t.invariant.fits c.in-Some.ensures.steps).lowest.small)

pub bounds-ends-t : goal.bounds-ends-t
bounds-ends-t c = (step c.loop-t.invariant.fits c.in-Some.ensures.steps).lowest.small

pub single_if-set-requires : goal.single_if-set-requires
single_if-set-requires c = (step c.loop-t.invariant.fits c.in-Some.ensures.steps).lowest.small

pub single_if-number-requires : goal.single_if-number-requires
single_if-number-requires c = place_small _ _ _ c.loop-t.invariant (step c.loop-t.invariant.fits c.in-Some.ensures.steps)

pub overflow_add-number : goal.overflow_add-number
overflow_add-number c =
    let small = number_small _ _ _ c.loop-t.invariant (step c.loop-t.invariant.fits c.in-Some.ensures.steps) in
    record { fits = subst (λ (x : ℕ). c.loop-t.number + x < 2 ^ 64) (sym c.single_if-number.ensures) small }

pub loop-t-preserved : goal.loop-t-preserved
loop-t-preserved c =
    rw (c.single_if-set.ensures, c.single_if-number.ensures)
    (counted_turn _ _ _ c.loop-t.invariant (step c.loop-t.invariant.fits c.in-Some.ensures.steps))

pub returns : goal.returns
returns c =
    let a = c.args in
    let done = counted_done a.timers a.low _ c.loop-t.invariant c.in-None.ensures.steps.0 in
    (done.0, done.1 ∙ ap (λ (x : ℕ). 2 ^ a.low * due_number (members 64 a.timers) x) (sym done.0))
