-- `run::ages::ages_ok` meets its contract. Assumes nothing.
use Rattle.std.proofs.Common.{◌≡◌, ℕ, length, ap, ◌∙◌, arith, rules}
use borrow.Author.Tests.{le-leb, lt-leb}
use Rattle.sets.proofs.Members.{step}
use Rattle.meaning.specs.Ages.{age, ages_ok}
use Rattle.meaning.specs.Lists.{sum_to}
use Rattle.run.proofs.SumLaws.{adding_start, adding_fails, adding_room, adding_turn, adding_done}
use Rattle.run.proofs.ages.ages_ok.Goals as goal

pub loop-m-init : goal.loop-m-init
loop-m-init c = let e : c.into_iter-m-iterator.result.rest ≡ c.args.active = cc in rw e (adding_start 32 _ _ _ c.ranges.active.fits)

pub offset_bounds-ages-m : goal.offset_bounds-ages-m
offset_bounds-ages-m c = omega (arith, (step c.loop-m.invariant.fits c.in-Some.ensures.steps).lowest.small)

pub bounds-ages-m : goal.bounds-ages-m
bounds-ages-m c = (step c.loop-m.invariant.fits c.in-Some.ensures.steps).lowest.small

pub returns-then-ages-m-gt65535 : goal.returns-then-ages-m-gt65535
unfolding ages_ok age
returns-then-ages-m-gt65535 c =
    adding_fails 32 _ _ _ c.loop-m.invariant (step c.loop-m.invariant.fits c.in-Some.ensures.steps) (lt-leb _ 65535 c.if-ages-m-gt65535.true)

pub offset_bounds-ages-m-in-loop-m : goal.offset_bounds-ages-m-in-loop-m
offset_bounds-ages-m-in-loop-m c = omega (arith, (step c.loop-m.invariant.fits c.in-Some.ensures.steps).lowest.small)

pub bounds-ages-m-in-loop-m : goal.bounds-ages-m-in-loop-m
bounds-ages-m-in-loop-m c = (step c.loop-m.invariant.fits c.in-Some.ensures.steps).lowest.small

pub overflow_add-sum : goal.overflow_add-sum
unfolding age
overflow_add-sum c =
    omega (arith, adding_room 32 _ _ _ c.loop-m.invariant (step c.loop-m.invariant.fits c.in-Some.ensures.steps) (omega arith))

pub loop-m-preserved : goal.loop-m-preserved
unfolding age
loop-m-preserved c =
    rw c.from-sum.ensures
    (adding_turn 32 _ _ _ c.loop-m.invariant (step c.loop-m.invariant.fits c.in-Some.ensures.steps) (omega arith) (le-leb _ 65535 c.if-ages-m-gt65535.false))

pub returns : goal.returns
unfolding ages_ok age
returns c =
    let e : length c.args.ages.now ≡ 32 = search rules in
    adding_done 32 _ _ _ c.loop-m.invariant c.in-None.ensures.steps.0 (c.sum_of.ensures ∙ ap (λ (n : ℕ). sum_to n (age c.args.ages.now)) e)
