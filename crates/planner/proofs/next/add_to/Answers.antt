-- `planner::next::add_to` meets its contract. Assumes nothing.
use Rattle.std.proofs.Common.{◌≡◌, refl, arith}
use Rattle.sets.proofs.Members.{step}
use Rattle.sets.proofs.Those.{subset_turn}
use Rattle.planner.proofs.NextLaws.{added_room, added_turn, added_done}
use Rattle.planner.proofs.next.add_to.Goals as goal

pub loop-k-init : goal.loop-k-init
loop-k-init c =
    let e : c.into_iter-k-iterator.result.rest ≡ c.args.set = cc in
    rw e (c.ranges.set.fits, λ i h. h, λ k i. refl)

pub offset_bounds-words-k : goal.offset_bounds-words-k
offset_bounds-words-k c = omega (arith, (step c.loop-k.invariant.0 c.in-Some.ensures.steps).lowest.small)

pub bounds-words-k : goal.bounds-words-k
bounds-words-k c =
    let a = c.args in
    let u = step c.loop-k.invariant.0 c.in-Some.ensures.steps in
    omega (arith, added_room a.words.now a.set a.t _ c.requires.1 c.loop-k.invariant.1 u)

pub bounds-words-k-in-loop-k : goal.bounds-words-k-in-loop-k
bounds-words-k-in-loop-k c =
    let a = c.args in
    let u = step c.loop-k.invariant.0 c.in-Some.ensures.steps in
    omega (arith, added_room a.words.now a.set a.t _ c.requires.1 c.loop-k.invariant.1 u)

pub loop-k-preserved : goal.loop-k-preserved
loop-k-preserved c =
    let a = c.args in
    let l = c.loop-k in
    let u = step l.invariant.0 c.in-Some.ensures.steps in (
      u.fits,
      subset_turn _ u l.invariant.1,
      added_turn a.words.now a.set a.t l.words (omega (arith, added_room a.words.now a.set a.t _ c.requires.1 l.invariant.1 u)) l.invariant.2 u c.single.ensures,
    )

pub returns : goal.returns
returns c =
    let a = c.args in
    added_done a.words.now a.set a.t c.loop-k.words _ c.loop-k.invariant.2 c.in-None.ensures.steps.0
