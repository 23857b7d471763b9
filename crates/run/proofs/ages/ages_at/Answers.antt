-- `run::ages::ages_at` meets its contract. Assumes nothing.
use Rattle.std.proofs.Common.{◌≡◌, ℕ, ◌-◌, get_or, slice_set, refl, ap, ◌∙◌, arith}
use lib.ListN.{length-set}
use Rattle.sets.proofs.Tests.{is_true, of_true}
use Rattle.sets.proofs.Members.{step}
use Rattle.sets.proofs.Those.{subset_turn}
use Rattle.run.proofs.ArrayLaws.{filled, filled_turn, filled_done, filled_none}
use Rattle.run.proofs.ages.ages_at.Goals as goal

pub loop-m-init : goal.loop-m-init
loop-m-init c =
    let e : c.into_iter-m-iterator.result.rest ≡ c.args.active = cc in
    rw e (record { fits = c.ranges.active.fits; part = λ i h. h; long = refl; same = filled_none 32 _ c.args.active })

pub offset_bounds-limits-m : goal.offset_bounds-limits-m
offset_bounds-limits-m c = omega (arith, (step c.loop-m.invariant.fits c.in-Some.ensures.steps).lowest.small)

pub bounds-limits-m : goal.bounds-limits-m
bounds-limits-m c = (step c.loop-m.invariant.fits c.in-Some.ensures.steps).lowest.small

pub age_at-requires : goal.age_at-requires
age_at-requires c =
    let u = step c.loop-m.invariant.fits c.in-Some.ensures.steps in
    c.requires _ (is_true _ (c.loop-m.invariant.part _ (of_true u.lowest.member)))

pub offset_bounds-r-m : goal.offset_bounds-r-m
offset_bounds-r-m c = omega (arith, (step c.loop-m.invariant.fits c.in-Some.ensures.steps).lowest.small)

pub bounds-r-m : goal.bounds-r-m
bounds-r-m c = (step c.loop-m.invariant.fits c.in-Some.ensures.steps).lowest.small

pub loop-m-preserved : goal.loop-m-preserved
loop-m-preserved c =
    let u = step c.loop-m.invariant.fits c.in-Some.ensures.steps in
    let l = c.loop-m in
    record {
      fits = u.fits;
      part = subset_turn _ u l.invariant.part;
      long = simp length-set l.invariant.long;
      same = ap (λ (v : ℕ). filled 32 (λ m. 65535 - (get_or c.args.limits.now m 0 - c.args.tick)) (slice_set l.r c.in-Some.m v) c.next.new.self.rest) c.age_at.ensures
          ∙ filled_turn 32 _ l.r u l.invariant.long ∙ l.invariant.same;
    }

pub returns : goal.returns
returns c = filled_done 32 _ c.loop-m.r _ c.in-None.ensures.steps.0 c.loop-m.invariant.long ∙ c.loop-m.invariant.same
