-- `reaction::terms::judged` meets its contract. Assumes nothing.
use Rattle.std.proofs.Common.{◌≡◌, refl, sym, ◌∙◌}
use Rattle.sets.specs.Sets.{has}
use Rattle.sets.proofs.Tests.{is_true, of_true}
use Rattle.sets.proofs.Members.{step}
use Rattle.sets.proofs.Those.{subset_turn, those_start, those_added, those_passed, those_done}
use Rattle.reaction.proofs.terms.judged.Invariants.{judge}
use Rattle.reaction.proofs.terms.judged.Goals as goal

pub loop-t-init : goal.loop-t-init
loop-t-init c =
    let a = c.args in
    let e : c.into_iter-t-iterator.result.rest ≡ a.set = cc in
    rw e (c.ranges.set.fits, λ i h. h, sym (those_start 64 a.set (judge a.sheet.now a.modes a.f.now)))

pub is_judged-requires : goal.is_judged-requires
is_judged-requires c =
    let l = c.loop-t in
    let t = c.in-Some.t in
    let u = step l.invariant.0 c.in-Some.ensures.steps in
    let k = c.requires.1 t (is_true (has c.args.set t) (l.invariant.1 t (of_true u.lowest.member))) in
    (c.requires.0, k.0, k.1)

pub single-r-requires : goal.single-r-requires
single-r-requires c = (step c.loop-t.invariant.0 c.in-Some.ensures.steps).lowest.small

pub loop-t-preserved-then-is_judged : goal.loop-t-preserved-then-is_judged
loop-t-preserved-then-is_judged c =
    let a = c.args in
    let l = c.loop-t in
    let u = step l.invariant.0 c.in-Some.ensures.steps in (
      u.fits,
      subset_turn a.set u l.invariant.1,
      those_added a.set (judge a.sheet.now a.modes a.f.now) u l.invariant.1 l.invariant.2 c.single-r.ensures refl (sym c.is_judged.ensures ∙ c.if-is_judged.true)
          refl,
    )

pub loop-t-preserved : goal.loop-t-preserved
loop-t-preserved c =
    let a = c.args in
    let l = c.loop-t in
    let u = step l.invariant.0 c.in-Some.ensures.steps in (
      u.fits,
      subset_turn a.set u l.invariant.1,
      those_passed a.set (judge a.sheet.now a.modes a.f.now) u l.invariant.2 refl (sym c.is_judged.ensures ∙ c.if-is_judged.false) refl,
    )

pub returns : goal.returns
returns c =
    let a = c.args in
    c.loop-t.invariant.2 ∙ those_done 64 a.set _ (judge a.sheet.now a.modes a.f.now) c.in-None.ensures.steps.0
