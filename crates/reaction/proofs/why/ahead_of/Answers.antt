-- `reaction::why::ahead_of` meets its contract. Assumes nothing.
use Rattle.std.proofs.Common.{◌≡◌, ℕ, refl, sym, ap, ◌∙◌, arith}
use Rattle.sets.specs.Sets.{has}
use Rattle.sets.proofs.Tests.{of_true}
use Rattle.sets.proofs.Facts.{has-lt}
use Rattle.sets.proofs.Members.{step}
use Rattle.sets.proofs.Those.{subset_turn, those_start, those_added, those_passed, those_done}
use Rattle.sets.proofs.Widths.{those_width}
use Rattle.meaning.specs.Sheet.{t_of}
use Rattle.meaning.specs.GivesWay.{gives_way}
use Rattle.meaning.proofs.SheetLaws.{sound, t_le}
use Rattle.reaction.proofs.ReasonLaws.{yielder}
use Rattle.reaction.proofs.why.ahead_of.Goals as goal

pub loop-u-init : goal.loop-u-init
loop-u-init c =
    let a = c.args in
    let e : c.into_iter-u-iterator.result.rest ≡ a.ts = cc in
    rw e (c.ranges.ts.fits, λ i h. h, sym (those_start 64 a.ts (gives_way a.sheet.now a.t)))

pub offset_bounds-plan-u : goal.offset_bounds-plan-u
offset_bounds-plan-u c = omega (arith, (step c.loop-u.invariant.0 c.in-Some.ensures.steps).lowest.small)

pub bounds-plan-u : goal.bounds-plan-u
bounds-plan-u c = omega (arith, (step c.loop-u.invariant.0 c.in-Some.ensures.steps).lowest.small)

pub has-requires : goal.has-requires
has-requires c = omega (arith, t_le _ (sound _ c.requires.0.passes))

pub single-r-requires : goal.single-r-requires
single-r-requires c = (step c.loop-u.invariant.0 c.in-Some.ensures.steps).lowest.small

pub loop-u-preserved-then-has : goal.loop-u-preserved-then-has
loop-u-preserved-then-has c =
    let a = c.args in
    let s = a.sheet.now in
    let l = c.loop-u in
    let v = c.in-Some.u in
    let u = step l.invariant.0 c.in-Some.ensures.steps in
    let lt = has-lt (t_of s) a.ts v c.requires.1 (l.invariant.1 v (of_true u.lowest.member)) in
    let e = c.has.ensures ∙ ap (λ (x : ℕ). has x a.t) (c.requires.0.yielders_at v lt) ∙ yielder s a.t v c.requires.2 in
    (u.fits, subset_turn a.ts u l.invariant.1, those_added a.ts (gives_way s a.t) u l.invariant.1 l.invariant.2 c.single-r.ensures refl (sym e ∙ c.if-has.true) refl)

pub loop-u-preserved : goal.loop-u-preserved
loop-u-preserved c =
    let a = c.args in
    let s = a.sheet.now in
    let l = c.loop-u in
    let v = c.in-Some.u in
    let u = step l.invariant.0 c.in-Some.ensures.steps in
    let lt = has-lt (t_of s) a.ts v c.requires.1 (l.invariant.1 v (of_true u.lowest.member)) in
    let e = c.has.ensures ∙ ap (λ (x : ℕ). has x a.t) (c.requires.0.yielders_at v lt) ∙ yielder s a.t v c.requires.2 in
    (u.fits, subset_turn a.ts u l.invariant.1, those_passed a.ts (gives_way s a.t) u l.invariant.2 refl (sym e ∙ c.if-has.false) refl)

pub returns : goal.returns
returns c =
    let a = c.args in
    let s = a.sheet.now in
    c.loop-u.invariant.2 ∙ those_done 64 a.ts _ (gives_way s a.t) c.in-None.ensures.steps.0
    ∙ those_width 64 (t_of s) (gives_way s a.t) c.ranges.ts.fits c.requires.1
