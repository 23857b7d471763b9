-- `reaction::tick::yielding` meets its contract. Assumes nothing.
use Rattle.std.proofs.Common.{get_or, sym, ◌∙◌, arith}
use Rattle.sets.proofs.Members.{step, fold_turn, fold_done}
use Rattle.sets.proofs.Widths.{union_over}
use Rattle.meaning.specs.Sheet.{t_of}
use Rattle.reaction.specs.Plan.{yielders_of}
use Rattle.reaction.proofs.RoundLaws.{yielders_small}
use Rattle.reaction.proofs.tick.yielding.Goals as goal

pub offset_bounds-plan-t : goal.offset_bounds-plan-t
offset_bounds-plan-t c = omega (arith, (step c.loop-t.invariant.0 c.in-Some.ensures.steps).lowest.small)

pub bounds-plan-t : goal.bounds-plan-t
bounds-plan-t c = omega (arith, (step c.loop-t.invariant.0 c.in-Some.ensures.steps).lowest.small)

pub loop-t-preserved : goal.loop-t-preserved
loop-t-preserved c =
    let u = step c.loop-t.invariant.0 c.in-Some.ensures.steps in
    (u.fits, fold_turn _ _ u ∙ c.loop-t.invariant.1)

pub returns : goal.returns
returns c =
    let l = c.loop-t in
    let a = c.args in
    let s = a.sheet.now in
    sym (fold_done _ l.r 64 _ c.in-None.ensures.steps.0) ∙ l.invariant.1
    ∙ union_over 64 (t_of s) (t_of s) a.ts (λ t. get_or a.plan.now.yielders t 0) (yielders_of s) c.ranges.ts.fits c.requires.1
    c.requires.0.yielders_at (yielders_small s)
