-- `reaction::alternatives::put_causes` meets its contract. Assumes nothing.
use Rattle.std.proofs.Common.{ℕ, T, ltb, sym, ◌∙◌, subst, arith, length-set}
use Rattle.sets.specs.Sets.{has}
use Rattle.sets.proofs.Tests.{is_true, of_true}
use Rattle.sets.proofs.Members.{step}
use Rattle.sets.proofs.Those.{subset_turn}
use Rattle.reaction.specs.Causes.{cause_by}
use Rattle.reaction.specs.Rounds.{sets_of}
use Rattle.reaction.proofs.CauseLaws.{cause_by_lem}
use Rattle.reaction.proofs.StoredLaws.{stored_turn, stored_done, stored_same}
use Rattle.reaction.proofs.alternatives.put_causes.Goals as goal

pub cause-requires : goal.cause-requires
cause-requires c =
    let a = c.args in
    let t = c.in-Some.t in
    let u = step c.loop-t.invariant.0 c.in-Some.ensures.steps in
    let k = c.requires.1 t (is_true (has a.es t) (c.loop-t.invariant.1 t (of_true u.lowest.member))) in
    let by = cause_by_lem a.sheet.now c.requires.0 t k.0 a.input (sets_of a.begun a.z) c.ranges.input.fits c.facts-f.ensures in
    (c.requires.0, k.0, subst (λ (n : ℕ). T (ltb 0 n)) (sym by) k.1)

pub overflow_add-numbers : goal.overflow_add-numbers
overflow_add-numbers c = omega (arith, (step c.loop-t.invariant.0 c.in-Some.ensures.steps).lowest.small, c.loop-t.invariant.2, c.requires.2)

pub bounds-numbers-at : goal.bounds-numbers-at
bounds-numbers-at c = omega (arith, (step c.loop-t.invariant.0 c.in-Some.ensures.steps).lowest.small, c.loop-t.invariant.2, c.requires.2)

pub loop-t-preserved : goal.loop-t-preserved
loop-t-preserved c =
    let a = c.args in
    let l = c.loop-t in
    let u = step l.invariant.0 c.in-Some.ensures.steps in (
      u.fits,
      subset_turn a.es u l.invariant.1,
      simp length-set l.invariant.2,
      rw c.cause.ensures (stored_turn (cause_by a.sheet.now c.facts-f.result) 64 a.at l.numbers u (omega (arith, l.invariant.2, c.requires.2))) ∙ l.invariant.3,
    )

pub returns : goal.returns
returns c =
    let a = c.args in
    let l = c.loop-t in
    stored_done (cause_by a.sheet.now c.facts-f.result) 64 a.at l.numbers _ c.in-None.ensures.steps.0 (omega (arith, l.invariant.2, c.requires.2))
    ∙ l.invariant.3
    ∙ stored_same _ _ 64 a.at a.numbers.now a.es
    (λ t m. cause_by_lem a.sheet.now c.requires.0 t (c.requires.1 t m).0 a.input (sets_of a.begun a.z) c.ranges.input.fits c.facts-f.ensures)
