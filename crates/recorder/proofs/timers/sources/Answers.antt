-- `recorder::timers::sources` meets its contract. Assumes nothing.
use Rattle.std.proofs.Common.{ℕ, not, refl, ap, ◌∙◌}
use borrow.Author.Tests.{eq-eqb, ne_eqb}
use Rattle.sets.specs.Sets.{union, set_of}
use Rattle.sets.proofs.Membership.{set_of-add, set_of_skip}
use Rattle.recorder.proofs.timers.sources.Goals as goal
use Rattle.recorder.proofs.timers.sources.Goals.{then-timers-ne0, else-timers-ne0}

pub loop-m-init : goal.loop-m-init
unfolding set_of
loop-m-init c = refl

pub loop-m-preserved : goal.loop-m-preserved
loop-m-preserved c =
    let l = c.loop-m in
    elim c.if-timers-ne0.branch [
      | then-timers-ne0 w ↦
          w.r-is ∙ ap (λ (x : ℕ). union x w.single-r.result) l.invariant ∙ ap (union _) w.single-r.ensures
          ∙ set_of-add l.m _ (ap not (ne_eqb _ 0 w.if-timers-ne0.true))
      | else-timers-ne0 w ↦ w.r-is ∙ l.invariant ∙ set_of_skip l.m _ (ap not (eq-eqb _ 0 w.if-timers-ne0.false))
    ]
