-- `planner::hits::put_hit` meets its contract. Assumes nothing.
use Rattle.std.proofs.Common.{Bool, ◌*◌, ◌^◌, refl, ap, ap₂, ◌∙◌, arith, get_or-set_other}
use Rattle.sets.specs.Sets.{union, digit}
use Rattle.sets.proofs.Loops.{row-turn}
use Rattle.planner.proofs.hits.put_hit.Invariants.{put}
use Rattle.planner.proofs.hits.put_hit.Goals as goal

pub loop-i-init : goal.loop-i-init
loop-i-init c = (λ i l. absurd (omega arith), λ i l. refl)

pub loop-i-preserved : goal.loop-i-preserved
loop-i-preserved c =
    let l = c.loop-i in
    let a = c.args in (
      row-turn (put a.hits.now a.set a.t) l.hits l.i (omega arith) l.invariant.0
          (ap₂ union (l.invariant.1 l.i (omega arith)) (c.single_if.ensures ∙ ap (λ (x : Bool). digit x * 2 ^ a.t) c.has.ensures)),
      λ i b. get_or-set_other l.hits l.i i _ 0 (λ e. omega arith) ∙ l.invariant.1 i (omega arith),
    )

pub returns : goal.returns
returns c = λ i b. c.loop-i.invariant.0 i (omega arith)
