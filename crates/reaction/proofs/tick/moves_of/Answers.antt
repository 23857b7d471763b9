-- `reaction::tick::moves_of` meets its contract. Assumes nothing.
use Rattle.std.proofs.Common.{sym, ap, ◌∙◌, subst}
use Rattle.sets.specs.Sets.{members}
use Rattle.sets.proofs.Members.{step, fold, fold_turn, fold_done}
use Rattle.reaction.specs.Rounds.{MovesOf, add_move}
use Rattle.reaction.specs.declared.tick.Moves.{Moves}
use Rattle.reaction.proofs.RoundLaws.{moves_all}
use Rattle.reaction.proofs.tick.moves_of.Goals as goal

pub with_move-r-requires : goal.with_move-r-requires
with_move-r-requires c = (step c.loop-t.invariant.0 c.in-Some.ensures.steps).lowest.small

pub loop-t-preserved : goal.loop-t-preserved
loop-t-preserved c =
    let l = c.loop-t in
    let u = step l.invariant.0 c.in-Some.ensures.steps in
    let f = add_move c.args.plan.now in
    (u.fits, ap (λ (m : Moves). fold f m (members 64 c.next.new.self.rest)) c.with_move-r.ensures ∙ fold_turn f l.r u ∙ l.invariant.1)

pub returns : goal.returns
returns c =
    let l = c.loop-t in
    let a = c.args in
    subst (MovesOf a.sheet.now a.es) (sym (sym (fold_done (add_move a.plan.now) l.r 64 _ c.in-None.ensures.steps.0) ∙ l.invariant.1))
    (moves_all a.sheet.now a.plan.now c.requires.0 a.es c.ranges.es.fits c.requires.1)
