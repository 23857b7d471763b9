-- `stations::scheduling::looked` meets its contract. Assumes nothing.
use Rattle.std.proofs.Common.{sym, ap, ◌∙◌}
use Rattle.stations.specs.declared.Phase.TheVariants.{Looking}
use Rattle.stations.specs.Serving.{once_more, next_turn}
use Rattle.stations.proofs.ScheduleCases.{looked_ill, looked_next, looked_last}
use Rattle.stations.proofs.scheduling.looked.Goals as goal

pub returns-then-not-well : goal.returns-then-not-well
returns-then-not-well c = c.stops_at.ensures ∙ sym (looked_ill _ _ _ c.if-not-well.true)

pub returns-then-c : goal.returns-then-c
returns-then-c c =
    let s = c.args.c in
    c.next.ensures ∙ ap (next_turn s Looking s.left) c.with_work-working.ensures
    ∙ sym (looked_next s c.args.works _ c.if-not-well.false c.if-c.true)

pub returns : goal.returns
returns c =
    let s = c.args.c in
    c.once_more.ensures ∙ ap (once_more s.count s.left) c.with_work-working.ensures
    ∙ sym (looked_last s c.args.works _ c.if-not-well.false c.if-c.false)
