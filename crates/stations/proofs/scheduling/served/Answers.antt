-- `stations::scheduling::served` meets its contract. Assumes nothing.
use Rattle.std.proofs.Common.{sym, ap, ◌∙◌}
use Rattle.stations.specs.declared.Phase.TheVariants.{Serving}
use Rattle.stations.specs.Serving.{once_more, next_turn}
use Rattle.stations.proofs.ScheduleCases.{served_spent, served_next, served_last}
use Rattle.stations.proofs.scheduling.served.Goals as goal

pub returns-then-left-eq0 : goal.returns-then-left-eq0
returns-then-left-eq0 c = c.stops_at.ensures ∙ sym (served_spent _ _ _ c.if-left-eq0.true)

pub returns-then-c : goal.returns-then-c
returns-then-c c =
    let s = c.args.c in
    c.next.ensures ∙ ap (next_turn s Serving c.args.left) c.with_work-working.ensures
    ∙ sym (served_next s c.args.works _ c.if-left-eq0.false c.if-c.true)

pub returns : goal.returns
returns c =
    let s = c.args.c in
    c.once_more.ensures ∙ ap (once_more s.count c.args.left) c.with_work-working.ensures
    ∙ sym (served_last s c.args.works _ c.if-left-eq0.false c.if-c.false)
