-- `simulator::why::tick_report` meets its contract. Assumes nothing.
use Rattle.std.proofs.Common.{sym, ap, ◌∙◌}
use Rattle.meaning.specs.Refusal.{number_or_0}
use Rattle.meaning.proofs.RefusalLaws.{number_not_0}
use Rattle.reaction.specs.Rounds.{Before}
use Rattle.run.specs.States.{state_of}
use Rattle.run.proofs.DueNumberLaws.{room_from_0}
use Rattle.reaction.proofs.StartLaws.{unsure_asks, first_words, begun_of}
use Rattle.simulator.proofs.WhyLaws.{begins, report_refused, report_reason}
use Rattle.simulator.proofs.why.tick_report.Goals as goal
use Rattle.simulator.proofs.why.tick_report.Goals.{After-start_of-b, After-triggered-first}

-- what the tick begins with
known : (c : After-start_of-b) → Before c.args.sheet.now c.start_of-b.result c.due-due.result.set
known c =
    begins c.args.sheet.now c.requires.0.passes (state_of c.args.state) c.requires.1 c.deadlines-ends.ensures c.running-timers.ensures
    c.due-due.ensures.0 c.start_of-b.ensures

pub due-due-requires : goal.due-due-requires
due-due-requires c = room_from_0 _

pub triggered-first-requires : goal.triggered-first-requires
triggered-first-requires c = (c.requires.0.passes, unsure_asks _ (known (goal.at.triggered-first-requires c).After-start_of-b))

pub rounds-o-requires : goal.rounds-o-requires
rounds-o-requires c =
    let k = known (goal.at.rounds-o-requires c).After-start_of-b in
    let first = c.triggered-first.ensures ∙ first_words c.args.sheet.now c.requires.0.passes k c.requires.3 c.hits.ensures in
    (c.requires.0, begun_of _ c.requires.0.passes k c.requires.3 first, c.requires.3)

pub returns-in-Some : goal.returns-in-Some
returns-in-Some c =
    let k = known (goal.at.returns-in-Some c).After-start_of-b in
    let first = c.triggered-first.ensures ∙ first_words c.args.sheet.now c.requires.0.passes k c.requires.3 c.hits.ensures in
    report_refused _ c.requires.0.passes _ c.requires.1 c.deadlines-ends.ensures c.running-timers.ensures c.due-due.ensures.0 c.requires.3
    c.requires.2 c.start_of-b.ensures first c.rounds-o.ensures (ap number_or_0 (sym c.in-Some.is)) (number_not_0 _)

pub reason-requires : goal.reason-requires
reason-requires c =
    let k = known (goal.at.reason-requires c).After-start_of-b in
    let first = c.triggered-first.ensures ∙ first_words c.args.sheet.now c.requires.0.passes k c.requires.3 c.hits.ensures in
    (c.requires.0, begun_of _ c.requires.0.passes k c.requires.3 first, c.requires.3, c.rounds-o.ensures, c.requires.2)

pub returns : goal.returns
returns c =
    let k = known (goal.at.returns c).After-start_of-b in
    let first = c.triggered-first.ensures ∙ first_words c.args.sheet.now c.requires.0.passes k c.requires.3 c.hits.ensures in
    report_reason _ c.requires.0.passes _ c.requires.1 c.deadlines-ends.ensures c.running-timers.ensures c.due-due.ensures.0 c.requires.3
    c.requires.2 c.start_of-b.ensures first c.rounds-o.ensures (ap number_or_0 c.in_default.is) c.reason.ensures
