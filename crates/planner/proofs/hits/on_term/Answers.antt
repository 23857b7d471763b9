-- `planner::hits::on_term` meets its contract. Assumes nothing.
use Rattle.planner.proofs.HitLaws.{term_present, term_absent}
use Rattle.planner.proofs.hits.on_term.Goals as goal

pub returns-then-kind : goal.returns-then-kind
returns-then-kind c = term_present c.args.e c.if-kind.true c.with_event-words.ensures

pub returns : goal.returns
returns c = term_absent c.args.e c.requires.0 c.if-kind.false c.requires.1 c.with_event-words.ensures
