-- `planner::hits::with_event` meets its contract. Assumes nothing.
use Rattle.planner.proofs.HitLaws.{with_event_lem}
use Rattle.planner.proofs.hits.with_event.Goals as goal

pub returns : goal.returns
returns c = with_event_lem c.args.e c.requires
