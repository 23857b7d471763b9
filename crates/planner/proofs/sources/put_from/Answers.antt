-- `planner::sources::put_from` meets its contract. Assumes nothing.
use Rattle.std.proofs.Common.{arith}
use Rattle.meaning.proofs.SheetLaws.{sound, t_le}
use Rattle.sheet.proofs.Past.{head_read, record_read}
use Rattle.planner.proofs.WordLaws.{below_none}
use Rattle.planner.proofs.SourceLaws.{by_source, source_small, from_turn, from_done}
use Rattle.planner.proofs.sources.put_from.Goals as goal

pub transition_count-t-end-requires : goal.transition_count-t-end-requires
transition_count-t-end-requires c = head_read _ c.requires.0

pub loop-t-init : goal.loop-t-init
loop-t-init c = (t_le _ (sound _ c.requires.0), source_small _ c.requires.0, below_none (by_source c.args.sheet.now) 32 c.requires.1)

pub source-requires : goal.source-requires
source-requires c = record_read _ c.requires.0 c.loop-t.t (omega arith)

pub loop-t-preserved : goal.loop-t-preserved
loop-t-preserved c =
    let l = c.loop-t in (
      l.invariant.0,
      l.invariant.1,
      from_turn c.args.sheet.now l.from l.t c.source.result (omega arith) (omega arith) c.source.ensures c.single.ensures l.invariant.2,
    )

pub returns : goal.returns
returns c = from_done c.args.sheet.now c.loop-t.from (omega arith) c.loop-t.invariant.2
