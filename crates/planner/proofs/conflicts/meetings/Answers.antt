-- `planner::conflicts::meetings` meets its contract. Assumes nothing.
use Rattle.std.proofs.Common.{refl, arith}
use lib.ListN.{length-set}
use Rattle.sets.proofs.Loops.{row-turn}
use Rattle.meaning.specs.Sheet.{meeting}
use Rattle.meaning.proofs.SheetLaws.{sound, t_le}
use Rattle.sheet.proofs.Past.{head_read}
use Rattle.planner.specs.Parts.{Meetings}
use Rattle.planner.proofs.conflicts.meetings.Goals as goal

pub transition_count-t-end-requires : goal.transition_count-t-end-requires
transition_count-t-end-requires c = head_read _ c.args.tree.now.passes

pub loop-t-init : goal.loop-t-init
loop-t-init c = (t_le _ (sound _ c.args.tree.now.passes), refl, λ u l. absurd (omega arith))

pub loop-t-preserved : goal.loop-t-preserved
loop-t-preserved c =
    let l = c.loop-t in
    (l.invariant.0, simp length-set l.invariant.1, row-turn (meeting c.args.tree.now.sheet.now) l.r l.t (omega arith) l.invariant.2 c.meeting.ensures.0)

pub returns : goal.returns
unfolding Meetings
returns c = λ u h. c.loop-t.invariant.2 u (omega arith)
