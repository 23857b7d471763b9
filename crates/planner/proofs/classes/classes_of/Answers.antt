-- `planner::classes::classes_of` meets its contract. Assumes nothing.
use Rattle.std.proofs.Common.{arith}
use Rattle.sets.proofs.Loops.{set_of_none, set_of_tested, set_of_width}
use Rattle.meaning.proofs.SheetLaws.{sound, t_le}
use Rattle.sheet.proofs.Past.{head_read}
use Rattle.reaction.specs.Plan.{timers}
use Rattle.planner.specs.Parts.{sure}
use Rattle.planner.proofs.classes.classes_of.Goals as goal

pub transition_count-t-end-requires : goal.transition_count-t-end-requires
transition_count-t-end-requires c = head_read _ c.requires

pub loop-t-init : goal.loop-t-init
loop-t-init c = (t_le _ (sound _ c.requires), set_of_none _, set_of_none _)

pub loop-t-preserved : goal.loop-t-preserved
loop-t-preserved c =
    let l = c.loop-t.invariant in (
      l.0,
      set_of_tested _ _ l.1 c.single_if-timing.ensures c.is_timer.ensures,
      set_of_tested _ _ l.2 c.single_if-certain.ensures c.is_sure.ensures,
    )

pub returns : goal.returns
unfolding timers sure
returns c = let l = c.loop-t.invariant in (set_of_width _ l.1 (omega arith), set_of_width _ l.2 (omega arith))
