-- `planner::conflicts::by_meeting` meets its contract. Assumes nothing.
use Rattle.std.proofs.Common.{◌<◌, refl, arith}
use lib.ListN.{length-set}
use Rattle.meaning.specs.Sheet.{t_of}
use Rattle.meaning.proofs.SheetLaws.{sound, t_le}
use Rattle.sheet.proofs.Past.{head_read}
use Rattle.planner.proofs.WordLaws.{below_none}
use Rattle.planner.proofs.ConflictLaws.{by_meeting, meetings_word, meetings_small, by_meeting-turn, by_meeting_end}
use Rattle.planner.proofs.conflicts.by_meeting.Goals as goal

pub transition_count-t-end-requires : goal.transition_count-t-end-requires
transition_count-t-end-requires c = head_read _ c.requires.0

pub loop-t-init : goal.loop-t-init
loop-t-init c = (t_le _ (sound _ c.requires.0), meetings_small _ c.requires.0 _ c.requires.1, refl, below_none (by_meeting c.args.sheet.now) 32 refl)

pub loop-t-preserved : goal.loop-t-preserved
loop-t-preserved c =
    let l = c.loop-t in
    let on : l.t < t_of c.args.sheet.now = omega arith in
    let small = l.invariant.1 l.t on in (
      l.invariant.0,
      l.invariant.1,
      simp length-set l.invariant.2,
      by_meeting-turn _ l.r l.t _ (omega (arith, small, l.invariant.2)) small (meetings_word _ c.requires.0 _ c.requires.1 _ on) c.single.ensures l.invariant.3,
    )

pub returns : goal.returns
returns c = by_meeting_end _ c.loop-t.r (omega arith) c.loop-t.invariant.3
