-- `planner::conflicts::put_conflicts` meets its contract. Assumes nothing.
use Rattle.std.proofs.Common.{◌<◌, ap, ◌∙◌, arith}
use Rattle.sets.specs.Sets.{minus}
use Rattle.sets.proofs.Loops.{row-turn}
use Rattle.meaning.specs.Sheet.{t_of}
use Rattle.meaning.proofs.SheetLaws.{sound, t_le}
use Rattle.reaction.specs.Plan.{conflicts_of, yielders_of}
use Rattle.sheet.proofs.Past.{head_read}
use Rattle.planner.proofs.ConflictLaws.{meetings_small, conflicts_words, yielders_words}
use Rattle.planner.proofs.conflicts.put_conflicts.Goals as goal

pub transition_count-t-end-requires : goal.transition_count-t-end-requires
transition_count-t-end-requires c = head_read _ c.requires.0

pub loop-t-init : goal.loop-t-init
loop-t-init c =
    (t_le _ (sound _ c.requires.0), meetings_small _ c.requires.0 _ c.requires.1, λ u l. absurd (omega arith), λ u l. absurd (omega arith))

pub loop-t-preserved : goal.loop-t-preserved
loop-t-preserved c =
    let l = c.loop-t in
    let s = c.args.sheet.now in
    let on : l.t < t_of s = omega arith in
    let by = c.by_meeting-by.ensures in
    let inside = c.union_within.ensures in
    let conflicts = conflicts_words s _ _ c.requires.0 c.requires.1 by l.t on _ _ inside c.union_containers.ensures in
    let yielders = yielders_words s _ _ c.requires.0 c.requires.1 by l.t on _ inside in (
      l.invariant.0,
      l.invariant.1,
      row-turn (conflicts_of s) l.conflicts l.t (omega arith) l.invariant.2 (c.minus.ensures ∙ ap (minus _) c.single.ensures ∙ conflicts),
      row-turn (yielders_of s) l.yielders l.t (omega arith) l.invariant.3 (c.minus-in-loop-t.ensures ∙ yielders),
    )

pub returns : goal.returns
returns c = (λ u h. c.loop-t.invariant.2 u (omega arith), λ u h. c.loop-t.invariant.3 u (omega arith))
