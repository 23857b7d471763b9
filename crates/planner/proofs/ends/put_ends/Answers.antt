-- `planner::ends::put_ends` meets its contract. Assumes nothing.
use Rattle.std.proofs.Common.{ℕ, ◌+◌, ◌*◌, ◌^◌, ap₂, ◌∙◌, arith}
use Rattle.sets.proofs.Loops.{row-turn}
use Rattle.meaning.proofs.SheetLaws.{sound, t_le}
use Rattle.sheet.proofs.Past.{head_read}
use Rattle.planner.specs.Parts.{ends_of}
use Rattle.planner.proofs.ConflictLaws.{meetings_word}
use Rattle.planner.proofs.ends.put_ends.Goals as goal

pub transition_count-t-end-requires : goal.transition_count-t-end-requires
transition_count-t-end-requires c = head_read _ c.args.tree.now.passes

pub loop-t-init : goal.loop-t-init
loop-t-init c = (t_le _ (sound _ c.args.tree.now.passes), λ u l. absurd (omega arith))

pub exited_by-requires : goal.exited_by-requires
exited_by-requires c = (omega arith, meetings_word _ c.args.tree.now.passes _ c.requires c.loop-t.t (omega arith))

pub entered_by-requires : goal.entered_by-requires
entered_by-requires c = (omega arith, meetings_word _ c.args.tree.now.passes _ c.requires c.loop-t.t (omega arith))

pub loop-t-preserved : goal.loop-t-preserved
loop-t-preserved c =
    let l = c.loop-t in
    let word = c.join.ensures ∙ ap₂ (λ (x y : ℕ). x * 2 ^ 32 + y) c.entered_by.ensures c.exited_by.ensures in
    (l.invariant.0, row-turn (ends_of c.args.tree.now.sheet.now) l.ends l.t (omega arith) l.invariant.1 word)

pub returns : goal.returns
returns c = λ u h. c.loop-t.invariant.1 u (omega arith)
