-- `hierarchy::tree::Tree::entered_by` meets its contract: the path down to the target is a base of completion, so its top's branch is it
-- completed. Assumes nothing.
use Rattle.std.proofs.Common.{◌∙◌}
use Rattle.meaning.proofs.SheetLaws.{sound}
use Rattle.sheet.proofs.Past.{record_read}
use Rattle.hierarchy.proofs.TransitionLaws.{target_held, enters_branch}
use Rattle.hierarchy.proofs.tree.Tree.entered_by.Goals as goal

pub target-b-requires : goal.target-b-requires
target-b-requires c = record_read _ c.args.self.now.passes _ c.requires.0

pub child_holding-c-requires : goal.child_holding-c-requires
child_holding-c-requires c =
    target_held _ (sound _ c.args.self.now.passes) _ c.requires.0 _ c.requires.1 _ c.target-b.ensures

pub path-requires : goal.path-requires
path-requires c =
    let h = target_held _ (sound _ c.args.self.now.passes) _ c.requires.0 _ c.requires.1 _ c.target-b.ensures in
    (c.child_holding-c.ensures.1, h.0)

pub completed-requires : goal.completed-requires
completed-requires c = c.child_holding-c.ensures.1

pub returns : goal.returns
returns c =
    c.completed.ensures
    ∙ enters_branch _ (sound _ c.args.self.now.passes) _ c.requires.0 _ c.requires.1 _ _ _ c.target-b.ensures c.child_holding-c.ensures.0
    c.path.ensures
