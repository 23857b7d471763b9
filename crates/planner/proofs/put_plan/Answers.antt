-- `planner::put_plan` meets its contract. Assumes nothing.
use Rattle.meaning.proofs.SheetLaws.{sound, n_le}
use Rattle.sheet.proofs.Past.{head_read, tree_read}
use Rattle.sheet.proofs.ContainmentLaws.{withins_of}
use Rattle.planner.proofs.put_plan.Goals as goal

pub children-children-requires : goal.children-children-requires
children-children-requires c = head_read _ c.requires.0

pub within_each-within-requires : goal.within_each-within-requires
within_each-within-requires c = tree_read _ c.requires.0

pub containers-containers-requires : goal.containers-containers-requires
containers-containers-requires c = tree_read _ c.requires.0

pub of-tree-requires : goal.of-tree-requires
of-tree-requires c = (
  c.requires.0,
  c.children-children.ensures,
  withins_of c.args.sheet.now _ (n_le _ (sound _ c.requires.0)) c.within_each-within.ensures,
  c.containers-containers.ensures,
)
