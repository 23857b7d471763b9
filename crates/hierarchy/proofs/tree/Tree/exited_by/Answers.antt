-- `hierarchy::tree::Tree::exited_by` meets its contract. Assumes nothing.
use Rattle.std.proofs.Common.{◌∙◌}
use Rattle.meaning.proofs.SheetLaws.{sound}
use Rattle.sheet.proofs.Past.{record_read}
use Rattle.hierarchy.proofs.TransitionLaws.{source_held, exits_inside}
use Rattle.hierarchy.proofs.tree.Tree.exited_by.Goals as goal

pub source-requires : goal.source-requires
source-requires c = record_read _ c.args.self.now.passes _ c.requires.0

pub child_holding-requires : goal.child_holding-requires
child_holding-requires c =
    source_held _ (sound _ c.args.self.now.passes) _ c.requires.0 _ c.requires.1 _ c.source.ensures

pub returns : goal.returns
returns c =
    c.inside.ensures
    ∙ exits_inside _ (sound _ c.args.self.now.passes) _ c.requires.0 _ c.requires.1 _ _ c.source.ensures c.child_holding.ensures.0
