-- `hierarchy::tree::Tree::start` meets its contract. Assumes nothing.
use Rattle.std.proofs.Common.{sym, ◌∙◌}
use Rattle.meaning.proofs.SheetLaws.{sound, n_pos}
use Rattle.hierarchy.proofs.BelowLaws.{complete_root}
use Rattle.hierarchy.proofs.tree.Tree.start.Goals as goal

pub completed-requires : goal.completed-requires
completed-requires c = n_pos _ (sound _ c.args.self.now.passes)

pub returns : goal.returns
returns c = c.completed.ensures ∙ sym (complete_root _ (sound _ c.args.self.now.passes))
