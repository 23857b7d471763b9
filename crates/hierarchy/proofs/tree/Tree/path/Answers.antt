-- `hierarchy::tree::Tree::path` meets its contract. Assumes nothing.
use Rattle.std.proofs.Common.{ap₂, ◌∙◌, arith}
use Rattle.sets.specs.Sets.{meet}
use Rattle.meaning.proofs.SheetLaws.{sound, tree}
use Rattle.sheet.proofs.Past.{mode_small}
use Rattle.sheet.proofs.ContainmentLaws.{containers_word}
use Rattle.hierarchy.proofs.TransitionLaws.{path_masks}
use Rattle.hierarchy.proofs.tree.Tree.path.Goals as goal

pub offset_bounds-self-m : goal.offset_bounds-self-m
offset_bounds-self-m c = omega (arith, mode_small _ c.args.self.now.passes _ c.requires.1)

pub bounds-self-m : goal.bounds-self-m
bounds-self-m c = mode_small _ c.args.self.now.passes _ c.requires.1

pub returns : goal.returns
returns c =
    let a = c.args.self.now in
    ap₂ meet (containers_word _ a.containers.now a.has_containers _ c.requires.1) c.inside.ensures
    ∙ path_masks _ (tree _ (sound _ a.passes)) _ _ c.requires.1
