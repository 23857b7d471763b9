-- `hierarchy::tree::Tree::inside` meets its contract. Assumes nothing.
use Rattle.std.proofs.Common.{ap₂, ◌∙◌, arith}
use Rattle.sets.specs.Sets.{union}
use Rattle.meaning.proofs.SheetLaws.{sound, tree}
use Rattle.sheet.proofs.Past.{mode_small}
use Rattle.sheet.proofs.ContainmentLaws.{within_word, inside_is}
use Rattle.hierarchy.proofs.tree.Tree.inside.Goals as goal

pub offset_bounds-self-c : goal.offset_bounds-self-c
offset_bounds-self-c c = omega (arith, mode_small _ c.args.self.now.passes _ c.requires)

pub bounds-self-c : goal.bounds-self-c
bounds-self-c c = mode_small _ c.args.self.now.passes _ c.requires

pub single-requires : goal.single-requires
single-requires c = mode_small _ c.args.self.now.passes _ c.requires

pub returns : goal.returns
returns c =
    let a = c.args.self.now in
    ap₂ union (within_word _ a.within.now a.has_within _ c.requires) c.single.ensures
    ∙ inside_is _ (tree _ (sound _ a.passes)) _ c.requires
