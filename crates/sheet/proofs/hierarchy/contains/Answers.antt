-- `sheet::hierarchy::contains` meets its contract. Assumes nothing.
use Rattle.std.proofs.Common.{◌∙◌, arith}
use Rattle.sheet.proofs.SheetTestLaws.{head_of, rooted_tree}
use Rattle.sheet.proofs.ContainmentLaws.{contains_word}
use Rattle.sheet.proofs.hierarchy.contains.Goals as goal

pub offset_bounds-containers-m : goal.offset_bounds-containers-m
offset_bounds-containers-m c = omega (arith, head_of _ c.requires.0.head)

pub bounds-containers-m : goal.bounds-containers-m
bounds-containers-m c = omega (arith, head_of _ c.requires.0.head)

pub has-requires : goal.has-requires
has-requires c = omega (arith, head_of _ c.requires.0.head)

pub returns : goal.returns
returns c = c.has.ensures ∙ contains_word _ _ (rooted_tree c.requires.0) c.requires.1 _ _ c.requires.3
