-- `sheet::modes::has_child` meets its contract. Assumes nothing.
use Rattle.std.proofs.Common.{arith}
use Rattle.sheet.proofs.SheetTestLaws.{head_of}
use Rattle.sheet.proofs.MaskLaws.{children-some}
use Rattle.sheet.proofs.modes.has_child.Goals as goal

pub offset_bounds-children-m : goal.offset_bounds-children-m
offset_bounds-children-m c = omega (arith, c.requires.0.mode, head_of _ c.requires.0.head)

pub bounds-children-m : goal.bounds-children-m
bounds-children-m c = omega (arith, c.requires.0.mode, head_of _ c.requires.0.head)

pub returns : goal.returns
returns c = children-some _ _ _ c.requires.1 (omega (arith, c.requires.0.mode, head_of _ c.requires.0.head))
