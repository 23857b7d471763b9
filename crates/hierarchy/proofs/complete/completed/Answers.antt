-- `hierarchy::complete::completed` meets its contract. Assumes nothing.
use Rattle.std.proofs.Common.{sym, ◌∙◌, arith}
use Rattle.meaning.proofs.SheetLaws.{sound}
use Rattle.sheet.proofs.Past.{mode_small, row_read}
use Rattle.sheet.proofs.MaskLaws.{children_word}
use Rattle.hierarchy.proofs.BelowLaws.{serial_of, other_of, branch_of, childless_branch}
use Rattle.hierarchy.proofs.complete.completed.Goals as goal

pub single-r-requires : goal.single-r-requires
single-r-requires c = mode_small _ c.requires.0 _ c.requires.1

pub offset_bounds-children-m : goal.offset_bounds-children-m
offset_bounds-children-m c = omega (arith, mode_small _ c.requires.0 _ c.requires.1)

pub bounds-children-m : goal.bounds-children-m
bounds-children-m c = mode_small _ c.requires.0 _ c.requires.1

pub returns-then-children-m-eq0 : goal.returns-then-children-m-eq0
returns-then-children-m-eq0 c =
    let p = c.requires in
    childless_branch _ (sound _ p.0) _ _ _ p.1 (sym (children_word _ _ _ p.0 p.1 p.2) ∙ c.if-children-m-eq0.true) c.single-r.ensures

pub is_serial-requires : goal.is_serial-requires
is_serial-requires c = row_read _ c.requires.0 _ c.requires.1

pub serial_below-requires : goal.serial_below-requires
serial_below-requires c =
    let p = c.requires in
    (p.0, p.1, p.2, serial_of _ _ c.is_serial.ensures c.if-is_serial.true)

pub parallel_below-requires : goal.parallel_below-requires
parallel_below-requires c =
    let p = c.requires in
    (p.0, p.1, p.2, other_of _ _ c.is_serial.ensures c.if-is_serial.false)

pub returns-then-is_serial : goal.returns-then-is_serial
returns-then-is_serial c = branch_of _ (sound _ c.requires.0) _ _ _ _ c.single-r.ensures c.serial_below.ensures

pub returns-else-is_serial : goal.returns-else-is_serial
returns-else-is_serial c = branch_of _ (sound _ c.requires.0) _ _ _ _ c.single-r.ensures c.parallel_below.ensures
