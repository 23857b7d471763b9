-- `recorder::table_run::mask_of` meets its contract. Assumes nothing.
use Rattle.std.proofs.Common.{arith}
use Rattle.sets.proofs.Tests.{of_true}
use Rattle.table.proofs.Places.{mask_read}
use Rattle.recorder.proofs.BlockPlaceLaws.{header_inside}
use Rattle.recorder.proofs.table_run.mask_of.Goals as goal

pub offset_bounds-table-at : goal.offset_bounds-table-at
offset_bounds-table-at c =
    omega (arith, c.requires.2.0, header_inside c.args.table.now (of_true c.requires.0) c.args.b.number c.requires.1)

pub bounds-table-at : goal.bounds-table-at
bounds-table-at c = omega (arith, c.requires.2.0, header_inside c.args.table.now (of_true c.requires.0) c.args.b.number c.requires.1)

pub returns : goal.returns
returns c = mask_read c.args.table.now c.args.b.number c.requires.2.0
