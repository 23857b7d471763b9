-- Of the loop of `acceptance::masks::put_masks`: the masks of the blocks before block b stand at the front, the rest is to follow.
use Rattle.std.proofs.Common.{◌≡◌, ◌-◌, length}
use Rattle.meaning.specs.Lists.{row_from}
use Rattle.meaning.specs.Table.{b_in, mask_in}
use Rattle.rows.specs.Over.{over}
use Rattle.acceptance.specs.Heads.{masks_in}
use Rattle.acceptance.proofs.masks.put_masks.Given as goal

abbrev pub invariant-loop-b : goal.invariant-loop-b
invariant-loop-b l =
    (length l.masks ≡ length l.fn.masks)
    × (over l.masks l.b (row_from l.b (b_in l.table - l.b) (mask_in l.table)) ≡ over l.fn.masks 0 (masks_in l.table))
