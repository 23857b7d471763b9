-- `acceptance::masks::put_masks` meets its contract. Assumes nothing.
use Rattle.std.proofs.Common.{◌+◌, ◌<◌, length, refl, sym, ◌∙◌, arith, rules, length-set}
use native.Mathlib.Nat.{sub-zero}
use Rattle.meaning.specs.Table.{b_in, mask_in}
use Rattle.table.proofs.LayoutFacts.{head_sound, length_is, block_inside}
use Rattle.table.proofs.Places.{mask_read}
use Rattle.cells.proofs.WordRowLaws.{words_turn, words_end}
use Rattle.acceptance.proofs.masks.put_masks.Goals as goal
use Rattle.acceptance.proofs.masks.put_masks.Goals.{After-offset}

-- the word that is read is within the table
inside : (c : After-offset) → c.offset.result < length c.args.table.now
inside c =
    let w = c.args.table.now in
    let b = c.loop-b.b in
    let below : b < b_in w = omega arith in
    omega (arith, c.offset.ensures, length_is w c.requires.0 b below, block_inside w c.requires.0 b below)

pub block_count-b-end-requires : goal.block_count-b-end-requires
block_count-b-end-requires c = head_sound _ c.requires.0

pub loop-b-init : goal.loop-b-init
loop-b-init c = (refl, simp sub-zero)

pub offset-requires : goal.offset-requires
offset-requires c = (head_sound _ c.requires.0, omega arith)

pub offset_bounds-table-offset : goal.offset_bounds-table-offset
offset_bounds-table-offset c = let q = inside (goal.at.offset_bounds-table-offset c).After-offset in search rules

pub bounds-table-offset : goal.bounds-table-offset
bounds-table-offset c = inside (goal.at.bounds-table-offset c).After-offset

pub loop-b-preserved : goal.loop-b-preserved
loop-b-preserved c =
    let l = c.loop-b in
    let w = c.args.table.now in (
      length-set l.masks l.b _ ∙ l.invariant.0,
      words_turn (mask_in w) (b_in w) l.b l.masks l.b (l.b + 1) _ (omega arith) (omega arith) refl (mask_read w l.b c.offset.ensures)
          ∙ l.invariant.1,
    )

pub returns : goal.returns
returns c =
    let l = c.loop-b in
    let w = c.args.table.now in
    sym (words_end (mask_in w) (b_in w) l.b l.masks l.b (omega arith)) ∙ l.invariant.1
