-- `sheet::within::within_each` meets its contract. Assumes nothing.
use Rattle.std.proofs.Common.{arith, refl, replicate}
use lib.ListN.{length-set}
use Rattle.sets.proofs.Loops.{get_or_zeros}
use Rattle.meaning.specs.Within.{within, within_each}
use Rattle.meaning.proofs.ListLaws.{row_done}
use Rattle.sheet.proofs.SheetTestLaws.{head_of, rooted_tree, parent_small}
use Rattle.sheet.proofs.ContainmentLaws.{within_start, within_turn, within_end}
use Rattle.sheet.proofs.within.within_each.Goals as goal

pub loop-m-init : goal.loop-m-init
loop-m-init c = (refl, within_start _ (rooted_tree c.requires) (replicate 32 0) _ c.mode_count-m.ensures (get_or_zeros 32))

pub offset_bounds-r-m : goal.offset_bounds-r-m
offset_bounds-r-m c = omega (arith, head_of _ c.requires.head)

pub bounds-r-m : goal.bounds-r-m
bounds-r-m c = omega (arith, head_of _ c.requires.head)

pub single-requires : goal.single-requires
single-requires c = omega (arith, head_of _ c.requires.head)

pub offset_bounds-r-p : goal.offset_bounds-r-p
offset_bounds-r-p c = omega (arith, parent_small c.requires c.mode_count-m.ensures (omega arith) c.parent-p.ensures)

pub bounds-r-p : goal.bounds-r-p
bounds-r-p c = parent_small c.requires c.mode_count-m.ensures (omega arith) c.parent-p.ensures

pub bounds-r-p-in-loop-m : goal.bounds-r-p-in-loop-m
bounds-r-p-in-loop-m c = parent_small c.requires c.mode_count-m.ensures (omega arith) c.parent-p.ensures

pub loop-m-preserved : goal.loop-m-preserved
loop-m-preserved c =
    let l = c.loop-m in
    let room = parent_small c.requires c.mode_count-m.ensures (omega arith) c.parent-p.ensures in
    (simp length-set l.invariant.0, within_turn _ (rooted_tree c.requires) l.r l.m _ _ (omega arith) (omega arith) c.parent-p.ensures (omega arith) c.single.ensures l.invariant.1)

pub returns : goal.returns
unfolding within_each
returns c =
    let l = c.loop-m in
    row_done (within c.args.sheet.now) l.r 32 l.invariant.0 (λ q h. within_end _ (rooted_tree c.requires) l.r l.m q (omega arith) l.invariant.1)
