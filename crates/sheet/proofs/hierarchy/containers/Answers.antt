-- `sheet::hierarchy::containers` meets its contract. Assumes nothing.
use Rattle.std.proofs.Common.{arith, refl, replicate}
use lib.ListN.{length-set}
use Rattle.sheet.proofs.SheetTestLaws.{head_of, rooted_tree, parent_small}
use Rattle.sheet.proofs.ContainmentLaws.{containers_start, containers-turn, containers_end}
use Rattle.sheet.proofs.hierarchy.containers.Goals as goal

pub loop-m-init : goal.loop-m-init
loop-m-init c = (refl, containers_start _ (rooted_tree c.requires) (replicate 32 1) (head_of _ c.requires.head).n_pos refl)

pub offset_bounds-r-p : goal.offset_bounds-r-p
offset_bounds-r-p c = omega (arith, parent_small c.requires c.mode_count-m-end.ensures c.loop-m-test.true c.parent-p.ensures)

pub bounds-r-p : goal.bounds-r-p
bounds-r-p c = parent_small c.requires c.mode_count-m-end.ensures c.loop-m-test.true c.parent-p.ensures

pub single-requires : goal.single-requires
single-requires c = omega (arith, head_of _ c.requires.head)

pub offset_bounds-r-m : goal.offset_bounds-r-m
offset_bounds-r-m c = omega (arith, head_of _ c.requires.head)

pub bounds-r-m : goal.bounds-r-m
bounds-r-m c = omega (arith, head_of _ c.requires.head)

pub loop-m-preserved : goal.loop-m-preserved
loop-m-preserved c =
    let l = c.loop-m in
    (simp length-set l.invariant.0, containers-turn _ (rooted_tree c.requires) l.r l.m _ _ (omega arith) (omega arith) (omega (arith, head_of _ c.requires.head)) c.parent-p.ensures c.single.ensures l.invariant.1)

pub returns : goal.returns
returns c = containers_end _ (rooted_tree c.requires) c.loop-m.r c.loop-m.m (omega arith) c.loop-m.invariant.1
