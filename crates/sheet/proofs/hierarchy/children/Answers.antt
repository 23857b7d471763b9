-- `sheet::hierarchy::children` meets its contract. Assumes nothing.
use Rattle.std.proofs.Common.{arith, refl}
use lib.ListN.{length-set}
use Rattle.sheet.proofs.SheetTestLaws.{head_of}
use Rattle.sheet.proofs.MaskLaws.{children_start, children-add, children-pass, children_end}
use Rattle.sheet.proofs.hierarchy.children.Goals as goal
use Rattle.sheet.proofs.hierarchy.children.Goals.{then-p-lt32, else-p-lt32}

pub loop-m-init : goal.loop-m-init
loop-m-init c = (refl, children_start c.args.sheet.now)

pub single-requires : goal.single-requires
single-requires c = omega (arith, head_of _ c.requires)

pub loop-m-preserved : goal.loop-m-preserved
loop-m-preserved c =
    let l = c.loop-m in
    let e = c.parent-p.ensures in
    elim c.if-p-lt32.branch [
      | then-p-lt32 w ↦ (rw w.r-is (simp length-set l.invariant.0), rw w.r-is (children-add _ l.r l.m (omega arith) l.invariant.1 _ _ (omega arith) w.if-p-lt32.true e w.single.ensures))
      | else-p-lt32 w ↦ (rw w.r-is l.invariant.0, rw w.r-is (children-pass _ l.r l.m (omega arith) l.invariant.1 _ w.if-p-lt32.false e))
    ]

pub returns : goal.returns
returns c = children_end _ c.loop-m.r c.loop-m.m (omega (arith, head_of _ c.requires)) c.loop-m.invariant.1
