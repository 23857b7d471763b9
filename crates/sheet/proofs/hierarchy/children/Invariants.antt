-- `sheet::hierarchy::children`: the modes below m are added to their parents' words. Assumes nothing.
use Rattle.std.proofs.Common.{◌≡◌, length}
use Rattle.sheet.proofs.MaskLaws.{ChildrenBelow}
use Rattle.sheet.proofs.hierarchy.children.Given as goal

abbrev pub invariant-loop-m : goal.invariant-loop-m
invariant-loop-m l = (length l.r ≡ 32) × ChildrenBelow l.fn.sheet l.m l.r
