-- `sheet::hierarchy::containers`: the words of the modes below m are right. Assumes nothing.
use Rattle.std.proofs.Common.{◌≡◌, length}
use Rattle.sheet.proofs.ContainmentLaws.{ContainersTo}
use Rattle.sheet.proofs.hierarchy.containers.Given as goal

abbrev pub invariant-loop-m : goal.invariant-loop-m
invariant-loop-m l = (length l.r ≡ 32) × ContainersTo l.fn.sheet l.m l.r
