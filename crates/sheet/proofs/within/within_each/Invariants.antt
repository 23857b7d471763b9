-- `sheet::within::within_each`: the modes from m on are added to their parents. Assumes nothing.
use Rattle.std.proofs.Common.{◌≡◌, length}
use Rattle.sheet.proofs.ContainmentLaws.{WithinFrom}
use Rattle.sheet.proofs.within.within_each.Given as goal

abbrev pub invariant-loop-m : goal.invariant-loop-m
invariant-loop-m l = (length l.r ≡ 32) × WithinFrom l.fn.sheet l.m l.r
