-- `hierarchy::unions::union_within`: the words of the modes from m on are added to those of their parents. Assumes nothing.
use Rattle.std.proofs.Common.{◌≡◌, ◌≤◌, length}
use Rattle.meaning.specs.Sheet.{n_of}
use Rattle.hierarchy.proofs.UnionLaws.{JoinedFrom}
use Rattle.hierarchy.proofs.unions.union_within.Given as goal

abbrev pub invariant-loop-m : goal.invariant-loop-m
invariant-loop-m l = (length l.words ≡ 32) × (l.m ≤ n_of l.sheet) × JoinedFrom l.sheet l.fn.words l.m l.words
