-- `hierarchy::unions::union_containers`: the words of the modes below m have those of their parents. Assumes nothing.
use Rattle.std.proofs.Common.{◌≡◌, length}
use Rattle.meaning.specs.Sheet.{n_of}
use Rattle.hierarchy.proofs.UnionLaws.{AboveTo}
use Rattle.hierarchy.proofs.unions.union_containers.Given as goal

abbrev pub invariant-loop-m : goal.invariant-loop-m
invariant-loop-m l = (length l.words ≡ 32) × (l.m-end ≡ n_of l.sheet) × AboveTo l.sheet l.fn.words l.m l.words
