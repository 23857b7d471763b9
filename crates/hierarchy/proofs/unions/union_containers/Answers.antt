-- `hierarchy::unions::union_containers` meets its contract. Assumes nothing.
use Rattle.std.proofs.Common.{arith}
use lib.ListN.{length-set}
use Rattle.meaning.proofs.SheetLaws.{sound, tree, n_pos}
use Rattle.sheet.proofs.SheetTestLaws.{parent_small}
use Rattle.sheet.proofs.Past.{head_read, mode_small, row_read, tree_read}
use Rattle.hierarchy.proofs.UnionLaws.{above_start, above_turn, above_end}
use Rattle.hierarchy.proofs.unions.union_containers.Goals as goal

pub mode_count-m-end-requires : goal.mode_count-m-end-requires
mode_count-m-end-requires c = head_read _ c.requires.0

pub loop-m-init : goal.loop-m-init
loop-m-init c = let sd = sound _ c.requires.0 in (c.requires.1, c.mode_count-m-end.ensures, above_start c.args.sheet.now c.args.words.now (tree _ sd) (n_pos _ sd))

pub parent-p-requires : goal.parent-p-requires
parent-p-requires c = row_read _ c.requires.0 _ (omega arith)

pub offset_bounds-words-p : goal.offset_bounds-words-p
offset_bounds-words-p c = omega (arith, parent_small (tree_read _ c.requires.0) c.mode_count-m-end.ensures c.loop-m-test.true c.parent-p.ensures)

pub bounds-words-p : goal.bounds-words-p
bounds-words-p c = parent_small (tree_read _ c.requires.0) c.mode_count-m-end.ensures c.loop-m-test.true c.parent-p.ensures

pub offset_bounds-words-m : goal.offset_bounds-words-m
offset_bounds-words-m c = omega (arith, mode_small _ c.requires.0 c.loop-m.m (omega arith))

pub bounds-words-m : goal.bounds-words-m
bounds-words-m c = mode_small _ c.requires.0 _ (omega arith)

pub bounds-words-m-in-loop-m : goal.bounds-words-m-in-loop-m
bounds-words-m-in-loop-m c = mode_small _ c.requires.0 _ (omega arith)

pub loop-m-preserved : goal.loop-m-preserved
loop-m-preserved c =
    let l = c.loop-m in
    let small = mode_small _ c.requires.0 l.m (omega arith) in
    (simp length-set l.invariant.0, l.invariant.1, above_turn c.args.sheet.now c.args.words.now (tree _ (sound _ c.requires.0)) l.words l.m _ (omega arith) (omega arith) c.parent-p.ensures (omega arith) l.invariant.2)

pub returns : goal.returns
returns c =
    let l = c.loop-m in
    above_end _ c.args.words.now (tree _ (sound _ c.requires.0)) l.words l.m (omega arith) l.invariant.2
