-- `hierarchy::unions::union_within` meets its contract. Assumes nothing.
use Rattle.std.proofs.Common.{arith, ◌-◌}
use lib.ListN.{length-set}
use Rattle.meaning.proofs.SheetLaws.{sound, tree}
use Rattle.sheet.proofs.SheetTestLaws.{parent_small}
use Rattle.sheet.proofs.Past.{head_read, mode_small, row_read, tree_read}
use Rattle.hierarchy.proofs.UnionLaws.{joined_start, joined_turn, joined_end}
use Rattle.hierarchy.proofs.unions.union_within.Goals as goal

pub mode_count-m-requires : goal.mode_count-m-requires
mode_count-m-requires c = head_read _ c.requires.0

pub loop-m-init : goal.loop-m-init
loop-m-init c = (c.requires.1, omega arith, joined_start c.args.sheet.now c.args.words.now (tree _ (sound _ c.requires.0)) _ c.mode_count-m.ensures)

pub parent-p-requires : goal.parent-p-requires
parent-p-requires c = row_read _ c.requires.0 _ (omega arith)

pub offset_bounds-words-m : goal.offset_bounds-words-m
offset_bounds-words-m c = omega (arith, mode_small _ c.requires.0 (c.loop-m.m - 1) (omega arith))

pub bounds-words-m : goal.bounds-words-m
bounds-words-m c = mode_small _ c.requires.0 _ (omega arith)

pub offset_bounds-words-p : goal.offset_bounds-words-p
offset_bounds-words-p c = omega (arith, parent_small (tree_read _ c.requires.0) c.mode_count-m.ensures (omega arith) c.parent-p.ensures)

pub bounds-words-p : goal.bounds-words-p
bounds-words-p c = parent_small (tree_read _ c.requires.0) c.mode_count-m.ensures (omega arith) c.parent-p.ensures

pub bounds-words-p-in-loop-m : goal.bounds-words-p-in-loop-m
bounds-words-p-in-loop-m c = parent_small (tree_read _ c.requires.0) c.mode_count-m.ensures (omega arith) c.parent-p.ensures

pub loop-m-preserved : goal.loop-m-preserved
loop-m-preserved c =
    let l = c.loop-m in
    let room = parent_small (tree_read _ c.requires.0) c.mode_count-m.ensures (omega arith) c.parent-p.ensures in
    (simp length-set l.invariant.0, omega arith, joined_turn c.args.sheet.now c.args.words.now (tree _ (sound _ c.requires.0)) l.words l.m _ (omega arith) l.invariant.1 c.parent-p.ensures (omega arith) l.invariant.2)

pub returns : goal.returns
returns c =
    let l = c.loop-m in
    joined_end _ c.args.words.now (tree _ (sound _ c.requires.0)) l.words l.m (omega arith) l.invariant.2
