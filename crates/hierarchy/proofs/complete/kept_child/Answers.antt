-- `hierarchy::complete::kept_child` meets its contract: where no child of m is in x, m's first mode is taken.
use mathlib.Core.Path.{◌≡◌, ◌∙◌}
use Prim.Native.Nat.{◌<◌}
use native.Mathlib.Omega.{arith}
use lib.ListN.{get_or}
use Rattle.sets.specs.Sets.{meet}
use Rattle.meaning.proofs.SheetLaws.{sound}
use Rattle.sheet.proofs.Past.{mode_small, row_read}
use Rattle.sheet.proofs.MaskLaws.{children_word}
use Rattle.hierarchy.specs.Below.{kept_child}
use Rattle.hierarchy.proofs.BelowLaws.{kept_child_first, kept_child_highest}
use Rattle.hierarchy.proofs.complete.kept_child.Goals as goal
use Rattle.hierarchy.proofs.complete.kept_child.Goals.{After-first}

-- where the code takes m's first mode, x has no child of m
first_taken : (c : After-first) → c.first.result ≡ kept_child c.args.sheet.now c.args.x c.args.m
first_taken c =
    let p = c.requires in
    let no_child : meet c.args.x (get_or c.args.children.now c.args.m 0) ≡ 0 = omega arith in
    c.first.ensures ∙ kept_child_first _ (sound _ p.0) _ _ _ (children_word _ _ _ p.0 p.1 p.2) no_child

pub offset_bounds-children-m : goal.offset_bounds-children-m
offset_bounds-children-m c = let p = c.requires in omega (arith, mode_small _ p.0 _ p.1)

pub bounds-children-m : goal.bounds-children-m
bounds-children-m c = let p = c.requires in mode_small _ p.0 _ p.1

pub first-requires : goal.first-requires
first-requires c = let p = c.requires in row_read _ p.0 _ p.1

pub returns-then-c-eq0 : goal.returns-then-c-eq0
returns-then-c-eq0 c = first_taken (goal.at.returns-then-c-eq0 c).After-first

pub returns : goal.returns
returns c =
    let p = c.requires in
    let some_child : 0 < meet c.args.x (get_or c.args.children.now c.args.m 0) = omega arith in
    c.highest.ensures ∙ kept_child_highest _ (sound _ p.0) _ _ _ (children_word _ _ _ p.0 p.1 p.2) c.ranges.x.fits some_child
