-- `hierarchy::complete::serial_below` and `hierarchy::complete::parallel_below` meet their contracts. Assumes nothing.
use Rattle.std.proofs.Common.{◌≡◌, ◌-◌, ◌<◌, ℕ, List, get_or, arith, sym, ◌∙◌}
use Rattle.sets.specs.Sets.{union}
use Rattle.sets.proofs.Tests.{of_true}
use Rattle.sets.proofs.Members.{Turn, step, fold_turn, fold_done}
use Rattle.sets.proofs.Those.{Subset, subset_turn}
use Rattle.meaning.specs.Sheet.{n_of, kind}
use Rattle.meaning.specs.Check.{sheet_refusal}
use Rattle.meaning.specs.Hierarchy.{children}
use Rattle.meaning.proofs.SheetLaws.{sound}
use Rattle.sheet.proofs.Past.{mode_small, row_read}
use Rattle.sheet.proofs.MaskLaws.{children-lt, children_word}
use Rattle.hierarchy.specs.Below.{kept_child, completed_below}
use Rattle.hierarchy.proofs.BelowLaws.{serial_of, other_of, children_next, kept_child_next, branch_of, serial_done, childless_union, childless_branch, completed_below_members}
use Rattle.hierarchy.proofs.ConsistentLaws.{fits_32}
use Rattle.hierarchy.proofs.complete.+parallel_below_serial_below.Goals as goal

-- ---- parallel_below

-- the child of a turn is a mode, for which the measure is lower
lower : (s : List ℕ) → sheet_refusal s ≡ 0 → (m : ℕ) {rest d r t : ℕ} → Subset rest (children s m) → Turn 32 rest d r → 32 - m ≡ t → (d < n_of s) × (32 - d < t)
lower s h m {rest} {d} k u e =
    let n = children_next s (sound s h) m d (k d (of_true u.lowest.member)) in
    (n.1, omega (arith, n.0, mode_small s h d n.1))

pub parallel_below-offset_bounds-children-m : goal.parallel_below-offset_bounds-children-m
parallel_below-offset_bounds-children-m t c = let p = c.requires in omega (arith, mode_small _ p.0 _ p.1)

pub parallel_below-bounds-children-m : goal.parallel_below-bounds-children-m
parallel_below-bounds-children-m t c = let p = c.requires in mode_small _ p.0 _ p.1

pub parallel_below-loop-c-init : goal.parallel_below-loop-c-init
parallel_below-loop-c-init t c =
    let a = c.args in
    let p = c.requires in
    let e : c.into_iter-c-iterator.result.rest ≡ get_or a.children.now a.m 0 = cc in
    rw (e, children_word a.sheet.now a.children.now a.m p.0 p.1 p.2)
    (fits_32 _ p.0 (children-lt _ _), λ i h. h, completed_below_members _ (sound _ p.0) _ _ p.1 p.3)

pub parallel_below-offset_bounds-children-c : goal.parallel_below-offset_bounds-children-c
parallel_below-offset_bounds-children-c t c =
    let p = c.requires in
    let l = c.loop-c.invariant in
    omega (arith, mode_small _ p.0 _ (lower _ p.0 c.args.m l.1 (step l.0 c.in-Some.ensures.steps) c.decreases).0)

pub parallel_below-bounds-children-c : goal.parallel_below-bounds-children-c
parallel_below-bounds-children-c t c =
    let p = c.requires in
    let l = c.loop-c.invariant in
    mode_small _ p.0 _ (lower _ p.0 c.args.m l.1 (step l.0 c.in-Some.ensures.steps) c.decreases).0

pub parallel_below-is_serial-requires : goal.parallel_below-is_serial-requires
parallel_below-is_serial-requires t c =
    let p = c.requires in
    let l = c.loop-c.invariant in
    row_read _ p.0 _ (lower _ p.0 c.args.m l.1 (step l.0 c.in-Some.ensures.steps) c.decreases).0

pub parallel_below-serial_below-r-requires : goal.parallel_below-serial_below-r-requires
parallel_below-serial_below-r-requires t c =
    let p = c.requires in
    let l = c.loop-c.invariant in
    let k = lower _ p.0 c.args.m l.1 (step l.0 c.in-Some.ensures.steps) c.decreases in
    (k.1, (p.0, k.0, p.2, serial_of _ _ c.is_serial.ensures c.if-is_serial.true))

pub parallel_below-loop-c-preserved-then-is_serial :
    goal.parallel_below-loop-c-preserved-then-is_serial
parallel_below-loop-c-preserved-then-is_serial t c =
    let l = c.loop-c in
    let u = step l.invariant.0 c.in-Some.ensures.steps in
    (u.fits, subset_turn _ u l.invariant.1, rw c.serial_below-r.ensures (fold_turn _ l.r u ∙ l.invariant.2))

pub parallel_below-parallel_below-r-requires : goal.parallel_below-parallel_below-r-requires
parallel_below-parallel_below-r-requires t c =
    let p = c.requires in
    let l = c.loop-c.invariant in
    let k = lower _ p.0 c.args.m l.1 (step l.0 c.in-Some.ensures.steps) c.decreases in
    (k.1, (p.0, k.0, p.2, other_of _ _ c.is_serial.ensures c.if-is_serial.false))

pub parallel_below-loop-c-preserved-else-is_serial :
    goal.parallel_below-loop-c-preserved-else-is_serial
parallel_below-loop-c-preserved-else-is_serial t c =
    let l = c.loop-c in
    let u = step l.invariant.0 c.in-Some.ensures.steps in
    (u.fits, subset_turn _ u l.invariant.1, rw c.parallel_below-r.ensures (fold_turn _ l.r u ∙ l.invariant.2))

pub parallel_below-loop-c-preserved : goal.parallel_below-loop-c-preserved
parallel_below-loop-c-preserved t c =
    let l = c.loop-c in
    let p = c.requires in
    let u = step l.invariant.0 c.in-Some.ensures.steps in
    let k = (lower _ p.0 c.args.m l.invariant.1 u c.decreases).0 in
    let same = childless_union _ (sound _ p.0) c.args.x _ l.r k (sym (children_word _ _ _ p.0 k p.2) ∙ c.if-children-c-ne0.false) in
    (u.fits, subset_turn _ u l.invariant.1, rw (sym same) (fold_turn (λ y d. union y (completed_below c.args.sheet.now c.args.x d)) l.r u ∙ l.invariant.2))

pub parallel_below-returns : goal.parallel_below-returns
parallel_below-returns t c = sym (fold_done _ c.loop-c.r 32 _ c.in-None.ensures.steps.0) ∙ c.loop-c.invariant.2

-- ---- serial_below

-- the child kept is a mode, for which the measure is lower
kept : (s : List ℕ) → sheet_refusal s ≡ 0 → (x m : ℕ) {c t : ℕ} → m < n_of s → kind s m ≡ 1 → c ≡ kept_child s x m → 32 - m ≡ t → (c < n_of s) × (32 - c < t)
kept s h x m {c} l k e q =
    let n = kept_child_next s (sound s h) x m c l k e in
    (n.1, omega (arith, n.0, mode_small s h c n.1))

pub serial_below-single-r-requires : goal.serial_below-single-r-requires
serial_below-single-r-requires t c =
    let p = c.requires in
    mode_small _ p.0 _ (kept _ p.0 _ _ p.1 p.3 c.kept_child-c.ensures c.decreases).0

pub serial_below-offset_bounds-children-c : goal.serial_below-offset_bounds-children-c
serial_below-offset_bounds-children-c t c =
    let p = c.requires in
    omega (arith, mode_small _ p.0 _ (kept _ p.0 _ _ p.1 p.3 c.kept_child-c.ensures c.decreases).0)

pub serial_below-bounds-children-c : goal.serial_below-bounds-children-c
serial_below-bounds-children-c t c =
    let p = c.requires in
    mode_small _ p.0 _ (kept _ p.0 _ _ p.1 p.3 c.kept_child-c.ensures c.decreases).0

pub serial_below-returns-then-children-c-eq0 : goal.serial_below-returns-then-children-c-eq0
serial_below-returns-then-children-c-eq0 t c =
    let p = c.requires in
    let k = (kept _ p.0 _ _ p.1 p.3 c.kept_child-c.ensures c.decreases).0 in
    serial_done _ (sound _ p.0) _ _ _ _ p.1 p.3 c.kept_child-c.ensures
    (childless_branch _ (sound _ p.0) _ _ _ k (sym (children_word _ _ _ p.0 k p.2) ∙ c.if-children-c-eq0.true) c.single-r.ensures)

pub serial_below-is_serial-requires : goal.serial_below-is_serial-requires
serial_below-is_serial-requires t c =
    let p = c.requires in
    row_read _ p.0 _ (kept _ p.0 _ _ p.1 p.3 c.kept_child-c.ensures c.decreases).0

pub serial_below-serial_below-requires : goal.serial_below-serial_below-requires
serial_below-serial_below-requires t c =
    let p = c.requires in
    let k = kept _ p.0 _ _ p.1 p.3 c.kept_child-c.ensures c.decreases in
    (k.1, (p.0, k.0, p.2, serial_of _ _ c.is_serial.ensures c.if-is_serial.true))

pub serial_below-parallel_below-requires : goal.serial_below-parallel_below-requires
serial_below-parallel_below-requires t c =
    let p = c.requires in
    let k = kept _ p.0 _ _ p.1 p.3 c.kept_child-c.ensures c.decreases in
    (k.1, (p.0, k.0, p.2, other_of _ _ c.is_serial.ensures c.if-is_serial.false))

pub serial_below-returns-then-is_serial : goal.serial_below-returns-then-is_serial
serial_below-returns-then-is_serial t c =
    let p = c.requires in
    serial_done _ (sound _ p.0) _ _ _ _ p.1 p.3 c.kept_child-c.ensures
    (branch_of _ (sound _ p.0) _ _ _ _ c.single-r.ensures c.serial_below.ensures)

pub serial_below-returns-else-is_serial : goal.serial_below-returns-else-is_serial
serial_below-returns-else-is_serial t c =
    let p = c.requires in
    serial_done _ (sound _ p.0) _ _ _ _ p.1 p.3 c.kept_child-c.ensures
    (branch_of _ (sound _ p.0) _ _ _ _ c.single-r.ensures c.parallel_below.ensures)
