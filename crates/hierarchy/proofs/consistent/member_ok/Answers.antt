-- `hierarchy::consistent::member_ok` meets its contract: each way out is a case of the member's kind. Assumes nothing.
use Rattle.std.proofs.Common.{rules, ◌≡◌, ℕ, Bool, ◌<◌, eqb, sym, ap, ◌∙◌, arith}
use Rattle.sets.specs.Sets.{has, meet, size, every_in}
use Rattle.meaning.specs.Sheet.{kind}
use Rattle.meaning.proofs.SheetLaws.{parent-le, sound, n_le, tree}
use Rattle.sheet.proofs.Past.{mode_small, row_read}
use Rattle.sheet.proofs.MaskLaws.{children_word}
use Rattle.sheet.specs.Kinds.{mode_kind}
use Rattle.hierarchy.proofs.ConsistentLaws.{member_orphan, member_serial, member_parallel, member_atomic}
use Rattle.hierarchy.proofs.consistent.member_ok.Goals as goal

-- whether the parent is in the set, as it was tested
parented : (x : ℕ) {p q : ℕ} {r b : Bool} → p ≡ q → r ≡ has x p → r ≡ b → has x q ≡ b
parented x e f g = ap (has x) (sym e) ∙ sym f ∙ g

pub parent-requires : goal.parent-requires
parent-requires c = row_read _ c.requires.0 _ c.requires.1

pub has-requires : goal.has-requires
has-requires c =
    let s = c.args.sheet.now in
    let sd = sound s c.requires.0 in
    omega (arith, c.parent.ensures, parent-le s (tree s sd) c.args.m c.requires.1, n_le s sd, c.requires.1)

pub returns-then-not-has : goal.returns-then-not-has
returns-then-not-has c =
    sym (member_orphan _ c.requires.0 c.args.x c.args.m (parented c.args.x c.parent.ensures c.has.ensures c.if-not-has.true))

pub offset_bounds-children-m : goal.offset_bounds-children-m
offset_bounds-children-m c = omega (arith, mode_small _ c.requires.0 _ c.requires.1)

pub bounds-children-m : goal.bounds-children-m
bounds-children-m c = mode_small _ c.requires.0 _ c.requires.1

pub kind-requires : goal.kind-requires
kind-requires c = row_read _ c.requires.0 _ c.requires.1

pub returns-in-Ok-Serial : goal.returns-in-Ok-Serial
returns-in-Ok-Serial c =
    let s = c.args.sheet.now in
    let x = c.args.x in
    let e = parented x c.parent.ensures c.has.ensures c.if-not-has.false in
    c.one_member.ensures
    ∙ ap (λ (y : ℕ). eqb (size 32 (meet x y)) 1) (children_word _ _ _ c.requires.0 c.requires.1 c.requires.2)
    ∙ member_serial s c.requires.0 x c.args.m e (sym c.kind.ensures ∙ c.in-Ok-Serial.ensures ∙ ap mode_kind c.in-Ok-Serial.field-0-is)

pub returns-in-Ok-Parallel : goal.returns-in-Ok-Parallel
returns-in-Ok-Parallel c =
    let s = c.args.sheet.now in
    let x = c.args.x in
    let e = parented x c.parent.ensures c.has.ensures c.if-not-has.false in
    c.within.ensures
    ∙ ap (λ (y : ℕ). every_in 32 y (has x)) (children_word _ _ _ c.requires.0 c.requires.1 c.requires.2)
    ∙ member_parallel s c.requires.0 x c.args.m e (sym c.kind.ensures ∙ c.in-Ok-Parallel.ensures ∙ ap mode_kind c.in-Ok-Parallel.field-0-is)

pub returns-in_default : goal.returns-in_default
returns-in_default c =
    let e = parented c.args.x c.parent.ensures c.has.ensures c.if-not-has.false in
    let k : kind c.args.sheet.now c.args.m ≡ 0 = search rules in
    member_atomic _ c.requires.0 c.args.x c.args.m e (λ q. absurd (omega (arith, k, q))) (λ q. absurd (omega (arith, k, q)))

pub returns-in_default-2 : goal.returns-in_default-2
returns-in_default-2 c =
    let e = parented c.args.x c.parent.ensures c.has.ensures c.if-not-has.false in
    let k : 2 < kind c.args.sheet.now c.args.m = search rules in
    member_atomic _ c.requires.0 c.args.x c.args.m e (λ q. absurd (omega (arith, k, q))) (λ q. absurd (omega (arith, k, q)))
