-- `sheet::modes::mode_ok` meets its contract. Assumes nothing.
use Rattle.std.proofs.Common.{◌≡◌, ◌≤◌, ◌<◌, sym, ap, ◌∙◌, arith}
use mathlib.Core.Bool.{and-true}
use mathlib.Core.Logic.{⊎_elim}
use borrow.Author.Tests.{le-leb, lt-leb, ne_eqb}
use Rattle.meaning.specs.Lists.{all_of}
use Rattle.meaning.specs.Sheet.{kind}
use Rattle.meaning.specs.Check.{mode_ok}
use Rattle.meaning.proofs.ListLaws.{all_of_fails}
use Rattle.sheet.specs.Kinds.{mode_kind}
use Rattle.sheet.proofs.modes.mode_ok.Goals as goal
use Rattle.sheet.proofs.modes.mode_ok.Goals.{then-not-parent_ok-via-then-not-parent_ok, then-not-parent_ok-via-else-not-parent_ok+then-not-first_ok}

pub returns-in_default : goal.returns-in_default
unfolding mode_ok
returns-in_default c = sym (all_of_fails _ 0 (lt-leb _ 2 (omega (arith, c.kind.ensures, c.in_default.ensures.1))))

pub returns-then-not-parent_ok : goal.returns-then-not-parent_ok
unfolding mode_ok
returns-then-not-parent_ok c =
    elim c.then-not-parent_ok.branch [
      | then-not-parent_ok-via-then-not-parent_ok w ↦ sym (all_of_fails _ 1 (sym c.parent_ok.ensures ∙ w.if-not-parent_ok.true))
      | then-not-parent_ok-via-else-not-parent_ok+then-not-first_ok w ↦ sym (all_of_fails _ 3 (sym w.first_ok.ensures ∙ w.if-not-first_ok.true))
    ]

pub returns-in-Atomic : goal.returns-in-Atomic
unfolding mode_ok all_of
returns-in-Atomic c =
    let k : kind c.args.sheet.now c.args.m ≡ 0 = sym c.kind.ensures ∙ c.in-Ok.ensures ∙ ap mode_kind c.in-Atomic.is in
    rw (k, ← c.parent_ok.ensures, c.if-not-parent_ok.false, ← (rw k at c.first_ok.ensures), c.if-not-first_ok.false)

pub returns-in-Serial : goal.returns-in-Serial
unfolding mode_ok all_of
returns-in-Serial c =
    let k : kind c.args.sheet.now c.args.m ≡ mode_kind c.in-Ok.kind = sym c.kind.ensures ∙ c.in-Ok.ensures in
    let most : kind c.args.sheet.now c.args.m ≤ 2 = ⊎_elim (λ e. omega (arith, k ∙ ap mode_kind e)) (λ e. omega (arith, k ∙ ap mode_kind e)) c.in-Serial.is in
    let least : 0 < kind c.args.sheet.now c.args.m = ⊎_elim (λ e. omega (arith, k ∙ ap mode_kind e)) (λ e. omega (arith, k ∙ ap mode_kind e)) c.in-Serial.is in
    rw (
      le-leb _ 2 most,
      ← c.parent_ok.ensures,
      c.if-not-parent_ok.false,
      ne_eqb (kind c.args.sheet.now c.args.m) 0 (λ z. omega (arith, z, least)),
      ← c.first_ok.ensures,
      c.if-not-first_ok.false,
      and-true,
    )
    c.has_child.ensures
