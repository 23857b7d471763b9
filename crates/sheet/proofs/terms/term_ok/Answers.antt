-- `sheet::terms::term_ok` meets its contract. Assumes nothing.
use Rattle.std.proofs.Common.{◌≡◌, ◌<◌, sym, ap, ◌∙◌, arith}
use mathlib.Core.Logic.{⊎_elim}
use borrow.Author.Tests.{eq-eqb, ne_eqb}
use Rattle.meaning.specs.Sheet.{term_kind as number}
use Rattle.meaning.specs.Check.{kind_ok, term_ok}
use Rattle.sheet.specs.Kinds.{term_kind}
use Rattle.sheet.proofs.SheetTestLaws.{head_of, event_term, mode_term, other_term}
use Rattle.sheet.proofs.terms.term_ok.Goals as goal

pub returns-in_default : goal.returns-in_default
returns-in_default c = sym (other_term _ _ _ (omega (arith, c.term_kind.ensures, c.in_default.ensures.1)))

pub mask_ok-requires : goal.mask_ok-requires
mask_ok-requires c = omega (arith, head_of _ c.requires.head)

pub returns-then-term_count-eq1 : goal.returns-then-term_count-eq1
unfolding term_ok kind_ok
returns-then-term_count-eq1 c =
    rw (
      sym c.term_kind.ensures ∙ c.in-Ok.ensures ∙ ap term_kind c.in-Delay.is,
      eq-eqb _ 1 (sym c.term_count.ensures ∙ c.if-term_count-eq1.true),
      c.term_value-v.ensures,
    )

pub returns-else-term_count-eq1 : goal.returns-else-term_count-eq1
unfolding term_ok kind_ok
returns-else-term_count-eq1 c =
    rw (
      sym c.term_kind.ensures ∙ c.in-Ok.ensures ∙ ap term_kind c.in-Delay.is,
      c.term_count.ensures,
      ne_eqb _ 1 (λ e. c.if-term_count-eq1.false (c.term_count.ensures ∙ e)),
    )

pub returns-in-Present : goal.returns-in-Present
returns-in-Present c =
    let k : number c.args.sheet.now c.args.t c.args.j ≡ term_kind c.in-Ok.kind = sym c.term_kind.ensures ∙ c.in-Ok.ensures in
    let above : 0 < number c.args.sheet.now c.args.t c.args.j = ⊎_elim (λ e. omega (arith, k ∙ ap term_kind e)) (λ e. omega (arith, k ∙ ap term_kind e)) c.in-Present.is in
    let below : number c.args.sheet.now c.args.t c.args.j < 3 = ⊎_elim (λ e. omega (arith, k ∙ ap term_kind e)) (λ e. omega (arith, k ∙ ap term_kind e)) c.in-Present.is in
    rw (
      event_term c.args.sheet.now c.args.t c.args.j above below,
      c.term_value-v.ensures,
      c.event_count.ensures,
    )

pub returns-in-Active : goal.returns-in-Active
unfolding term_ok kind_ok
returns-in-Active c =
    rw (sym c.term_kind.ensures ∙ c.in-Ok.ensures ∙ ap term_kind c.in-Active.is)
    (rw (c.mode_count.ensures, c.term_value-v.ensures) at c.mask_ok.ensures)

pub returns-in-Entered : goal.returns-in-Entered
returns-in-Entered c =
    let k : number c.args.sheet.now c.args.t c.args.j ≡ term_kind c.in-Ok.kind = sym c.term_kind.ensures ∙ c.in-Ok.ensures in
    let above : 3 < number c.args.sheet.now c.args.t c.args.j = ⊎_elim (λ e. omega (arith, k ∙ ap term_kind e)) (λ e. omega (arith, k ∙ ap term_kind e)) c.in-Entered.is in
    let below : number c.args.sheet.now c.args.t c.args.j < 6 = ⊎_elim (λ e. omega (arith, k ∙ ap term_kind e)) (λ e. omega (arith, k ∙ ap term_kind e)) c.in-Entered.is in
    rw (
      mode_term c.args.sheet.now c.args.t c.args.j above below,
      c.wide.ensures,
      c.term_value-v.ensures,
      c.mode_count-in-Entered.ensures,
    )

pub returns-in-Taken : goal.returns-in-Taken
unfolding term_ok kind_ok
returns-in-Taken c =
    rw (
      sym c.term_kind.ensures ∙ c.in-Ok.ensures ∙ ap term_kind c.in-Taken.is,
      c.wide-in-Taken.ensures,
      c.term_value-v.ensures,
      c.transition_count.ensures,
    )

pub returns-in-Or : goal.returns-in-Or
unfolding term_ok kind_ok
returns-in-Or c =
    rw (sym c.term_kind.ensures ∙ c.in-Ok.ensures ∙ ap term_kind c.in-Or.is) (rw c.term_value-v.ensures at c.or_ok.ensures)
