-- `simulator::why::why` meets its contract: each way out is a case of `why`, in its order. Assumes nothing.
use Rattle.std.proofs.Common.{ℕ, ◌/◌, ◌^◌, sym, ap, ◌∙◌, arith}
use Rattle.std.proofs.lemmas.Result.{err_from_is_err_and}
use Rattle.meaning.specs.Why.{refused, why}
use Rattle.meaning.proofs.RefusalLaws.{number_not_0}
use Rattle.meaning.proofs.SheetLaws.{sound, k_le}
use Rattle.meaning.proofs.WhyLaws.{refused_sheet, refused_state, refused_transition, refused_input}
use Rattle.sheet.proofs.Past.{head_read}
use Rattle.run.specs.States.{state_of}
use Rattle.run.proofs.LoopLaws.{input_below, input_foreign_lem}
use Rattle.simulator.proofs.why.why.Goals as goal

pub returns-in_err-check : goal.returns-in_err-check
returns-in_err-check c =
    let a = c.args in
    let p = err_from_is_err_and c.from_residual.result c.from_residual.ensures.1 in
    rw (p.1, p.2) (ap refused c.in_err-check.ensures ∙ refused_sheet a.sheet.now (state_of a.state) a.input a.transition (λ e. number_not_0 _ (c.in_err-check.ensures ∙ e)))

pub returns-then-not-state_ok : goal.returns-then-not-state_ok
returns-then-not-state_ok c =
    let a = c.args in
    refused_state a.sheet.now (state_of a.state) a.input a.transition c.put_plan.ensures.passes (sym c.state_ok.ensures ∙ c.if-not-state_ok.true)

pub transition_count-requires : goal.transition_count-requires
transition_count-requires c = head_read _ c.put_plan.ensures.passes

pub returns-then-transition_count-t : goal.returns-then-transition_count-t
returns-then-transition_count-t c =
    let a = c.args in
    refused_transition a.sheet.now (state_of a.state) a.input a.transition c.put_plan.ensures.passes
    (sym c.state_ok.ensures ∙ c.if-not-state_ok.false) (omega (arith, c.if-transition_count-t.true, c.transition_count.ensures, c.wide-t.ensures))

pub event_count-requires : goal.event_count-requires
event_count-requires c = head_read _ c.put_plan.ensures.passes

pub overflow_shr-input : goal.overflow_shr-input
overflow_shr-input c = omega (arith, c.event_count.ensures, k_le _ (sound _ c.put_plan.ensures.passes))

pub returns-then-input-event_count-ne0 : goal.returns-then-input-event_count-ne0
returns-then-input-event_count-ne0 c =
    let a = c.args in
    refused_input a.sheet.now (state_of a.state) a.input a.transition c.put_plan.ensures.passes
    (sym c.state_ok.ensures ∙ c.if-not-state_ok.false) (omega (arith, c.if-transition_count-t.false, c.transition_count.ensures, c.wide-t.ensures))
    (input_foreign_lem _ _ (λ e. c.if-input-event_count-ne0.true (ap (λ (n : ℕ). a.input / 2 ^ n) c.event_count.ensures ∙ e)))

pub tick_report-requires : goal.tick_report-requires
tick_report-requires c = (
  c.put_plan.ensures,
  sym c.state_ok.ensures ∙ c.if-not-state_ok.false,
  omega (arith, c.if-transition_count-t.false, c.transition_count.ensures, c.wide-t.ensures),
  input_below _ _ (ap (λ (n : ℕ). c.args.input / 2 ^ n) (sym c.event_count.ensures) ∙ c.if-input-event_count-ne0.false),
)

pub returns : goal.returns
returns c = c.tick_report.ensures ∙ ap (why c.args.sheet.now (state_of c.args.state) c.args.input) c.wide-t.ensures
