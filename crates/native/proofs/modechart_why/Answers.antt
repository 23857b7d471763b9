-- `native::modechart_why` meets its contract: too few words lent, a refusal, or what is reported. Assumes nothing.
use Rattle.std.proofs.Common.{refl, sym, ap, ◌∙◌, arith}
use mathlib.Core.Logic.{inl, inr, ⊎_elim}
use borrow.Author.Tests.{lt-ltb}
use Rattle.meaning.specs.Lists.{overwritten}
use Rattle.meaning.specs.Why.{refusal_of, reason_words}
use Rattle.reaction.specs.Reasons.{report_of, answer_of}
use Rattle.native.proofs.CallLaws.{why-nothing, why_answered}
use Rattle.native.proofs.modechart_why.Goals as goal

pub returns-then-info-lt3 : goal.returns-then-info-lt3
returns-then-info-lt3 c =
    let a = c.args in
    why-nothing a.sheet.now a.state.now a.input a.transition a.info.now (⊎_elim inl (λ k. inr (lt-ltb _ _ k.1)) c.then-info-lt3.either)

pub returns-in-Err : goal.returns-in-Err
unfolding refusal_of reason_words overwritten
returns-in-Err c =
    let a = c.args in
    why_answered a.sheet.now a.state.now a.input a.transition a.info.now c.if-info-lt3.false (omega arith) c.from_words.ensures
    (ap answer_of (sym c.in-Err.is) ∙ c.why.ensures) c.from.ensures refl

pub returns-in-Ok-NeverActive : goal.returns-in-Ok-NeverActive
unfolding refusal_of reason_words
returns-in-Ok-NeverActive c =
    let a = c.args in
    why_answered a.sheet.now a.state.now a.input a.transition a.info.now c.if-info-lt3.false (omega arith) c.from_words.ensures
    (ap report_of (sym c.in-Ok-NeverActive.field-0-is) ∙ ap answer_of (sym c.in-Ok-NeverActive.is) ∙ c.why.ensures) c.put_reason.ensures.0 c.put_reason.ensures.1

pub returns-in-Ok-NeverTriggered : goal.returns-in-Ok-NeverTriggered
unfolding refusal_of reason_words
returns-in-Ok-NeverTriggered c =
    let a = c.args in
    why_answered a.sheet.now a.state.now a.input a.transition a.info.now c.if-info-lt3.false (omega arith) c.from_words.ensures
    (ap report_of (sym c.in-Ok-NeverTriggered.field-0-is) ∙ ap answer_of (sym c.in-Ok-NeverTriggered.is) ∙ c.why.ensures) c.put_reason-in-Ok-NeverTriggered.ensures.0 c.put_reason-in-Ok-NeverTriggered.ensures.1

pub returns-in-Ok-GaveWay : goal.returns-in-Ok-GaveWay
unfolding refusal_of reason_words
returns-in-Ok-GaveWay c =
    let a = c.args in
    why_answered a.sheet.now a.state.now a.input a.transition a.info.now c.if-info-lt3.false (omega arith) c.from_words.ensures
    (ap report_of (sym c.in-Ok-GaveWay.field-0-is) ∙ ap answer_of (sym c.in-Ok-GaveWay.is) ∙ c.why.ensures) c.put_reason-in-Ok-GaveWay.ensures.0 c.put_reason-in-Ok-GaveWay.ensures.1

pub returns-in-Ok-Taken : goal.returns-in-Ok-Taken
unfolding refusal_of reason_words
returns-in-Ok-Taken c =
    let a = c.args in
    why_answered a.sheet.now a.state.now a.input a.transition a.info.now c.if-info-lt3.false (omega arith) c.from_words.ensures
    (ap report_of (sym c.in-Ok-Taken.field-0-is) ∙ ap answer_of (sym c.in-Ok-Taken.is) ∙ c.why.ensures) c.put_reason-in-Ok-Taken.ensures.0 c.put_reason-in-Ok-Taken.ensures.1
