-- `native::modechart_sheet_run` meets its contract: too few words lent, or what the sheet run returns. Assumes nothing.
use Rattle.std.proofs.Common.{refl, arith}
use mathlib.Core.Logic.{inl, inr, ⊎_elim}
use borrow.Author.Tests.{lt-ltb}
use Rattle.run.specs.States.{state_of}
use Rattle.simulator.specs.Runs.{ran_of}
use Rattle.native.proofs.CallLaws.{sheet_nothing, sheet_answered}
use Rattle.native.proofs.modechart_sheet_run.Goals as goal

pub returns-then-info-lt3 : goal.returns-then-info-lt3
returns-then-info-lt3 c =
    let a = c.args in
    sheet_nothing a.sheet.now a.state.now a.inputs.now a.out.now a.numbers.now a.info.now
    (⊎_elim inl (λ k. inr (lt-ltb _ _ k.1)) c.then-info-lt3.either)

pub returns : goal.returns
returns c =
    let a = c.args in
    let r = c.run-ran in
    sheet_answered a.sheet.now a.state.now a.inputs.now a.out.now a.numbers.now a.info.now c.if-info-lt3.false (omega arith)
    (record { run = ran_of r.result r.new.out; numbers = r.new.numbers }) (state_of c.from_words.result) c.from_words.ensures
    r.ensures.0 r.result.rounds.0 r.result.rounds.1 refl r.ensures.2 c.number.result c.put_state.new.words c.number.ensures c.put_state.ensures
