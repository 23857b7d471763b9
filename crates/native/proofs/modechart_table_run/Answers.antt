-- `native::modechart_table_run` meets its contract: too few words lent, or what the table run returns. Assumes nothing.
use Rattle.std.proofs.Common.{[], ◌∷◌, ◌∙◌, arith}
use mathlib.Core.Logic.{inl, inr, ⊎_elim}
use borrow.Author.Tests.{lt-ltb}
use Rattle.run.specs.States.{state_of}
use Rattle.recorder.specs.Runs.{ran_of}
use Rattle.native.specs.Calls.{table_call}
use Rattle.native.proofs.CallLaws.{run_nothing, run_answered, table_call_lem}
use Rattle.native.proofs.modechart_table_run.Goals as goal

pub returns-then-info-lt1 : goal.returns-then-info-lt1
unfolding table_call
returns-then-info-lt1 c =
    let a = c.args in
    run_nothing _ _ a.state.now a.out.now a.info.now (⊎_elim inl (λ k. inr (lt-ltb _ _ k.1)) c.then-info-lt1.either)

pub returns : goal.returns
returns c =
    let a = c.args in
    let r = c.run-ran in
    let o = ran_of r.result r.new.out in
    run_answered o (o.done ∷ []) a.state.now a.out.now a.info.now c.if-info-lt1.false (omega arith) c.number.result c.put_state.new.words
    c.number.ensures c.put_state.ensures
    ∙ table_call_lem a.table.now a.state.now a.inputs.now a.out.now a.info.now o (state_of c.from_words.result) c.from_words.ensures r.ensures
