-- `recorder::table_run::run` meets its contract: each way out is a case of `table_run`, in its order. Assumes nothing.
use Rattle.std.proofs.Common.{sym, ◌∙◌, arith}
use Rattle.meaning.specs.Lists.{refused_if}
use Rattle.meaning.specs.TableRun.{table_run}
use Rattle.run.proofs.LoopLaws.{output_short_lem, output_room_lem, stopped_refused, stopped_state, stopped_short, goes_on_lem}
use Rattle.recorder.proofs.TableStateLaws.{no_refusal}
use Rattle.recorder.proofs.table_run.run.Goals as goal

pub returns-then-not-table_ok : goal.returns-then-not-table_ok
unfolding table_run refused_if
returns-then-not-table_ok c =
    c.stops.ensures _
    ∙ stopped_refused _ _ _ _ _ _ _ _ (rw (sym c.table_ok.ensures ∙ c.if-not-table_ok.true)) (λ z. omega arith)

pub returns-then-not-state_ok : goal.returns-then-not-state_ok
unfolding table_run
returns-then-not-state_ok c =
    c.stops-then-not-state_ok.ensures _
    ∙ stopped_state _ _ _ _ _ _ _ _ (no_refusal _ (sym c.table_ok.ensures ∙ c.if-not-table_ok.false)) (sym c.state_ok.ensures ∙ c.if-not-state_ok.true)

pub returns-then-out-inputs : goal.returns-then-out-inputs
unfolding table_run
returns-then-out-inputs c =
    c.stops-then-out-inputs.ensures _
    ∙ stopped_short _ _ _ _ _ _ _ _ (no_refusal _ (sym c.table_ok.ensures ∙ c.if-not-table_ok.false)) (sym c.state_ok.ensures ∙ c.if-not-state_ok.false)
    (output_short_lem _ _ (omega arith))

pub returns : goal.returns
unfolding table_run
returns c =
    c.ticks.ensures
    ∙ goes_on_lem _ _ _ _ _ _ _ _ (no_refusal _ (sym c.table_ok.ensures ∙ c.if-not-table_ok.false)) (sym c.state_ok.ensures ∙ c.if-not-state_ok.false)
    (output_room_lem _ _ (omega arith))
