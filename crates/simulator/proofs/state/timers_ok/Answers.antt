-- `simulator::state::timers_ok` meets its contract: at power-on no timer runs, so the readings alone decide; else the set
-- does first. Assumes nothing.
use Rattle.std.proofs.Common.{ℕ, get_or, sym, ap, ◌∙◌}
use Rattle.meaning.specs.Run.{readings_ok}
use Rattle.run.specs.States.{state_of}
use Rattle.simulator.proofs.SheetStateLaws.{timers_inconsistent, timers_fresh, timers_consistent}
use Rattle.simulator.proofs.state.timers_ok.Goals as goal
use Rattle.simulator.proofs.state.timers_ok.Goals.{else-state-ne0-via-then-state-ne0+else-not-is_consistent, else-state-ne0-via-else-state-ne0}

pub returns-then-not-is_consistent : goal.returns-then-not-is_consistent
returns-then-not-is_consistent c =
    timers_inconsistent c.args.sheet.now (state_of c.args.state) c.if-state-ne0.true (sym c.is_consistent.ensures ∙ c.if-not-is_consistent.true)

pub returns : goal.returns
returns c =
    let a = c.args in
    let q = state_of a.state in
    c.readings_ok.ensures
    ∙ ap (λ (y : ℕ). readings_ok y (λ t. get_or a.delays.now t 0) q.readings) c.running.ensures
    ∙ elim c.else-state-ne0.branch [
      | else-state-ne0-via-then-state-ne0+else-not-is_consistent w ↦
          timers_consistent a.sheet.now q c.requires.1 w.if-state-ne0.true (sym w.is_consistent.ensures ∙ w.if-not-is_consistent.false)
      | else-state-ne0-via-else-state-ne0 w ↦ timers_fresh a.sheet.now q c.requires.1 w.if-state-ne0.false
    ]
