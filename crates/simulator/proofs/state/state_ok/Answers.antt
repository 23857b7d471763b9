-- `simulator::state::state_ok` meets its contract: each test is a part of `state_ok`, in its order. Assumes nothing.
use Rattle.std.proofs.Common.{sym, ◌∙◌}
use Rattle.sets.proofs.Tests.{of_true}
use Rattle.meaning.proofs.TickLaws.{running_e}
use Rattle.run.specs.States.{state_of}
use Rattle.simulator.proofs.SheetStateLaws.{state_untimed, state_unaged, state_summed}
use Rattle.simulator.proofs.state.state_ok.Goals as goal

pub returns-then-not-timers_ok : goal.returns-then-not-timers_ok
returns-then-not-timers_ok c = state_untimed c.args.sheet.now (state_of c.args.state) (sym c.timers_ok.ensures ∙ c.if-not-timers_ok.true)

pub returns-then-not-ages_ok : goal.returns-then-not-ages_ok
returns-then-not-ages_ok c = state_unaged c.args.sheet.now (state_of c.args.state) (sym c.ages_ok.ensures ∙ c.if-not-ages_ok.true)

pub sums_ok-requires : goal.sums_ok-requires
sums_ok-requires c =
    (c.requires.0.passes, λ t h. (running_e c.args.sheet.now c.args.state.at t (of_true (rw c.running.ensures at h))).small)

pub returns : goal.returns
returns c =
    state_summed c.args.sheet.now (state_of c.args.state) c.requires.1 c.running.ensures (sym c.timers_ok.ensures ∙ c.if-not-timers_ok.false)
    (sym c.ages_ok.ensures ∙ c.if-not-ages_ok.false) c.sums_ok.ensures
