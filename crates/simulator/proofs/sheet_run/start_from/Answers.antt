-- `simulator::sheet_run::start_from` meets its contract. Assumes nothing.
use Rattle.std.proofs.Common.{ℕ, sym, subst}
use Rattle.reaction.specs.Rounds.{StartOf}
use Rattle.reaction.proofs.StartLaws.{start_other}
use Rattle.simulator.proofs.sheet_run.start_from.Goals as goal

pub returns-then-x-eq0 : goal.returns-then-x-eq0
returns-then-x-eq0 c = subst (λ (x : ℕ). StartOf c.args.sheet.now x c.args.first) (sym c.if-x-eq0.true) c.requires.1

pub returns : goal.returns
returns c = start_other c.args.sheet.now c.args.plan.now c.requires.0 c.if-x-eq0.false c.requires.2
