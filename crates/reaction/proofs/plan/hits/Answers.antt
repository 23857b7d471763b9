-- `reaction::plan::hits` meets its contract. Assumes nothing.
use Rattle.std.proofs.Common.{ℕ, get_or, ap, ◌∙◌, arith}
use Rattle.reaction.proofs.TriggerLaws.{input_lt}
use Rattle.reaction.proofs.plan.hits.Goals as goal

pub bounds-plan-wide : goal.bounds-plan-wide
bounds-plan-wide c = omega (arith, c.wide.ensures, input_lt _ _ c.requires.0.passes c.requires.1)

pub returns : goal.returns
returns c = ap (λ (w : ℕ). get_or c.args.plan.now.hits w 0) c.wide.ensures ∙ c.requires.0.hits_at c.args.input c.requires.1
