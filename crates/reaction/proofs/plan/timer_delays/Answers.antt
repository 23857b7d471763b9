-- `reaction::plan::timer_delays` meets its contract. Assumes nothing.
use Rattle.std.proofs.Common.{arith}
use Rattle.meaning.proofs.ListLaws.{row_done}
use Rattle.reaction.specs.Plan.{timer_delay}
use Rattle.reaction.proofs.plan.timer_delays.Goals as goal

pub returns : goal.returns
returns c = row_done (timer_delay c.args.sheet.now) c.args.plan.now.delays 64 (omega arith) c.requires.delays_at
