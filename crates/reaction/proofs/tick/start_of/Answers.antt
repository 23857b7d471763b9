-- `reaction::tick::start_of` meets its contract. Assumes nothing.
use Rattle.std.proofs.Common.{refl}
use Rattle.reaction.proofs.StartLaws.{start_power_on, start_other}
use Rattle.reaction.proofs.tick.start_of.Goals as goal

pub returns-then-set-eq0 : goal.returns-then-set-eq0
returns-then-set-eq0 c = start_power_on c.args.sheet.now c.args.plan.now c.requires c.if-set-eq0.true refl c.from_set-live.ensures

pub returns : goal.returns
returns c = start_other c.args.sheet.now c.args.plan.now c.requires c.if-set-eq0.false c.from_set-live-2.ensures
