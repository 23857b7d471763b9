-- `stations::parts::parts_within` meets its contract. Assumes nothing.
use Rattle.std.proofs.Common.{sym}
use Rattle.stations.proofs.PartLaws.{within_not_in, within_not_out, within_five}
use Rattle.stations.proofs.parts.parts_within.Goals as goal

pub returns-then-sets-s : goal.returns-then-sets-s
returns-then-sets-s c = sym (within_not_in _ _ _ c.if-sets-s.true)

pub returns-then-words-s : goal.returns-then-words-s
returns-then-words-s c = sym (within_not_out _ _ _ c.if-sets-s.false c.if-words-s.true)

pub returns : goal.returns
returns c = within_five _ _ _ c.if-sets-s.false c.if-words-s.false
