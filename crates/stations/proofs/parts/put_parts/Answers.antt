-- `stations::parts::put_parts` meets its contract. Assumes nothing.
use Rattle.stations.proofs.PartLaws.{parts_stored}
use Rattle.stations.proofs.parts.put_parts.Goals as goal

pub returns : goal.returns
returns c = parts_stored c.args.work.now c.args.at c.args.s c.requires.0 c.requires.1
