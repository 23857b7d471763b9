-- `sets::modes::U32Set::without_lowest` meets its contract: the set less one agrees with it above its lowest member, and not there. Assumes
-- nothing.
use Rattle.sets.proofs.Members.{without_lowest_lem}
use Rattle.sets.proofs.modes.U32Set.without_lowest.Goals as goal

pub returns-clause-left : goal.returns-clause-left
returns-clause-left c = without_lowest_lem 32 c.args.self c.ranges.self.fits c.requires
