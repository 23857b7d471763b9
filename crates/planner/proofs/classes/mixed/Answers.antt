-- `planner::classes::mixed` meets its contract. Assumes nothing.
use Rattle.std.proofs.Common.{arith}
use Rattle.meaning.proofs.SheetLaws.{sound, t_le}
use Rattle.sheet.proofs.Past.{head_read}
use Rattle.planner.proofs.ClassLaws.{mixed_is}
use Rattle.planner.proofs.classes.mixed.Goals as goal

pub transition_count-requires : goal.transition_count-requires
transition_count-requires c = head_read _ c.requires.0

pub below-requires : goal.below-requires
below-requires c = omega (arith, t_le _ (sound _ c.requires.0))

pub returns : goal.returns
returns c = mixed_is _ c.transition_count.ensures c.below.ensures c.requires.1 c.requires.2 c.minus.ensures
