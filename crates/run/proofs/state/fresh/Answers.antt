-- `run::state::fresh` meets its contract. Assumes nothing.
use Rattle.std.proofs.Common.{refl}
use Rattle.meaning.specs.Ages.{no_ages}
use Rattle.meaning.specs.Run.{power_on}
use Rattle.run.proofs.state.fresh.Goals as goal

pub returns : goal.returns
unfolding power_on no_ages
returns c = refl
