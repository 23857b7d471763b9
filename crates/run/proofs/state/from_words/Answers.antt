-- `run::state::from_words` meets its contract. Assumes nothing.
use Rattle.run.specs.States.{state_in}
use Rattle.run.proofs.state.from_words.Goals as goal

pub returns : goal.returns
unfolding state_in
returns c = cc
