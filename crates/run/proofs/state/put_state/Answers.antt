-- `run::state::put_state` meets its contract. Assumes nothing.
use Rattle.std.proofs.Common.{arith}
use Rattle.run.specs.States.{words_of}
use Rattle.run.proofs.StateWords.{state_put}
use Rattle.run.proofs.state.put_state.Goals as goal

pub returns : goal.returns
unfolding words_of
returns c =
    state_put c.args.words.now _ _ _ _ _ c.copy_from_slice.ensures.after c.copy_from_slice-2.ensures.after (omega arith) (omega arith)
    (omega arith)
