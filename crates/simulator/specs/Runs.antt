-- What a sheet run returns, as the meaning has it. Assumes nothing.
use Rattle.std.specs.Prelude.{List, ℕ}
use Rattle.meaning.specs.Refusal.{number_or_0}
use Rattle.meaning.specs.Run as meaning
use Rattle.run.specs.States.{state_of}
use Rattle.run.specs.Counts.{total_of}
use Rattle.simulator.specs.declared.sheet_run.Ran.{Ran}

-- what a sheet run returns, and its output words at exit
abbrev pub ran_of : Ran → List ℕ → meaning.Run
ran_of r out =
    record { done = r.done.0; state = state_of r.state; refusal = number_or_0 r.refusal; rounds = total_of r.rounds; out = out }
