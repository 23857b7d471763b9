-- What a table run returns, as the meaning has it. Assumes nothing.
use Rattle.std.specs.Prelude.{◌≡◌, List, [], ◌∷◌, ℕ, ◌+◌, get_or}
use Rattle.meaning.specs.Refusal.{number_or_0}
use Rattle.meaning.specs.Run as meaning
use Rattle.meaning.specs.Table.{offset_in, timers_in}
use Rattle.run.specs.States.{state_of}
use Rattle.recorder.specs.declared.table_run.Ran.{Ran}
use Rattle.recorder.specs.declared.table_run.TableBlock.{TableBlock}

-- what a table run returns, and its output words at exit; a table has no rounds
abbrev pub ran_of : Ran → List ℕ → meaning.Run
ran_of r out =
    record { done = r.done.0; state = state_of r.state; refusal = number_or_0 r.refusal; rounds = 0; out = out }

-- the struct of a block holds what the table says of it
abbrev pub TableBlockOf : List ℕ → TableBlock → Type 0
TableBlockOf w b = (b.at ≡ offset_in w b.number) × (b.timers ≡ timers_in w b.number)

-- the five words of the cell that begins at a place
abbrev pub five_in : List ℕ → ℕ → List ℕ
five_in w cell = get_or w (cell + 1) 0 ∷ get_or w (cell + 2) 0 ∷ get_or w (cell + 3) 0 ∷ get_or w (cell + 4) 0 ∷ get_or w (cell + 5) 0 ∷ []
