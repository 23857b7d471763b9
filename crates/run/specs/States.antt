-- States as the meaning has them: of the struct, by the deadlines of timers and the limits of ages, as lent words. Assumes nothing.
use Rattle.std.specs.Prelude.{cond, List, ◌∷◌, ◌++◌, ℕ, ◌-◌, ◌%◌, ◌^◌, get_or, take, drop}
use Rattle.sets.specs.Sets.{has}
use Rattle.meaning.specs.Lists.{row_from}
use Rattle.meaning.specs.Run as meaning
use Rattle.run.specs.Entries.{ages_by}
use Rattle.run.specs.declared.state.State.{State}

-- a mode set (or block), 64 readings and 32 ages
abbrev pub state_of : State → meaning.State
state_of q = record { at = q.at; readings = q.readings; ages = q.ages }

-- the state after a tick in a mode set (or block), by the deadlines of the timers that run and the ticks in which the ages of
-- the active modes reach their limit
abbrev pub state_by : List ℕ → List ℕ → ℕ → ℕ → ℕ → ℕ → meaning.State
state_by ends limits at active timers tick =
    record {
      at = at;
      readings = row_from 0 64 (λ t. cond (has timers t) ((get_or ends t 0 - tick) % 2 ^ 32) 0);
      ages = ages_by limits active tick;
    }

-- the words of a state, and how many they are
abbrev pub state_words : ℕ
state_words = 97

unfoldable pub words_of : meaning.State → List ℕ
words_of q = q.at ∷ (q.readings ++ q.ages)

-- the state that as many words hold
unfoldable pub state_in : List ℕ → meaning.State
state_in words = record { at = get_or words 0 0; readings = take 64 (drop 1 words); ages = take 32 (drop 65 words) }
