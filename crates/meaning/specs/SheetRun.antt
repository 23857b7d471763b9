-- The sheet run. Assumes nothing.
use Rattle.std.specs.Prelude.{Bool, ◌&&◌, ◌||◌, List, [], ◌∷◌, ◌++◌, ℕ, take}
use Rattle.meaning.specs.Lists.{overwritten}
use Rattle.meaning.specs.Sheet.{k_of, source}
use Rattle.meaning.specs.Check.{sheet_refusal}
use Rattle.meaning.specs.Hierarchy.{consistent}
use Rattle.meaning.specs.Reaction.{TickSets, running, delay}
use Rattle.meaning.specs.Tick.{Tick, tick, five_words}
use Rattle.meaning.specs.Alternatives.{numbers_short, tick_numbers}
use Rattle.meaning.specs.Ages.{ages_ok, sums_ok}
use Rattle.meaning.specs.Run.{State, reading, is_fresh, readings_ok, due_timers, next_state, Step, Ticks, ticks, state_at, output_short, Run, run}

-- a sheet run, and the numbers of its transitions at its end
pub record NumberedRun : Type 0 where
  pub run : Run
  pub numbers : List ℕ

module _ (s : List ℕ) where
  -- "a state .. fresh [or] (sheet) consistent with each running reading 1 to its delay and others 0"
  unfoldable pub timers_ok : State → Bool
  timers_ok q = is_fresh q || consistent s q.at && readings_ok (running s q.at) (delay s) q.readings

  -- 14 if not: that, and with Ask 10 the ages and the sums of reading and age
  unfoldable pub state_ok : State → Bool
  state_ok q =
      timers_ok q && ages_ok q.at q.ages && sums_ok (running s q.at) (source s) (delay s) (reading q.readings) q.ages

  -- the tick from a state on the input i
  unfoldable pub tick_from : State → ℕ → Tick
  tick_from q i = tick s q.at (due_timers (running s q.at) q.readings) i

  -- the state after a tick that left the sets z
  unfoldable pub state_after : State → TickSets → State
  state_after q z = next_state z.modes z.modes (running s z.modes) z.entered (source s) (delay s) q

  -- one tick of a run, refused 8 or 9
  unfoldable pub sheet_step : State → ℕ → Step
  sheet_step q i =
      let o = tick_from q i in
      record { refusal = o.refusal; words = five_words o.sets; rounds = o.rounds; state = state_after q o.sets }

  -- "tick by tick 13, then 8, 9"
  abbrev pub sheet_ticks : List ℕ → State → Ticks
  sheet_ticks inputs q = ticks (k_of s) sheet_step inputs q

  -- the state after the first n sets
  abbrev pub sheet_at : List ℕ → State → ℕ → State
  sheet_at inputs q n = state_at (k_of s) sheet_step inputs q n

  -- the numbers of the tick from a state on the input i
  unfoldable pub numbers_from : State → ℕ → List ℕ
  numbers_from q i = tick_numbers s q.at (due_timers (running s q.at) q.readings) i

  -- those of the ticks of a list of input sets, one tick after the other
  unfoldable pub sheet_numbers : List ℕ → State → List ℕ
  sheet_numbers [] q = []
  sheet_numbers (i ∷ is) q = let r = sheet_numbers is (sheet_step q i).state in numbers_from q i ++ r

  -- a run and its numbers: they "go for each done tick to a lent list beside the output words, set p's from 64p on"
  unfoldable pub with_numbers : State → List ℕ → List ℕ → Run → NumberedRun
  with_numbers q inputs numbers o =
      record { run = o; numbers = overwritten (sheet_numbers (take o.done inputs) q) numbers }

  -- the run of a sheet on a state, a list of input sets, the output words and the numbers: "1 to 6 .., then 14, then 12, then tick by
  -- tick"; 12 is for either list
  unfoldable pub sheet_run : State → List ℕ → List ℕ → List ℕ → NumberedRun
  sheet_run q inputs out numbers =
      let short = output_short inputs out || numbers_short inputs numbers in
      with_numbers q inputs numbers (run (k_of s) sheet_step (sheet_refusal s) (state_ok q) short q inputs out)
