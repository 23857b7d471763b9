-- States and runs, for sheet and table alike. Assumes nothing.
use Rattle.std.specs.Prelude.{Bool, not, ◌&&◌, cond, List, [], ◌∷◌, ◌++◌, ℕ, suc, ◌+◌, ◌-◌, ◌*◌, ◌^◌, eqb, leb, ltb, length, get_or, replicate, take}
use Rattle.sets.specs.Sets.{has, those, every}
use Rattle.meaning.specs.Lists.{row_from, overwritten, refused_if, first_refusal}
use Rattle.meaning.specs.Ages.{no_ages, next_ages}

-- "A state is a mode set and one reading per transition"; in a table run a block number in place of the set. There are 64
-- readings, those at T and above 0. With Ask 10 it has 32 ages too.
pub record State : Type 0 where
  pub at : ℕ
  pub readings : List ℕ
  pub ages : List ℕ

-- the reading of transition t
unfoldable pub reading : List ℕ → ℕ → ℕ
reading readings t = get_or readings t 0

-- "Fresh state: set 0 (table: block 0), all readings 0."
unfoldable pub power_on : State
power_on = record { at = 0; readings = replicate 64 0; ages = no_ages }

unfoldable pub is_fresh : State → Bool
is_fresh q = eqb q.at 0 && every 64 (λ t. eqb (reading q.readings t) 0)

-- "each running reading 1 to its delay and others 0": the running timers as a set, and their delays
unfoldable pub readings_ok : ℕ → (ℕ → ℕ) → List ℕ → Bool
readings_ok timers delay_of readings =
    every 64 (λ t. cond (has timers t) (leb 1 (reading readings t) && leb (reading readings t) (delay_of t)) (eqb (reading readings t) 0))

-- the due timers: "each running reading drops by 1", and is then 0
unfoldable pub due_timers : ℕ → List ℕ → ℕ
due_timers timers readings = those 64 timers (λ t. eqb (reading readings t - 1) 0)

-- the readings after a tick with the timers that run then: a timer "takes its delay if its source was entered, else its lowered
-- reading"; every other reading is 0
unfoldable pub next_readings : ℕ → ℕ → (ℕ → ℕ) → (ℕ → ℕ) → List ℕ → List ℕ
next_readings timers entered source_of delay_of readings =
    row_from 0 64 (λ t. cond (has timers t) (cond (has entered (source_of t)) (delay_of t) (reading readings t - 1)) 0)

-- the state that a tick from q leaves: the mode set or block after it, by the modes that are active there, the timers that run and the
-- modes entered
unfoldable pub next_state : ℕ → ℕ → ℕ → ℕ → (ℕ → ℕ) → (ℕ → ℕ) → State → State
next_state at modes timers entered source_of delay_of q =
    record {
      at = at;
      readings = next_readings timers entered source_of delay_of q.readings;
      ages = next_ages modes entered q.ages;
    }

-- what one tick gives: its refusal (0: it is done), its five words, its rounds (0 for a table, which has none), the state after it
pub record Step : Type 0 where
  pub refusal : ℕ
  pub words : List ℕ
  pub rounds : ℕ
  pub state : State

-- the ticks of a run: those done, the state after them, the refusal, the words of the done ticks, the total of rounds
pub record Ticks : Type 0 where
  pub done : ℕ
  pub state : State
  pub refusal : ℕ
  pub words : List ℕ
  pub rounds : ℕ

-- by the words of done ticks, the modes that tick j, counted from 0, enters and those that it exits
unfoldable pub entered_in : List ℕ → ℕ → ℕ
entered_in words j = get_or words (5 * j) 0

unfoldable pub exited_in : List ℕ → ℕ → ℕ
exited_in words j = get_or words (5 * j + 1) 0

-- no tick is done
unfoldable pub stops : ℕ → State → Ticks
stops e q = record { done = 0; state = q; refusal = e; words = []; rounds = 0 }

-- a done tick, and those after it
unfoldable pub tick_then : Step → Ticks → Ticks
tick_then o on =
    record { done = suc on.done; state = on.state; refusal = on.refusal; words = o.words ++ on.words; rounds = o.rounds + on.rounds }

-- 12: "fewer than 5 output words per input set"
unfoldable pub output_short : List ℕ → List ℕ → Bool
output_short inputs out = ltb (length out) (5 * length inputs)

-- 13: "an input set with a bit at k or above"
unfoldable pub input_foreign : ℕ → ℕ → Bool
input_foreign k i = leb (2 ^ k) i

-- "A run returns the ticks done, the state after them and the refusal", a sheet run its total of rounds too; out: the output
-- words at its end
pub record Run : Type 0 where
  pub done : ℕ
  pub state : State
  pub refusal : ℕ
  pub rounds : ℕ
  pub out : List ℕ

-- "only the five words of each done tick are written, .. those of set p of the list, counted from 0, at 5p"
unfoldable pub ran : List ℕ → Ticks → Run
ran out o =
    record { done = o.done; state = o.state; refusal = o.refusal; rounds = o.rounds; out = overwritten o.words out }

-- k: the input events; step: the tick from a state on an input set
module _ (k : ℕ) (step : State → ℕ → Step) where
  -- "tick by tick 13, then" what the tick itself is refused with
  unfoldable pub tick_refusal : State → ℕ → ℕ
  tick_refusal q i = first_refusal (refused_if (input_foreign k i) 13 ∷ (step q i).refusal ∷ [])

  -- the ticks of a list of input sets from q on; a refused tick leaves the state of the tick before
  unfoldable pub ticks : List ℕ → State → Ticks
  ticks [] q = stops 0 q
  ticks (i ∷ is) q =
      let e = tick_refusal q i in
      let on = tick_then (step q i) (ticks is (step q i).state) in
      cond (eqb e 0) on (stops e q)

  -- the state after the first n sets of a list
  abbrev pub state_at : List ℕ → State → ℕ → State
  state_at is q n = (ticks (take n is) q).state

  -- the run on a state, a list of input sets and the output words: what is refused of the sheet or table itself, "then 14" (a state
  -- that is not admitted), "then 12" (a lent list is too short), "then tick by tick"
  unfoldable pub run : ℕ → Bool → Bool → State → List ℕ → List ℕ → Run
  run refusal admitted short q inputs out =
      let e = first_refusal (refusal ∷ refused_if (not admitted) 14 ∷ refused_if short 12 ∷ []) in
      ran out (cond (eqb e 0) (ticks inputs q) (stops e q))
