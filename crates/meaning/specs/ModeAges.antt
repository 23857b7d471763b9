-- Document 02, Ask 10: what is promised of ages besides those that demand 3's runs return (`RunRight`). Assumes nothing.
use Rattle.std.specs.Prelude.{◌≡◌, false, List, ℕ, suc, ◌+◌, ◌*◌, ◌≤◌, ◌<◌, min, T, length, get_or, take}
use Rattle.sets.specs.Sets.{has}
use Rattle.meaning.specs.Sheet.{source}
use Rattle.meaning.specs.Check.{sheet_refusal}
use Rattle.meaning.specs.Reaction.{delay, running}
use Rattle.meaning.specs.Ages.{age, next_ages}
use Rattle.meaning.specs.Run.{State, reading, power_on, Run}
use Rattle.meaning.specs.SheetRun.{state_ok, sheet_ticks, sheet_run}
use Rattle.meaning.specs.Why.{why}
use Rattle.meaning.specs.Table.{source_in, delay_in, timers_in}
use Rattle.meaning.specs.TableRun.{table_state_ok, table_run}
use Rattle.meaning.specs.Compile.{compile}
use Rattle.meaning.specs.WholeList.{Call, runs_from, run_of}
use Rattle.meaning.specs.Acceptance.{Accepted}

-- ---- "per mode the ticks since its last entry"

-- of a sheet's ticks on a list of input sets from power-on, counted from 0: the modes that tick j enters, and the state after it
module _ (s inputs : List ℕ) where
  unfoldable pub entered_in : ℕ → ℕ
  entered_in j = get_or (sheet_ticks s inputs power_on).words (5 * j) 0

  unfoldable pub state_by : ℕ → State
  state_by j = (sheet_ticks s (take (suc j) inputs) power_on).state

-- a mode that tick j enters, none of the k ticks after it enters, and that is active at their end is k old, or 65,535
unfoldable pub AgeSince : Type 0
AgeSince =
    (s inputs : List ℕ) (m j k : ℕ) → m < 32 → j + k < (sheet_ticks s inputs power_on).done
    → T (has (entered_in s inputs j) m)
    → ((i : ℕ) → j < i → i ≤ j + k → has (entered_in s inputs i) m ≡ false)
    → T (has (state_by s inputs (j + k)).at m)
    → age (state_by s inputs (j + k)).ages m ≡ min 65535 k

-- "stopping at 65,535": an age that has stopped stays while the mode is active and is not entered
unfoldable pub AgeStays : Type 0
AgeStays =
    (modes entered : ℕ) (ages : List ℕ) (m : ℕ) → m < 32 → T (has modes m) → has entered m ≡ false → age ages m ≡ 65535
    → age (next_ages modes entered ages) m ≡ 65535

-- ---- reading plus age

-- "From power-on, for every running timer of a sheet, .. reading plus age of its source is its delay"
unfoldable pub SumsInSheet : Type 0
SumsInSheet =
    (s : List ℕ) → sheet_refusal s ≡ 0 → (inputs : List ℕ) (t : ℕ)
    → let q = (sheet_ticks s inputs power_on).state in
    T (has (running s q.at) t) → reading q.readings t + age q.ages (source s t) ≡ delay s t

-- the same of a state of the table w, by the table's own sources and delays
unfoldable pub TableSums : List ℕ → State → Type 0
TableSums w q =
    (t : ℕ) → T (has (timers_in w q.at) t) → reading q.readings t + age q.ages (source_in w t) ≡ delay_in w t

-- ".. or of a table that our compiler made or Ask 4 accepts": what each run of a list of calls returns, refused or not
unfoldable pub SumsInAccepted : Type 0
SumsInAccepted =
    (s w : List ℕ) → Accepted s w → (cs : List Call) (j : ℕ) → j < length cs
    → TableSums w (run_of (runs_from w power_on cs) j).state

unfoldable pub SumsInCompiled : Type 0
SumsInCompiled =
    (s table work : List ℕ) → (compile s table work).refusal ≡ 0
    → let w = take (compile s table work).table_length (compile s table work).table in
    (cs : List Call) (j : ℕ) → j < length cs → TableSums w (run_of (runs_from w power_on cs) j).state

-- ---- "States not refused 14 that differ only in age give equal output words"

-- states that differ only in age
pub record ButAges (q p : State) : Type 0 where
  pub at : q.at ≡ p.at
  pub readings : q.readings ≡ p.readings

-- runs that differ only in the ages of the state they return: equal output words, ticks done, rounds and refusal
pub record RunsButAges (q p : Run) : Type 0 where
  pub done : q.done ≡ p.done
  pub state : ButAges q.state p.state
  pub refusal : q.refusal ≡ p.refusal
  pub rounds : q.rounds ≡ p.rounds
  pub out : q.out ≡ p.out

-- of a sheet run, its numbers too
unfoldable pub AgesApartInSheet : Type 0
AgesApartInSheet =
    (s : List ℕ) (q p : State) → ButAges q p → T (state_ok s q) → T (state_ok s p) → (inputs out numbers : List ℕ)
    → RunsButAges (sheet_run s q inputs out numbers).run (sheet_run s p inputs out numbers).run
    × ((sheet_run s q inputs out numbers).numbers ≡ (sheet_run s p inputs out numbers).numbers)

unfoldable pub AgesApartInTable : Type 0
AgesApartInTable =
    (w : List ℕ) (q p : State) → ButAges q p → T (table_state_ok w q) → T (table_state_ok w p) → (inputs out : List ℕ)
    → RunsButAges (table_run w q inputs out) (table_run w p inputs out)

-- and of Ask 1: one report
unfoldable pub AgesApartInWhy : Type 0
AgesApartInWhy =
    (s : List ℕ) (q p : State) → ButAges q p → T (state_ok s q) → T (state_ok s p) → (input transition : ℕ)
    → why s q input transition ≡ why s p input transition
