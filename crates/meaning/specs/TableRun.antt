-- The table run. Assumes nothing.
use Rattle.std.specs.Prelude.{Bool, not, ◌&&◌, ◌||◌, List, [], ◌∷◌, ℕ, ◌+◌, ◌*◌, ◌^◌, eqb, ltb}
use Rattle.sets.specs.Sets.{has, digit, members, some_in}
use Rattle.meaning.specs.Lists.{row_from, refused_if}
use Rattle.meaning.specs.Ages.{ages_ok}
use Rattle.meaning.specs.Run.{State, reading, is_fresh, readings_ok, due_timers, next_state, Step, Ticks, ticks, state_at, output_short, Run, run}
use Rattle.meaning.specs.Table.{k_in, b_in, source_in, delay_in, mask_in, timers_in, cell_word, table_ok}

-- "d is the set of due timers, lowest transition in bit 0": the number that the due ones of the timers ts make
unfoldable pub due_number : List ℕ → ℕ → ℕ
due_number [] due = 0
due_number (t ∷ ts) due = digit (has due t) + 2 * due_number ts due

module _ (w : List ℕ) where
  -- "(table) block below B, nonzero, readings likewise", or fresh
  unfoldable pub table_timers_ok : State → Bool
  table_timers_ok q =
      is_fresh q || ltb 0 q.at && ltb q.at (b_in w) && readings_ok (timers_in w q.at) (delay_in w) q.readings

  -- 14 if not: that, and with Ask 10 the ages
  unfoldable pub table_state_ok : State → Bool
  table_state_ok q = table_timers_ok q && ages_ok (mask_in w q.at) q.ages

  -- "the block's due timers choose the cell", "at number d times 2^k plus the input set"
  unfoldable pub cell_of : State → ℕ → ℕ
  cell_of q i =
      let timers = timers_in w q.at in
      due_number (members 64 timers) (due_timers timers q.readings) * 2 ^ k_in w + i

  -- the state after cell c
  unfoldable pub state_after_cell : State → ℕ → State
  state_after_cell q c =
      let b = cell_word w q.at c 0 in
      next_state b (mask_in w b) (timers_in w b) (cell_word w q.at c 1) (source_in w) (delay_in w) q

  -- 15 at a tick: "a next timer has no reading left and was not entered"
  unfoldable pub is_stale : State → Bool
  is_stale q = some_in 64 (timers_in w q.at) (λ t. eqb (reading q.readings t) 0)

  -- one tick of a run, refused 15
  unfoldable pub table_step : State → ℕ → Step
  table_step q i =
      let c = cell_of q i in
      let next = state_after_cell q c in
      record { refusal = refused_if (is_stale next) 15; words = row_from 1 5 (cell_word w q.at c); rounds = 0; state = next }

  -- "tick by tick 13, then .. 15"
  abbrev pub table_ticks : List ℕ → State → Ticks
  table_ticks inputs q = ticks (k_in w) table_step inputs q

  -- the state after the first n sets
  abbrev pub table_at : List ℕ → State → ℕ → State
  table_at inputs q n = state_at (k_in w) table_step inputs q n

  -- the run of a table on a state, a list of input sets and the output words: "15, then 14, then 12, then tick by tick"
  unfoldable pub table_run : State → List ℕ → List ℕ → Run
  table_run q inputs out = run (k_in w) table_step (refused_if (not (table_ok w)) 15) (table_state_ok q) (output_short inputs out) q inputs out
