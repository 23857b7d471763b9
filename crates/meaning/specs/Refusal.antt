-- The number of each refusal, by who causes it, with the definition that is its condition. Assumes nothing.
use Rattle.std.specs.Prelude.{ℕ, Option, Some, None, Result, Ok, Err}
use Rattle.meaning.specs.declared.refusal.Refusal.{Refusal}
use Rattle.meaning.specs.declared.refusal.Refusal.TheVariants.{Head, ModeRow, Pair, Ends, Term, SharedEnds, TooManyTimers, Ambiguous, Restless, ShortTable, FullWorkList, ShortOutput, InputSet, State, Layout, Transition, Unfaithful, Stations, Parts, TickRange, IdleArrow}

abbrev pub number_of : Refusal → ℕ
-- whoever draws: 1 to 6 where `head_ok`, `modes_ok`, `pairs_ok`, `ends_ok`, `terms_ok`, `distinct_ok` (Check) fail
number_of Head = 1
number_of ModeRow = 2
number_of Pair = 3
number_of Ends = 4
number_of Term = 5
number_of SharedEnds = 6
-- met in the walk: `timers_many` (Walk); in a tick: `ambiguous`, `restless` (Reaction)
number_of TooManyTimers = 7
number_of Ambiguous = 8
number_of Restless = 9
-- whoever lends memory: a table slice shorter than `table_words` (Compile), `work_list_full` (Walk), `output_short` (Run),
-- `results_short` (Milliseconds)
number_of ShortTable = 10
number_of FullWorkList = 11
number_of ShortOutput = 12
-- whoever operates: `input_foreign` (Run); `state_ok` (SheetRun) or `table_state_ok` (TableRun) fails
number_of InputSet = 13
number_of State = 14
-- whoever brings a table: `table_ok` (Table) fails, or `is_stale` (TableRun) at a tick
number_of Layout = 15
-- whoever asks why a transition stayed put: `no_transition` (Why)
number_of Transition = 16
-- whoever brings a table: `faithful` (Faithful) fails
number_of Unfaithful = 17
-- of a request that has not landed: the number of stations, their parts
number_of Stations = 18
number_of Parts = 19
-- whoever converts milliseconds: `ticks_out_of_range` (Milliseconds)
number_of TickRange = 20
-- whoever draws: `leaves_idle` (Idle)
number_of IdleArrow = 21

-- of a refusal that there may be, 0 where there is none; of a call that is refused or gives its result
abbrev pub number_or_0 : Option Refusal → ℕ
number_or_0 None = 0
number_or_0 (Some why) = number_of why

abbrev pub err_or_0 : {A : Type 0} → Result A Refusal → ℕ
err_or_0 (Ok x) = 0
err_or_0 (Err why) = number_of why
