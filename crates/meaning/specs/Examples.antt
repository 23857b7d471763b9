-- The examples marked (P) in document 01 and the bench example's five ticks, computed, as one joint check; and others that readings of
-- the document hang on. Assumes nothing.
use Rattle.std.specs.Prelude.{◌≡◌, refl, true, false, List, [], ◌∷◌, ◌++◌, ℕ, ◌+◌, ◌-◌, ◌^◌, replicate, set}
use Rattle.sets.specs.Sets.{single}
use Rattle.meaning.specs.Lists.{row_from}
use Rattle.meaning.specs.Tick.{tick}
use Rattle.meaning.specs.Ages.{no_ages}
use Rattle.meaning.specs.Run.{State, power_on}
use Rattle.meaning.specs.SheetRun.{sheet_run}
use Rattle.meaning.specs.Why.{refused, never_active, never_triggered, gave_way_to, taken_in, why}
use Rattle.meaning.specs.TableRun.{table_run}
use Rattle.meaning.specs.Idle.{idle}
use Rattle.meaning.specs.Compile.{table_words, compile}
use Rattle.meaning.specs.Within.{masks_of}
use Rattle.meaning.specs.Milliseconds.{milliseconds}
use Rattle.meaning.specs.Acceptance.{accept_refusal}
use Rattle.meaning.specs.NamedEvents.{names}
use Rattle.meaning.specs.Charts.{atomic, serial, parallel, after, present, absent, taken, either, transition, sheet_of, rings, table_of}
use Rattle.meaning.specs.Opened.{opened}

-- the whole example's sheet and table
abbrev pub sheet : List ℕ
sheet =
    3 ∷ 1 ∷ 2 ∷ 1 ∷ 0 ∷ 1 ∷ 0 ∷ 0 ∷ 0 ∷ 0 ∷ 0 ∷ 0 ∷ 16 ∷ 4 ∷ 20 ∷ 4 ∷ 1 ∷ 2 ∷ 1 ∷ 0 ∷ 2 ∷ 1 ∷ 0 ∷ 2 ∷ []

abbrev pub table : List ℕ
table =
    1 ∷ 1 ∷ 2 ∷ 3 ∷ 0 ∷ 131074 ∷ 12 ∷ 15 ∷ 27 ∷ 15 ∷ 42 ∷ 27
    ∷ 0 ∷ 0 ∷ 0 ∷ 1 ∷ 3 ∷ 0 ∷ 3 ∷ 0 ∷ 0 ∷ 2 ∷ 7 ∷ 2 ∷ 7 ∷ 1 ∷ 0
    ∷ 3 ∷ 0 ∷ 0 ∷ 1 ∷ 0 ∷ 0 ∷ 3 ∷ 0 ∷ 0 ∷ 2 ∷ 4 ∷ 2 ∷ 7 ∷ 1 ∷ 0
    ∷ 5 ∷ 2 ∷ 0 ∷ 2 ∷ 0 ∷ 0 ∷ 5 ∷ 0 ∷ 0 ∷ 2 ∷ 0 ∷ 0 ∷ 5 ∷ 0 ∷ 0 ∷ 1 ∷ 2 ∷ 4 ∷ 7 ∷ 2 ∷ 0 ∷ 2 ∷ 6 ∷ 6 ∷ 7 ∷ 3 ∷ 0 ∷ []

-- the same table with blocks 1 and 2 in the other order; with block 1 twice
abbrev power_on_block : List ℕ
power_on_block = 0 ∷ 0 ∷ 0 ∷ 2 ∷ 3 ∷ 0 ∷ 3 ∷ 0 ∷ 0 ∷ 1 ∷ 7 ∷ 2 ∷ 7 ∷ 1 ∷ 0 ∷ []

abbrev timer_block : List ℕ
timer_block =
    5 ∷ 2 ∷ 0 ∷ 1 ∷ 0 ∷ 0 ∷ 5 ∷ 0 ∷ 0 ∷ 1 ∷ 0 ∷ 0 ∷ 5 ∷ 0 ∷ 0 ∷ 2 ∷ 2 ∷ 4 ∷ 7 ∷ 2 ∷ 0 ∷ 1 ∷ 6 ∷ 6 ∷ 7 ∷ 3 ∷ 0 ∷ []

abbrev first_block : List ℕ
first_block = 3 ∷ 0 ∷ 0 ∷ 2 ∷ 0 ∷ 0 ∷ 3 ∷ 0 ∷ 0 ∷ 1 ∷ 4 ∷ 2 ∷ 7 ∷ 1 ∷ 0 ∷ []

abbrev reordered : List ℕ
reordered = table_of 1 (0 ∷ 131074 ∷ []) (power_on_block ∷ timer_block ∷ first_block ∷ [])

abbrev doubled : List ℕ
doubled = table_of 1 (0 ∷ 131074 ∷ []) (power_on_block ∷ timer_block ∷ first_block ∷ first_block ∷ [])

-- the bench program's inputs and the words of its five ticks
abbrev inputs : List ℕ
inputs = 0 ∷ 1 ∷ 0 ∷ 0 ∷ 1 ∷ []

abbrev five_ticks : List ℕ
five_ticks = 3 ∷ 0 ∷ 3 ∷ 0 ∷ 0 ∷ 4 ∷ 2 ∷ 7 ∷ 1 ∷ 0 ∷ 0 ∷ 0 ∷ 5 ∷ 0 ∷ 0 ∷ 2 ∷ 4 ∷ 7 ∷ 2 ∷ 0 ∷ 4 ∷ 2 ∷ 7 ∷ 1 ∷ 0 ∷ []

-- lent words, all 7
abbrev pub lent : ℕ → List ℕ
lent n = replicate n 7

-- the refusal of compile with enough memory
abbrev refusal : List ℕ → ℕ
refusal s = (compile s (lent 1000) (lent 10)).refusal

-- two modes in series, 1 first
abbrev two_modes : List (List ℕ)
two_modes = serial 0 1 ∷ atomic 0 ∷ atomic 0 ∷ []

-- 1→2 and 2→1 both on event 0
abbrev to_and_fro : List ℕ
to_and_fro = sheet_of 1 two_modes (transition 1 2 (present 0) ∷ transition 2 1 (present 0) ∷ [])

-- 1→2 on event 0, 2→1 where event 1 is absent
abbrev two_events : List ℕ
two_events = sheet_of 2 two_modes (transition 1 2 (present 0) ∷ transition 2 1 (absent 1) ∷ [])

-- three modes in series, 1 first
abbrev three_modes : List (List ℕ)
three_modes = two_modes ++ (atomic 0 ∷ [])

-- 1→2 and 1→3, each on its term
abbrev fork : List ℕ → List ℕ → List ℕ
fork a b = sheet_of 1 three_modes (transition 1 2 a ∷ transition 1 3 b ∷ [])

-- a serial root with m atomic modes
abbrev flat : ℕ → List ℕ
flat m = sheet_of 0 (serial 0 1 ∷ row_from 0 m (λ i. atomic 0)) []

-- in a parallel mode 1 the region 3 moves inside, 4→5, while the region 6 leaves the whole mode, 6→2, on the same event
abbrev inside_and_leaving : List ℕ
inside_and_leaving =
    sheet_of 1 (serial 0 1 ∷ parallel 0 ∷ atomic 0 ∷ serial 1 4 ∷ atomic 3 ∷ atomic 3 ∷ atomic 1 ∷ [])
    (transition 4 5 (present 0) ∷ transition 6 2 (present 0) ∷ [])

-- its table, which compile does not make
abbrev leaving_table : List ℕ
leaving_table = table_words inside_and_leaving (91 ∷ 5 ∷ [])

-- 1→2 without delay: mode 1 is left as soon as it is entered
abbrev left_at_power_on : List ℕ
left_at_power_on = sheet_of 0 two_modes (transition 1 2 (after 0) ∷ [])

-- one source contains the other and both meet in the root: 1→2 and 3→2, where 1 contains 3
abbrev equal_levels : List ℕ
equal_levels =
    sheet_of 1 (serial 0 1 ∷ serial 0 3 ∷ atomic 0 ∷ atomic 1 ∷ atomic 1 ∷ []) (transition 1 2 (present 0) ∷ transition 3 2 (present 0) ∷ [])

-- three levels, each transition with an event of its own and no source within another: 9→10 meets in 7, 8→6 in 3, 4→2 in the root, where 3
-- contains 7
abbrev three_levels : List ℕ
three_levels =
    sheet_of 3
    (serial 0 1 ∷ parallel 0 ∷ atomic 0 ∷ serial 1 5 ∷ atomic 1 ∷ parallel 3 ∷ atomic 3 ∷ serial 5 9 ∷ atomic 5 ∷ atomic 7 ∷ atomic 7 ∷ [])
    (transition 9 10 (present 0) ∷ transition 8 6 (present 1) ∷ transition 4 2 (present 2) ∷ [])

-- 32 modes, each but the first within the one before
abbrev one_chain : List ℕ
one_chain = sheet_of 0 (serial 0 1 ∷ row_from 1 30 (λ m. serial (m - 1) (m + 1)) ++ (atomic 30 ∷ [])) []

-- the words of one tick from power-on
abbrev first_tick : List ℕ → ℕ → List ℕ
first_tick s i = (sheet_run s power_on (i ∷ []) (lent 5) (lent 64)).run.out

-- one meeting mode strictly contains another: 2→3 on event 0, 3→2 once 0 is taken, and 1→4 once 1 is taken, where 1 contains 2 and 3.
-- In the third round transition 0 is triggered again and gives way to transition 2.
abbrev outer_first : List ℕ
outer_first =
    sheet_of 1 (serial 0 1 ∷ serial 0 2 ∷ atomic 1 ∷ atomic 1 ∷ atomic 0 ∷ [])
    (transition 2 3 (present 0) ∷ transition 3 2 (taken 0) ∷ transition 1 4 (taken 1) ∷ [])

-- two regions: 3→4 on event 0; 5→6 once transition 0 is taken, and 5→7 on event 0. Terms see the sets as the round began, so
-- 5→7 is taken together with 3→4, and 5→6 is never triggered with it.
abbrev as_began : List ℕ
as_began =
    sheet_of 1 (parallel 0 ∷ serial 0 3 ∷ serial 0 5 ∷ atomic 1 ∷ atomic 1 ∷ atomic 2 ∷ atomic 2 ∷ atomic 2 ∷ [])
    (transition 3 4 (present 0) ∷ transition 5 6 (taken 0) ∷ transition 5 7 (present 0) ∷ [])

-- two regions: 3→4 and 7→8 on event 0, and 5→6 once transition 0 is taken, where 5 contains 7 and 8. A round takes 3→4 and 7→8 together,
-- and then 5→6. Document 002 takes one transition and then looks again: with 3→4 first, 5→6 is triggered at once and 7→8 gives way to
-- it, so that 8 is never entered; with 7→8 first it is. In its own rule the order counts.
abbrev outer_triggered : List ℕ
outer_triggered =
    sheet_of 1 (parallel 0 ∷ serial 0 3 ∷ serial 0 5 ∷ atomic 1 ∷ atomic 1 ∷ serial 2 7 ∷ atomic 2 ∷ atomic 5 ∷ atomic 5 ∷ [])
    (transition 3 4 (present 0) ∷ transition 7 8 (present 0) ∷ transition 5 6 (taken 0) ∷ [])

-- two regions: 3→4 once transition 1 is taken, or on event 0, or on event 1; 5→6 on event 0
abbrev three_ways : List ℕ
three_ways =
    sheet_of 2 (parallel 0 ∷ serial 0 3 ∷ serial 0 5 ∷ atomic 1 ∷ atomic 1 ∷ atomic 2 ∷ atomic 2 ∷ [])
    (transition 3 4 (either (taken 1) (either (present 0) (present 1))) ∷ transition 5 6 (present 0) ∷ [])

-- mode 1 is parallel over 2 (3, 4) and 5 (6, 7), 8 is beside it: 3→4 once transition 1 is taken, or on event 0; 6→8 on event 0, to which
-- 3→4 gives way; 8→7 once transition 1 is taken, which enters 3 again
abbrev gives_way_first : List ℕ
gives_way_first =
    sheet_of 1 (serial 0 1 ∷ parallel 0 ∷ serial 1 3 ∷ atomic 2 ∷ atomic 2 ∷ serial 1 6 ∷ atomic 5 ∷ atomic 5 ∷ atomic 0 ∷ [])
    (transition 3 4 (either (taken 1) (present 0)) ∷ transition 6 8 (present 0) ∷ transition 8 7 (taken 1) ∷ [])

-- the numbers of one tick from power-on; the first of a tick's, and those after them 0
abbrev first_numbers : List ℕ → ℕ → List ℕ
first_numbers s i = (sheet_run s power_on (i ∷ []) (lent 5) (lent 64)).numbers

abbrev two_numbers : ℕ → ℕ → List ℕ
two_numbers a b = a ∷ b ∷ replicate 62 0

-- the ages of modes 0 to 2, all others 0
abbrev pub three_ages : ℕ → ℕ → ℕ → List ℕ
three_ages a b c = a ∷ b ∷ c ∷ replicate 29 0

-- a state with mode set x, reading r of transition 1, all others 0, and ages
abbrev pub reading_1 : ℕ → ℕ → List ℕ → State
reading_1 x r ages = record { at = x; readings = 0 ∷ r ∷ replicate 62 0; ages = ages }

-- the state after one tick of the sheet
abbrev sheet_after : State → ℕ → State
sheet_after q i = (sheet_run sheet q (i ∷ []) (lent 5) (lent 64)).run.state

-- the refusals of a state whose readings are all 0: of the sheet with the mode set x, of the table with the block b
abbrev age_refusals : ℕ → ℕ → List ℕ → List ℕ
age_refusals x b ages = (sheet_run sheet (reading_1 x 0 ages) [] [] []).run.refusal ∷ (table_run table (reading_1 b 0 ages) [] []).refusal ∷ []

-- 1→2 and 1→3, both after 2 ticks, mode 1 of some age and the readings 1 and 2
abbrev twins_refusal : ℕ → ℕ
twins_refusal a =
    (sheet_run (fork (after 2) (after 2)) (record { at = 3; readings = 1 ∷ 2 ∷ replicate 62 0; ages = three_ages 0 a 0 }) [] [] []).run.refusal

-- 1→2 on event 0, 2→3 once that is taken, and 2→1 on event 1: mode 2 is entered and left again
abbrev passing : List ℕ
passing = sheet_of 2 three_modes (transition 1 2 (present 0) ∷ transition 2 3 (taken 0) ∷ transition 2 1 (present 1) ∷ [])

-- 1→2, 1→3 and 3→1, all on event 0
abbrev fork_and_back : List ℕ
fork_and_back = sheet_of 1 three_modes (transition 1 2 (present 0) ∷ transition 1 3 (present 0) ∷ transition 3 1 (present 0) ∷ [])

-- 1 contains 2 and 3: 2→3 on event 0; 1→4 after 1 tick, to which it gives way; 4→1 without delay, which enters 2 again
abbrev timer_first : List ℕ
timer_first =
    sheet_of 1 (serial 0 1 ∷ serial 0 2 ∷ atomic 1 ∷ atomic 1 ∷ atomic 0 ∷ [])
    (transition 2 3 (present 0) ∷ transition 1 4 (after 1) ∷ transition 4 1 (after 0) ∷ [])

-- mode 1 is parallel over 2 (3, 4) and 5 (6, 7), 8 and 9 are beside it: 3→4 on event 0; 7→9 once 8→7 is taken; 6→8 on event 0; 8→7 once
-- that is taken, which enters 3 again. 3→4 gives way to 6→8 in the first round and to 7→9, of a lower number, in the third.
abbrev gives_way_twice : List ℕ
gives_way_twice =
    sheet_of 1 (serial 0 1 ∷ parallel 0 ∷ serial 1 3 ∷ atomic 2 ∷ atomic 2 ∷ serial 1 6 ∷ atomic 5 ∷ atomic 5 ∷ atomic 0 ∷ atomic 0 ∷ [])
    (transition 3 4 (present 0) ∷ transition 7 9 (taken 3) ∷ transition 6 8 (present 0) ∷ transition 8 7 (taken 2) ∷ [])

-- modes 2 and 3 are never reached: 2→3 on event 0; or 2→1 and 2→3, both on event 0
abbrev not_reached : List ℕ
not_reached = sheet_of 1 three_modes (transition 2 3 (present 0) ∷ [])

abbrev not_reached_fork : List ℕ
not_reached_fork = sheet_of 1 three_modes (transition 2 1 (present 0) ∷ transition 2 3 (present 0) ∷ [])

-- blocks of such sheets: power-on, and the set of mode 1, of 2 and of 3
abbrev start_1 : List ℕ
start_1 = 0 ∷ 0 ∷ 0 ∷ 1 ∷ 3 ∷ 0 ∷ 3 ∷ 0 ∷ 0 ∷ 1 ∷ 3 ∷ 0 ∷ 3 ∷ 0 ∷ 0 ∷ []

abbrev stays_1 : List ℕ
stays_1 = 3 ∷ 0 ∷ 0 ∷ 1 ∷ 0 ∷ 0 ∷ 3 ∷ 0 ∷ 0 ∷ 1 ∷ 0 ∷ 0 ∷ 3 ∷ 0 ∷ 0 ∷ []

abbrev leaves_2 : List ℕ
leaves_2 = 5 ∷ 0 ∷ 0 ∷ 2 ∷ 0 ∷ 0 ∷ 5 ∷ 0 ∷ 0 ∷ 3 ∷ 8 ∷ 4 ∷ 13 ∷ 1 ∷ 0 ∷ []

abbrev stays_3 : List ℕ
stays_3 = 9 ∷ 0 ∷ 0 ∷ 3 ∷ 0 ∷ 0 ∷ 9 ∷ 0 ∷ 0 ∷ 3 ∷ 0 ∷ 0 ∷ 9 ∷ 0 ∷ 0 ∷ []

-- two regions with timers of 1 and 2 ticks from power-on: the second is never due without the first having been
abbrev two_timers : List ℕ
two_timers =
    sheet_of 0 (parallel 0 ∷ serial 0 3 ∷ serial 0 5 ∷ atomic 1 ∷ atomic 1 ∷ atomic 2 ∷ atomic 2 ∷ []) (transition 3 4 (after 1) ∷ transition 5 6 (after 2) ∷ [])

-- two regions with timers of 1 tick from power-on, always due together: 3→4 and 5→6; and 3→7 once 5→6 is taken
abbrev due_together : List ℕ
due_together =
    sheet_of 0 (parallel 0 ∷ serial 0 3 ∷ serial 0 5 ∷ atomic 1 ∷ atomic 1 ∷ atomic 2 ∷ atomic 2 ∷ atomic 1 ∷ [])
    (transition 3 4 (after 1) ∷ transition 5 6 (after 1) ∷ transition 3 7 (taken 1) ∷ [])

abbrev two_timers_table : List ℕ
two_timers_table = (compile two_timers (lent 91) (lent 4)).table

pub record Examples : Type 0 where
  -- the sheet as it is drawn; "this table"; "69 words accepted, 68 refused 10; work list 2 accepted, 1 refused 11"; words past the table's and the listed
  -- sets' stay
  pub drawn : sheet_of 1 two_modes (transition 1 2 (present 0) ∷ transition 2 1 (after 2) ∷ []) ≡ sheet
  pub the_table : compile sheet (lent 69) (lent 2) ≡ record { refusal = 0; f = 2; table_length = 69; work = 3 ∷ 5 ∷ []; table = table }
  pub longer : compile sheet (lent 70) (lent 3) ≡ record { refusal = 0; f = 2; table_length = 69; work = 3 ∷ 5 ∷ 7 ∷ []; table = table ++ lent 1 }
  pub short_table : compile sheet (lent 68) (lent 2) ≡ record { refusal = 10; f = 2; table_length = 0; work = 3 ∷ 5 ∷ []; table = lent 68 }
  pub short_work : compile sheet (lent 69) (lent 1) ≡ record { refusal = 11; f = 1; table_length = 0; work = 3 ∷ []; table = lent 69 }
  -- "these five ticks", by sheet run and by table run, in output words with two to spare
  pub sheet_run_lem : (sheet_run sheet power_on inputs (lent 27) (lent 320)).run
      ≡ record { done = 5; state = reading_1 5 2 (three_ages 4 0 0); refusal = 0; rounds = 3; out = five_ticks ++ lent 2 }
  pub table_run_lem : table_run table power_on inputs (lent 27)
      ≡ record { done = 5; state = reading_1 2 2 (three_ages 4 0 0); refusal = 0; rounds = 0; out = five_ticks ++ lent 2 }
  -- "input 1 at tick 3 gives 6 6 7 3 0"
  pub input_at_3 : (table_run table power_on (0 ∷ 1 ∷ 0 ∷ 1 ∷ []) (lent 20)).out
      ≡ 3 ∷ 0 ∷ 3 ∷ 0 ∷ 0 ∷ 4 ∷ 2 ∷ 7 ∷ 1 ∷ 0 ∷ 0 ∷ 0 ∷ 5 ∷ 0 ∷ 0 ∷ 6 ∷ 6 ∷ 7 ∷ 3 ∷ 0 ∷ []
  -- Ask 5: the numbers of these five ticks, with two to spare: 1 the alternative of transition 0, 9 the delay of transition 1
  pub example_numbers : (sheet_run sheet power_on inputs (lent 25) (lent 322)).numbers
      ≡ two_numbers 0 0 ++ (two_numbers 1 0 ++ (two_numbers 0 0 ++ (two_numbers 0 9 ++ (two_numbers 1 0 ++ lent 2))))
  -- "the lowest if several do", in the round that took it: the first alternative holds a round later
  pub second_way : first_numbers three_ways 1 ≡ two_numbers 2 1
  pub third_way : first_numbers three_ways 2 ≡ two_numbers 3 0
  pub lowest_way : first_numbers three_ways 3 ≡ two_numbers 2 1
  -- gave way by the second alternative, and was taken by the first two rounds later
  pub own_round : first_numbers gives_way_first 1 ≡ 1 ∷ 1 ∷ 1 ∷ replicate 61 0
  -- "fewer than 64 per input set is 12": too few words, too few numbers; nothing is written
  pub words_short : sheet_run sheet power_on (1 ∷ 0 ∷ []) (lent 9) (lent 128)
      ≡ record { run = record { done = 0; state = power_on; refusal = 12; rounds = 0; out = lent 9 }; numbers = lent 128 }
  pub numbers_short_lem : sheet_run sheet power_on (1 ∷ 0 ∷ []) (lent 10) (lent 127)
      ≡ record { run = record { done = 0; state = power_on; refusal = 12; rounds = 0; out = lent 10 }; numbers = lent 127 }
  -- the numbers of a refused tick stay
  pub refused_numbers : (sheet_run sheet power_on (1 ∷ 2 ∷ []) (lent 10) (lent 128)).numbers ≡ two_numbers 1 0 ++ lent 64
  -- Ask 1: never triggered; never active; taken; a source that the last round entered is active
  pub never_triggered_lem : why sheet power_on 0 0 ≡ never_triggered
  pub never_active_lem : why sheet power_on 0 1 ≡ never_active
  pub by_event : why sheet power_on 1 0 ≡ taken_in 1 1
  pub entered_last : why sheet power_on 1 1 ≡ never_triggered
  -- a due timer, and then 1→2 in the second round
  pub by_delay : why sheet (reading_1 5 1 (three_ages 0 0 1)) 1 1 ≡ taken_in 1 9
  pub second_round : why sheet (reading_1 5 1 (three_ages 0 0 1)) 1 0 ≡ taken_in 2 1
  -- "16, after 14 and before 13"
  pub why_no_words : why [] (reading_1 9 0 no_ages) 2 2 ≡ refused 1
  pub why_state : why sheet (reading_1 9 0 no_ages) 2 2 ≡ refused 14
  pub why_transition : why sheet power_on 2 2 ≡ refused 16
  pub why_input : why sheet power_on 2 1 ≡ refused 13
  -- "A refused tick reports its refusal only": of one taken in its first round, and of one whose source is never active
  pub why-restless : why to_and_fro power_on 1 0 ≡ refused 9
  pub why-ambiguous : why fork_and_back power_on 1 2 ≡ refused 8
  -- a source that is entered and left again was active
  pub passed_through : why passing power_on 1 2 ≡ never_triggered
  -- "the lowest-numbered transition it gave way to", although that one gives way itself
  pub gave_way_lowest : why three_levels power_on 7 0 ≡ gave_way_to 1
  pub gave_way_middle : why three_levels power_on 7 1 ≡ gave_way_to 2
  pub taken_highest : why three_levels power_on 7 2 ≡ taken_in 1 1
  -- "If it both gave way and was taken, taken is reported.": first the one, or first the other
  pub gave_way_before : why gives_way_first power_on 1 0 ≡ taken_in 3 1
  pub gave_way_to_timer : why timer_first (reading_1 7 1 no_ages) 1 0 ≡ taken_in 3 1
  pub gave_way_after : why outer_first power_on 1 0 ≡ taken_in 1 1
  -- "in the first such round"
  pub gave_way_twice : why gives_way_twice power_on 1 0 ≡ gave_way_to 2
  -- Ask 10: "reading plus age of its source is its delay" of a sheet's state, in a report too, not of a table's; the modes that the tick
  -- enters and leaves are 0 old
  pub sum_broken : (sheet_run sheet (reading_1 5 1 no_ages) [] [] []).run.refusal ≡ 14
  pub sum_broken_why : why sheet (reading_1 5 1 no_ages) 1 1 ≡ refused 14
  pub sum_kept : (sheet_run sheet (reading_1 5 1 (three_ages 0 0 1)) (0 ∷ []) (lent 5) (lent 64)).run
      ≡ record { done = 1; state = reading_1 3 0 (three_ages 1 0 0); refusal = 0; rounds = 1; out = 2 ∷ 4 ∷ 7 ∷ 2 ∷ 0 ∷ [] }
  pub sum_of_table : table_run table (reading_1 2 1 no_ages) (0 ∷ []) (lent 5)
      ≡ record { done = 1; state = reading_1 1 0 (three_ages 1 0 0); refusal = 0; rounds = 0; out = 2 ∷ 4 ∷ 7 ∷ 2 ∷ 0 ∷ [] }
  -- two timers of one source whose readings are apart, with any age
  pub twins_apart : row_from 0 4 twins_refusal ≡ replicate 4 14
  -- a mode that is left and entered again in one tick; a child older than its parent; "stopping at 65,535"
  pub entered_again : sheet_after (reading_1 5 1 (three_ages 0 0 1)) 1 ≡ reading_1 5 2 (three_ages 1 0 0)
  pub older_child : sheet_after (reading_1 3 0 (three_ages 0 9 0)) 0 ≡ reading_1 3 0 (three_ages 1 10 0)
  pub age-stops : sheet_after (reading_1 3 0 (three_ages 65535 65534 0)) 0 ≡ reading_1 3 0 (three_ages 65535 65535 0)
  -- "a mode ages by one unless its cell enters it or the next block lacks it": also one that the block before lacked
  pub not_entered : (table_run (set table 16 1) power_on (0 ∷ []) (lent 5)).state ≡ reading_1 1 0 (three_ages 0 1 0)
  -- "an age above 65,535, or a nonzero one of an inactive mode or in the fresh state": of mode 0, of mode 2, of mode 3, which is none
  pub age_above : age_refusals 3 1 (three_ages 65536 0 0) ≡ 14 ∷ 14 ∷ []
  pub age_inactive : age_refusals 3 1 (three_ages 0 0 1) ≡ 14 ∷ 14 ∷ []
  pub age_of_none : age_refusals 3 1 (set no_ages 3 1) ≡ 14 ∷ 14 ∷ []
  pub age_fresh : age_refusals 0 0 (three_ages 1 0 0) ≡ 14 ∷ 14 ∷ []
  pub age-highest : age_refusals 3 1 (three_ages 65535 0 0) ≡ 0 ∷ 0 ∷ []
  -- Ask 4: our own table, "Blocks may be in another order than ours", not another sheet's; "no mask stands twice"
  pub own_accepted : accept_refusal sheet table ≡ 0
  pub reordered_accepted : accept_refusal sheet reordered ≡ 0
  pub other_sheet : accept_refusal to_and_fro table ≡ 17
  pub mask_twice : accept_refusal sheet doubled ≡ 17
  -- 1 to 6, then 15, then 17: no words; block 0 with a mask; a mask with a bit at n
  pub no_words : accept_refusal [] [] ≡ 1
  pub no_table : accept_refusal sheet [] ≡ 15
  pub mask_of_block_0 : accept_refusal sheet (set table 12 3) ≡ 15
  pub mask_above_n : accept_refusal sheet (set table 27 11) ≡ 17
  -- "may include sets that power-on never reaches"; a cell whose tick is ambiguous has no true result
  pub with_not_reached : accept_refusal not_reached (table_of 1 (0 ∷ []) (start_1 ∷ stays_1 ∷ leaves_2 ∷ stays_3 ∷ [])) ≡ 0
  pub without_ambiguous : accept_refusal not_reached_fork (table_of 1 (0 ∷ 0 ∷ []) (start_1 ∷ stays_1 ∷ [])) ≡ 0
  pub with_ambiguous : accept_refusal not_reached_fork (table_of 1 (0 ∷ 0 ∷ []) (start_1 ∷ stays_1 ∷ leaves_2 ∷ stays_3 ∷ [])) ≡ 17
  -- every cell counts: of the second timer due alone, which no clock brings, too
  pub all_cells : accept_refusal two_timers two_timers_table ≡ 0
  pub cell_not_brought : accept_refusal two_timers (set two_timers_table 43 0) ≡ 17
  -- (P): a sheet that is accepted has no idle arrow
  -- "1→2 and 2→1 both on event 0: 9; 1→2 and 1→3 both on event 0: 8, on present and absent: accepted"
  pub both_ways : refusal to_and_fro ≡ 9
  pub both_present : refusal (fork (present 0) (present 0)) ≡ 8
  pub present-absent : refusal (fork (present 0) (absent 0)) ≡ 0
  -- "six concurrent timers accepted, seven: 7"
  pub six_timers : refusal (rings 6) ≡ 0
  pub seven_timers : refusal (rings 7) ≡ 7
  -- "n = 1 accepted, n = 0 and 33: 1"; 32 accepted
  pub one_mode : refusal (sheet_of 0 (atomic 0 ∷ []) []) ≡ 0
  pub no_mode : refusal (sheet_of 0 [] []) ≡ 1
  pub modes_32 : refusal (flat 31) ≡ 0
  pub modes_33 : refusal (flat 32) ≡ 1
  -- Ask 2: "in a parallel mode, one region moving inside while another leaves the whole mode on the same event" "becomes accepted, with the
  -- leaving transition taken"; Ask 8: "The last (P) example, if its inner arrow always gives way, is then refused", with no table words as
  -- well; "work list as for 10"
  pub leaving_taken : first_tick inside_and_leaving 1 ≡ 95 ∷ 90 ∷ 95 ∷ 2 ∷ 0 ∷ []
  pub inner_idle : idle inside_and_leaving (91 ∷ 5 ∷ []) ≡ single 0
  pub leaving : compile inside_and_leaving (lent 57) (lent 3)
      ≡ record { refusal = 21; f = 2; table_length = 0; work = 91 ∷ 5 ∷ 7 ∷ []; table = lent 57 }
  pub idle_no_table : compile inside_and_leaving [] (lent 2) ≡ record { refusal = 21; f = 2; table_length = 0; work = 91 ∷ 5 ∷ []; table = [] }
  -- "after the walk's 7, 8, 9 and 11, before 10": a full work list comes first; where no arrow is idle 10 follows
  pub full_before_idle : (compile inside_and_leaving [] (lent 1)).refusal ≡ 11
  pub short_after_idle : compile sheet [] (lent 2) ≡ record { refusal = 10; f = 2; table_length = 0; work = 3 ∷ 5 ∷ []; table = [] }
  -- cells of block 0 count, and of due combinations that no clock brings
  pub at_power_on : refusal left_at_power_on ≡ 0
  pub not_together : refusal due_together ≡ 0
  -- "sheet runs and Ask 4 keep the old admission"
  pub idle_accepted : accept_refusal inside_and_leaving leaving_table ≡ 0
  pub leaving_in_table : (table_run leaving_table power_on (1 ∷ []) (lent 5)).out ≡ 95 ∷ 90 ∷ 95 ∷ 2 ∷ 0 ∷ []
  -- "of equal meeting modes neither gives way, even where one source contains the other": 8, which document 01 accepts
  pub neither : refusal equal_levels ≡ 8
  -- of three levels the highest that is triggered is taken
  pub levels_accepted : refusal three_levels ≡ 0
  pub level_lowest : first_tick three_levels 1 ≡ 1979 ∷ 512 ∷ 1979 ∷ 1 ∷ 0 ∷ []
  pub level_middle : first_tick three_levels 3 ≡ 1019 ∷ 928 ∷ 1019 ∷ 2 ∷ 0 ∷ []
  pub level_highest : first_tick three_levels 7 ≡ 959 ∷ 954 ∷ 959 ∷ 4 ∷ 0 ∷ []
  -- Ask 3: the masks, 0 for a mode with none within it and for a number that is no mode; a mode is not within itself
  pub masks : masks_of sheet ≡ record { refusal = 0; masks = 6 ∷ replicate 31 0 }
  pub masks_of_levels : masks_of three_levels ≡ record { refusal = 0; masks = 2046 ∷ 2040 ∷ 0 ∷ 2016 ∷ 0 ∷ 1920 ∷ 0 ∷ 1536 ∷ replicate 24 0 }
  pub masks_of_chain : masks_of one_chain ≡ record { refusal = 0; masks = row_from 0 32 (λ p. 2 ^ 32 - 2 ^ (p + 1)) }
  pub no_masks : masks_of [] ≡ record { refusal = 1; masks = replicate 32 0 }
  -- Ask 7: a delay shorter than the tick is 0 ticks; 12 before 20; tick lengths of 0; 65,535 ticks and one more; words past the delays' stay
  pub in_ticks_lem : milliseconds 100 (250 ∷ 99 ∷ 300 ∷ []) (lent 7) ≡ record { refusal = 0; results = 2 ∷ 50 ∷ 0 ∷ 99 ∷ 3 ∷ 0 ∷ 7 ∷ [] }
  pub results_short_lem : milliseconds 0 (250 ∷ []) (lent 1) ≡ record { refusal = 12; results = lent 1 }
  pub tick_of_0 : milliseconds 0 [] (lent 1) ≡ record { refusal = 20; results = lent 1 }
  pub most_ticks_lem : milliseconds 10 (5 ∷ 655359 ∷ []) (lent 4) ≡ record { refusal = 0; results = 0 ∷ 5 ∷ 65535 ∷ 9 ∷ [] }
  pub too_many_ticks : milliseconds 10 (5 ∷ 655360 ∷ []) (lent 4) ≡ record { refusal = 20; results = lent 4 }
  -- the events that a transition names. Event 1 is named by 2→1 alone: it makes no difference to a tick in which mode 2 is not active, and
  -- it does to one in which it is.
  pub names-present : names two_events 0 0 ≡ true
  pub names-absent : names two_events 1 1 ≡ true
  pub names_no_other : names two_events 0 1 ≡ false
  pub not_named : tick two_events 3 0 0 ≡ tick two_events 3 0 2
  pub named_once_active : (tick two_events 3 0 1).refusal ≡ 9
  pub named-present : (tick two_events 3 0 3).refusal ≡ 0
  -- taken, triggered again and giving way: not among the document's examples
  pub outer_taken : (sheet_run outer_first power_on (0 ∷ 1 ∷ []) (lent 10) (lent 128)).run.out ≡ 7 ∷ 0 ∷ 7 ∷ 0 ∷ 0 ∷ 28 ∷ 14 ∷ 31 ∷ 7 ∷ 0 ∷ []
  -- sets as the round began, and a round against a step of document 002: not among the document's examples either
  pub judged_as_began : (sheet_run as_began power_on (1 ∷ []) (lent 5) (lent 64)).run.out ≡ 191 ∷ 40 ∷ 191 ∷ 5 ∷ 0 ∷ []
  pub round_not_step : (sheet_run outer_triggered power_on (0 ∷ 1 ∷ []) (lent 10) (lent 128)).run.out ≡ 175 ∷ 0 ∷ 175 ∷ 0 ∷ 0 ∷ 336 ∷ 424 ∷ 511 ∷ 7 ∷ 0 ∷ []

examples : Examples
unfolding opened
examples =
    record {
      drawn = refl;
      the_table = refl;
      longer = refl;
      short_table = refl;
      short_work = refl;
      sheet_run_lem = refl;
      table_run_lem = refl;
      input_at_3 = refl;
      example_numbers = refl;
      second_way = refl;
      third_way = refl;
      lowest_way = refl;
      own_round = refl;
      words_short = refl;
      numbers_short_lem = refl;
      refused_numbers = refl;
      never_triggered_lem = refl;
      never_active_lem = refl;
      by_event = refl;
      entered_last = refl;
      by_delay = refl;
      second_round = refl;
      why_no_words = refl;
      why_state = refl;
      why_transition = refl;
      why_input = refl;
      why-restless = refl;
      why-ambiguous = refl;
      passed_through = refl;
      gave_way_lowest = refl;
      gave_way_middle = refl;
      taken_highest = refl;
      gave_way_before = refl;
      gave_way_to_timer = refl;
      gave_way_after = refl;
      gave_way_twice = refl;
      sum_broken = refl;
      sum_broken_why = refl;
      sum_kept = refl;
      sum_of_table = refl;
      twins_apart = refl;
      entered_again = refl;
      older_child = refl;
      age-stops = refl;
      not_entered = refl;
      age_above = refl;
      age_inactive = refl;
      age_of_none = refl;
      age_fresh = refl;
      age-highest = refl;
      own_accepted = refl;
      reordered_accepted = refl;
      other_sheet = refl;
      mask_twice = refl;
      no_words = refl;
      no_table = refl;
      mask_of_block_0 = refl;
      mask_above_n = refl;
      with_not_reached = refl;
      without_ambiguous = refl;
      with_ambiguous = refl;
      all_cells = refl;
      cell_not_brought = refl;
      both_ways = refl;
      both_present = refl;
      present-absent = refl;
      six_timers = refl;
      seven_timers = refl;
      one_mode = refl;
      no_mode = refl;
      modes_32 = refl;
      modes_33 = refl;
      leaving_taken = refl;
      inner_idle = refl;
      leaving = refl;
      idle_no_table = refl;
      full_before_idle = refl;
      short_after_idle = refl;
      at_power_on = refl;
      not_together = refl;
      idle_accepted = refl;
      leaving_in_table = refl;
      neither = refl;
      levels_accepted = refl;
      level_lowest = refl;
      level_middle = refl;
      level_highest = refl;
      masks = refl;
      masks_of_levels = refl;
      masks_of_chain = refl;
      no_masks = refl;
      in_ticks_lem = refl;
      results_short_lem = refl;
      tick_of_0 = refl;
      most_ticks_lem = refl;
      too_many_ticks = refl;
      names-present = refl;
      names-absent = refl;
      names_no_other = refl;
      not_named = refl;
      named_once_active = refl;
      named-present = refl;
      outer_taken = refl;
      judged_as_began = refl;
      round_not_step = refl;
    }
