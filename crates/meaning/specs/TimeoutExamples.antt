-- Document 02, Ask 11: modes that are left in time, tick by tick, computed. Assumes nothing.
use Rattle.std.specs.Prelude.{◌≡◌, refl, Bool, true, false, List, [], ◌∷◌, ℕ, suc, length, take, drop}
use Rattle.sets.specs.Sets.{has, digit}
use Rattle.meaning.specs.Lists.{row_from}
use Rattle.meaning.specs.Run.{power_on, entered_in, exited_in}
use Rattle.meaning.specs.SheetRun.{sheet_ticks, sheet_at}
use Rattle.meaning.specs.Table.{mask_in}
use Rattle.meaning.specs.TableRun.{table_ticks, table_at}
use Rattle.meaning.specs.Stations.{StationsRun, serve_stations}
use Rattle.meaning.specs.Compile.{compile}
use Rattle.meaning.specs.Timeouts.{left_within}
use Rattle.meaning.specs.Charts.{atomic, serial, after, present, absent, transition, sheet_of, rings}
use Rattle.meaning.specs.Examples.{sheet, table, lent}
use Rattle.meaning.specs.StationExamples.{new}
use Rattle.meaning.specs.Opened.{opened}

-- quiet (1), or alert (2) while a cry lasts, which sounds (3) for three ticks and is silent (4) after them
abbrev alarm : List ℕ
alarm =
    sheet_of 1 (serial 0 1 ∷ atomic 0 ∷ serial 0 3 ∷ atomic 2 ∷ atomic 2 ∷ [])
    (transition 1 2 (present 0) ∷ transition 3 4 (after 3) ∷ transition 2 1 (absent 0) ∷ [])

-- input sets: a cry that lasts; that ends; that ends and comes again
abbrev lasts : List ℕ
lasts = 0 ∷ 1 ∷ 1 ∷ 1 ∷ 1 ∷ 1 ∷ []

abbrev ends : List ℕ
ends = 0 ∷ 1 ∷ 1 ∷ 0 ∷ 0 ∷ 0 ∷ []

abbrev again : List ℕ
again = 0 ∷ 1 ∷ 0 ∷ 1 ∷ 1 ∷ 1 ∷ 1 ∷ []

-- of the mode m, tick by tick, 1 if so: is it entered, is it exited, is it active at the end
abbrev seen_in : ℕ → List ℕ → (ℕ → ℕ) → ℕ → List (List ℕ)
seen_in ticks words at_end m =
    row_from 0 ticks (λ j. digit (has (entered_in words j) m))
    ∷ row_from 0 ticks (λ j. digit (has (exited_in words j) m))
    ∷ row_from 0 ticks (λ j. digit (has (at_end j) m))
    ∷ []

-- on a sheet, and on a table, from power-on
abbrev seen : List ℕ → List ℕ → ℕ → List (List ℕ)
seen s inputs m = seen_in (length inputs) (sheet_ticks s inputs power_on).words (λ j. (sheet_at s inputs power_on (suc j)).at) m

abbrev seen_in_table : List ℕ → List ℕ → ℕ → List (List ℕ)
seen_in_table w inputs m = seen_in (length inputs) (table_ticks w inputs power_on).words (λ j. mask_in w (table_at w inputs power_on (suc j)).at) m

-- is the mode m left in one of the d ticks after tick j
abbrev left : List ℕ → List ℕ → ℕ → ℕ → ℕ → Bool
left s inputs m j d = left_within (sheet_ticks s inputs power_on).words m j d

-- two stations of the whole example's table, with the sets 0 1 0 0 and 1 0 0, served by two calls of 3 and of 4 ticks
abbrev first_call : StationsRun
first_call = serve_stations table (new 0 4 0 ∷ new 4 3 20 ∷ []) (0 ∷ 1 ∷ 0 ∷ 0 ∷ 1 ∷ 0 ∷ 0 ∷ []) (lent 35) 3

abbrev second_call : StationsRun
second_call = serve_stations table first_call.stations (0 ∷ 1 ∷ 0 ∷ 0 ∷ 1 ∷ 0 ∷ 0 ∷ []) first_call.out 4

pub record TimeoutExamples : Type 0 where
  -- the alarm is a sheet that compile accepts
  pub accepted : (compile alarm (lent 256) (lent 8)).refusal ≡ 0
  -- a timer of three ticks runs out in the third tick after tick 1, and not before
  pub runs_out : seen alarm lasts 3 ≡ (0 ∷ 1 ∷ 0 ∷ 0 ∷ 0 ∷ 0 ∷ []) ∷ (0 ∷ 0 ∷ 0 ∷ 0 ∷ 1 ∷ 0 ∷ []) ∷ (0 ∷ 1 ∷ 1 ∷ 1 ∷ 0 ∷ 0 ∷ []) ∷ []
  pub in_three : left alarm lasts 3 1 3 ≡ true
  pub not_in_two : left alarm lasts 3 1 2 ≡ false
  -- a mode that is left earlier, since a mode that contains it is
  pub earlier : seen alarm ends 3 ≡ (0 ∷ 1 ∷ 0 ∷ 0 ∷ 0 ∷ 0 ∷ []) ∷ (0 ∷ 0 ∷ 0 ∷ 1 ∷ 0 ∷ 0 ∷ []) ∷ (0 ∷ 1 ∷ 1 ∷ 0 ∷ 0 ∷ 0 ∷ []) ∷ []
  pub in_two : left alarm ends 3 1 2 ≡ true
  -- one that is entered again in between: the timer starts again, and runs out three ticks after the second entry
  pub comes_again : seen alarm again 3
      ≡ (0 ∷ 1 ∷ 0 ∷ 1 ∷ 0 ∷ 0 ∷ 0 ∷ []) ∷ (0 ∷ 0 ∷ 1 ∷ 0 ∷ 0 ∷ 0 ∷ 1 ∷ []) ∷ (0 ∷ 1 ∷ 0 ∷ 1 ∷ 1 ∷ 1 ∷ 0 ∷ []) ∷ []
  pub first_entry : left alarm again 3 1 1 ≡ true
  pub second_entry : left alarm again 3 3 3 ≡ true
  pub second_not_in_two : left alarm again 3 3 2 ≡ false
  -- left and entered again within tick 3: it is in the exited set, and a stay begins that ends in tick 5; the table does the same
  pub within_a_tick : seen sheet (0 ∷ 1 ∷ 0 ∷ 1 ∷ 0 ∷ 0 ∷ []) 2
      ≡ (0 ∷ 1 ∷ 0 ∷ 1 ∷ 0 ∷ 0 ∷ []) ∷ (0 ∷ 0 ∷ 0 ∷ 1 ∷ 0 ∷ 1 ∷ []) ∷ (0 ∷ 1 ∷ 1 ∷ 1 ∷ 1 ∷ 0 ∷ []) ∷ []
  pub within_a_tick_in_table : seen_in_table table (0 ∷ 1 ∷ 0 ∷ 1 ∷ 0 ∷ 0 ∷ []) 2 ≡ seen sheet (0 ∷ 1 ∷ 0 ∷ 1 ∷ 0 ∷ 0 ∷ []) 2
  -- the source of a delay of 0 is passed through in each tick, and active at the end of none
  pub passed_through : seen (rings 1) (0 ∷ 0 ∷ 0 ∷ []) 3 ≡ (0 ∷ 1 ∷ 1 ∷ []) ∷ (0 ∷ 1 ∷ 1 ∷ []) ∷ (0 ∷ 0 ∷ 0 ∷ []) ∷ []
  -- stations: each leaves two of its own ticks after the entry, the first in its tick 3, the second in its tick 2, though others'
  -- ticks and the end of a call lie between
  pub spent : (first_call.spent ∷ second_call.spent ∷ []) ≡ 3 ∷ 4 ∷ []
  pub first_station : left_within (take 20 second_call.out) 2 1 2 ≡ true
  pub first_not_before : left_within (take 20 second_call.out) 2 1 1 ≡ false
  pub second_station : left_within (drop 20 second_call.out) 2 0 2 ≡ true
  pub second_not_before : left_within (drop 20 second_call.out) 2 0 1 ≡ false

examples : TimeoutExamples
unfolding opened
examples =
    record {
      accepted = refl;
      runs_out = refl;
      in_three = refl;
      not_in_two = refl;
      earlier = refl;
      in_two = refl;
      comes_again = refl;
      first_entry = refl;
      second_entry = refl;
      second_not_in_two = refl;
      within_a_tick = refl;
      within_a_tick_in_table = refl;
      passed_through = refl;
      spent = refl;
      first_station = refl;
      first_not_before = refl;
      second_station = refl;
      second_not_before = refl;
    }
