-- Document 02, Ask 11, "Nobody overstays": what is promised of the ticks of a sheet and of the runs of a table. Assumes nothing.
use Rattle.std.specs.Prelude.{◌≡◌, Bool, false, ℕ, suc, ◌+◌, ◌<◌, T, length, take}
use mathlib.Core.List.{List, map, flatten}
use Rattle.sets.specs.Sets.{has, some}
use Rattle.meaning.specs.Sheet.{t_of, source}
use Rattle.meaning.specs.Check.{sheet_refusal}
use Rattle.meaning.specs.Reaction.{is_delay, delay, is_timer}
use Rattle.meaning.specs.Run.{State, power_on, entered_in, exited_in, Run}
use Rattle.meaning.specs.SheetRun.{state_ok, sheet_ticks, sheet_at}
use Rattle.meaning.specs.Table.{mask_in}
use Rattle.meaning.specs.TableRun.{table_at}
use Rattle.meaning.specs.Compile.{compile}
use Rattle.meaning.specs.WholeList.{Call, runs_from, done_words, all_done, done_by, run_of}
use Rattle.meaning.specs.Acceptance.{Accepted}

-- "some tick from j + 1 to j + d has it in its exited set": of the mode m, by the words of the done ticks
unfoldable pub left_within : List ℕ → ℕ → ℕ → ℕ → Bool
left_within words m j d = some d (λ i. has (exited_in words (j + 1 + i)) m)

-- s: the sheet; done: how many ticks are done; words: theirs; at_end: the modes that are active at the end of each tick. Ticks are
-- counted from 0.
pub record KeepsTimeouts (s : List ℕ) (done : ℕ) (words : List ℕ) (at_end : ℕ → ℕ) : Type 0 where
  -- "if a mode with a timer of delay d leaving it is active at the end of tick j and was last entered in tick j, and d further ticks
  -- are done, some tick from j + 1 to j + d has it in its exited set"
  pub timeout : (t j : ℕ) → t < t_of s → T (is_timer s t)
      → T (has (at_end j) (source s t)) → T (has (entered_in words j) (source s t)) → j + delay s t < done
      → T (left_within words (source s t) j (delay s t))
  -- "A mode with a delay-0 transition is never active at a tick's end."
  pub never : (t j : ℕ) → t < t_of s → T (is_delay s t) → delay s t ≡ 0 → j < done → has (at_end j) (source s t) ≡ false

-- "For an accepted sheet and any legal inputs": any sheet past 1 to 6, on any input sets, from power-on or any other state that is not
-- refused 14; a refused tick ends the ticks that are done
unfoldable pub SheetKeepsTimeouts : Type 0
SheetKeepsTimeouts =
    (s : List ℕ) → sheet_refusal s ≡ 0 → (q : State) → T (state_ok s q) → (inputs : List ℕ)
    → KeepsTimeouts s (sheet_ticks s inputs q).done (sheet_ticks s inputs q).words (λ j. (sheet_at s inputs q (suc j)).at)

-- the table w on the calls cs from power-on, for the sheet s. Ticks are counted over the whole list of calls.
module _ (s w : List ℕ) (cs : List Call) where
  -- the modes that are active after n ticks: the mask of the block that the first n done sets lead to
  unfoldable pub mask_after : ℕ → ℕ
  mask_after n = mask_in w (table_at w (all_done s cs) power_on n).at

  -- of what the runs rs returned and left
  pub record RunsKeepTimeouts (rs : List Run) : Type 0 where
    pub ticks : KeepsTimeouts s (length (all_done s cs)) (flatten (map done_words rs)) (λ j. mask_after (suc j))
    -- that mask is the one of the block that a run returns
    pub returned : (i : ℕ) → i < length cs → 0 < (run_of rs i).done → mask_in w (run_of rs i).state.at ≡ mask_after (done_by s cs i)

-- "This holds for runs of its compiled table", as for those of any table that is accepted for the sheet: over any list of calls
unfoldable pub AcceptedKeepsTimeouts : Type 0
AcceptedKeepsTimeouts = (s w : List ℕ) → Accepted s w → (cs : List Call) → RunsKeepTimeouts s w cs (runs_from w power_on cs)

unfoldable pub CompiledKeepsTimeouts : Type 0
CompiledKeepsTimeouts =
    (s table work : List ℕ) → (compile s table work).refusal ≡ 0
    → let w = take (compile s table work).table_length (compile s table work).table in
    (cs : List Call) → RunsKeepTimeouts s w cs (runs_from w power_on cs)
