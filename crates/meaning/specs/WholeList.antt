-- Demand 3: one statement over a whole list of table runs. Assumes nothing.
use Rattle.std.specs.Prelude.{◌≡◌, cond, ℕ, zero, suc, ◌*◌, ◌<◌, T, ltb, length, get_or, take, drop}
use mathlib.Core.List.{List, [], ◌∷◌, map, flatten}
use Rattle.meaning.specs.Sheet.{k_of}
use Rattle.meaning.specs.Hierarchy.{consistent}
use Rattle.meaning.specs.Tick.{Tick, five_words}
use Rattle.meaning.specs.Run.{State, power_on, output_short, input_foreign, stops, Run, ran}
use Rattle.meaning.specs.SheetRun.{tick_from, state_after}
use Rattle.meaning.specs.Table.{b_in, mask_in}
use Rattle.meaning.specs.TableRun.{table_run}
use Rattle.meaning.specs.Compile.{compile}

-- one call of the table run: its input list and its output words as they stand at the call
pub record Call : Type 0 where
  pub inputs : List ℕ
  pub out : List ℕ

-- the sets before the first with a bit at k or above
unfoldable pub legal : ℕ → List ℕ → List ℕ
legal k [] = []
legal k (i ∷ is) = let r = i ∷ legal k is in cond (input_foreign k i) [] r

-- "which ticks are done follows from the calls alone": the input sets of the done ticks of a call, and its refusal. "A run is
-- refused 12, no tick done, exactly when it has fewer than 5 output words per input set; if not, 13 exactly when a set of its
-- list has a bit at k or above, the ticks before the first such set being done; if not, all its ticks are done and nothing is
-- refused."
unfoldable pub done_sets : ℕ → Call → List ℕ
done_sets k c = cond (output_short c.inputs c.out) [] (legal k c.inputs)

unfoldable pub refusal_of : ℕ → Call → ℕ
refusal_of k c =
    cond (output_short c.inputs c.out) 12
    (cond (ltb (length (legal k c.inputs)) (length c.inputs)) 13 0)

-- the runs of the table t: a run gets "a state: first the fresh one, then what the run before returned, refused or not"
unfoldable pub runs_from : List ℕ → State → List Call → List Run
runs_from t q [] = []
runs_from t q (c ∷ cs) = let r = table_run t q c.inputs c.out in r ∷ runs_from t r.state cs

-- the five words of each done tick of a run, where the run left them
unfoldable pub done_words : Run → List ℕ
done_words r = take (5 * r.done) r.out

-- the sheet s, fed what the calls cs do
module _ (s : List ℕ) (cs : List Call) where
  -- "The done sets are the input sets of all done ticks, run after run"; the i-th of them, counted from 0
  unfoldable pub all_done : List ℕ
  all_done = flatten (map (done_sets (k_of s)) cs)

  unfoldable pub done_set : ℕ → ℕ
  done_set i = get_or all_done i 0

  -- "The sheet's meaning is the tick defined above, fed the done sets in order from the fresh state": its state before the i-th tick,
  -- and that tick
  unfoldable pub sheet_state : ℕ → State
  sheet_state zero = power_on
  sheet_state (suc i) = state_after s (sheet_state i) (tick_from s (sheet_state i) (done_set i)).sets

  unfoldable pub sheet_tick : ℕ → Tick
  sheet_tick i = tick_from s (sheet_state i) (done_set i)

  -- how many ticks are done when run j ends
  unfoldable pub done_by : ℕ → ℕ
  done_by j = length (flatten (map (done_sets (k_of s)) (take (suc j) cs)))

-- what the runs rs, one after the other from the fresh state, returned and left
module _ (rs : List Run) where
  -- what run j returned, and the state that it got
  unfoldable pub run_of : ℕ → Run
  run_of j = get_or rs j (ran [] (stops 0 power_on))

  unfoldable pub state_before : ℕ → State
  state_before zero = power_on
  state_before (suc j) = (run_of j).state

  -- the five words of the i-th done tick, as its run left them
  unfoldable pub tick_words : ℕ → List ℕ
  tick_words i = take 5 (drop (5 * i) (flatten (map done_words rs)))

-- the runs rs of the table t on the calls cs are what the sheet s means
module _ (s t : List ℕ) (cs : List Call) (rs : List Run) where
  -- what run j, on the call c, returns
  pub record RunRight (j : ℕ) (c : Call) : Type 0 where
    pub refusal : (run_of rs j).refusal ≡ refusal_of (k_of s) c
    pub done : (run_of rs j).done ≡ length (done_sets (k_of s) c)
    -- "a run with no done tick returns the state it got"
    pub none : (run_of rs j).done ≡ 0 → (run_of rs j).state ≡ state_before rs j
    -- "a run whose last done tick it is returns the sheet's readings and the number of a block with that set as its mask"
    pub readings : 0 < (run_of rs j).done → (run_of rs j).state.readings ≡ (sheet_state s cs (done_by s cs j)).readings
    -- "demand 3's runs return the sheet's ages with its readings" (document 02, Ask 10)
    pub ages : 0 < (run_of rs j).done → (run_of rs j).state.ages ≡ (sheet_state s cs (done_by s cs j)).ages
    pub block : 0 < (run_of rs j).done → (run_of rs j).state.at < b_in t
    pub mask : 0 < (run_of rs j).done → mask_in t (run_of rs j).state.at ≡ (sheet_state s cs (done_by s cs j)).at

  pub record Served : Type 0 where
    -- the sheet "meets no 8 or 9 there"
    pub unrefused : (i : ℕ) → i < length (all_done s cs) → (sheet_tick s cs i).refusal ≡ 0
    -- "the five words of the i-th done tick are the sets of the sheet's i-th tick"
    pub words : (i : ℕ) → i < length (all_done s cs) → tick_words rs i ≡ five_words (sheet_tick s cs i).sets
    -- "the sheet's mode set after it is consistent"
    pub consistently : (i : ℕ) → i < length (all_done s cs) → T (consistent s (sheet_state s cs (suc i)).at)
    pub runs : (j : ℕ) → j < length cs → RunRight j (get_or cs j (record { inputs = []; out = [] }))

-- "Its sheet is any that a compile did not refuse", so one without an idle arrow (document 02, Ask 8); "its table is the words left
-- there, as many as the length returned"; "Power-on is the fresh state"; "For every such list".
unfoldable pub WholeList : Type 0
WholeList =
    (s table work : List ℕ) → (compile s table work).refusal ≡ 0
    → let t = take (compile s table work).table_length (compile s table work).table in
    (cs : List Call) → Served s t cs (runs_from t power_on cs)
