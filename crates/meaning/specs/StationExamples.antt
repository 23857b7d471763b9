-- Document 02, Ask 6: calls of stations on small tables, computed. Assumes nothing.
use Rattle.std.specs.Prelude.{◌≡◌, refl, List, [], ◌∷◌, ◌++◌, ℕ, ◌*◌, replicate, set}
use Rattle.meaning.specs.Lists.{row_from}
use Rattle.meaning.specs.Ages.{no_ages}
use Rattle.meaning.specs.Run.{State, power_on}
use Rattle.meaning.specs.Stations.{Station, StationsRun, call_refused, serve_stations}
use Rattle.meaning.specs.Examples.{table, lent, three_ages, reading_1}
use Rattle.meaning.specs.Opened.{opened}

-- a station in a state, at a position, with a mark, and where its parts start and how long they are
abbrev in_state : State → ℕ → ℕ → ℕ → ℕ → ℕ → ℕ → Station
in_state q p m a n o k =
    record { state = q; position = p; mark = m; in_start = a; in_length = n; out_start = o; out_length = k }

-- one at power-on that has not begun, with just the output words that its sets need
abbrev pub new : ℕ → ℕ → ℕ → Station
new a n o = in_state power_on 0 0 a n o (5 * n)

-- of the example's table: the states after the input sets 0; 0 and 1; 1
abbrev after_0 : State
after_0 = reading_1 1 0 no_ages

abbrev after_0_1 : State
after_0_1 = reading_1 2 2 (three_ages 1 0 0)

abbrev after_1 : State
after_1 = reading_1 2 2 no_ages

-- the words of these ticks
abbrev words_0 : List ℕ
words_0 = 3 ∷ 0 ∷ 3 ∷ 0 ∷ 0 ∷ []

abbrev words_0_1 : List ℕ
words_0_1 = 4 ∷ 2 ∷ 7 ∷ 1 ∷ 0 ∷ []

abbrev words_1 : List ℕ
words_1 = 7 ∷ 2 ∷ 7 ∷ 1 ∷ 0 ∷ []

-- the example's table whose cell from block 1 on input 1 does not enter the source of block 2's timer
abbrev stale : List ℕ
stale = set table 37 0

-- two stations, with the sets 0 1 and 1, under an allowance; what a call that is not refused returns
abbrev two : ℕ → StationsRun
two allowance = serve_stations table (new 0 2 0 ∷ new 2 1 10 ∷ []) (0 ∷ 1 ∷ 1 ∷ []) (lent 16) allowance

abbrev served : ℕ → List Station → List ℕ → StationsRun
served spent stations out = record { refusal = 0; spent = spent; stations = stations; out = out }

-- as many stations without a set
abbrev idle_refusal : List ℕ → ℕ → ℕ
idle_refusal w n = (serve_stations w (replicate n (new 0 0 0)) [] [] 1).refusal

-- stations that are refused, with three sets and 15 words
abbrev parts_refusal : List Station → ℕ
parts_refusal stations = (serve_stations table stations (0 ∷ 0 ∷ 0 ∷ []) (lent 15) 0).refusal

pub record StationExamples : Type 0 where
  -- "Passes go through the stations in number order, one tick each, .. until the allowance is spent or nobody has work"; words of no
  -- tick stay
  pub no_turn : two 0 ≡ served 0 (new 0 2 0 ∷ new 2 1 10 ∷ []) (lent 16)
  pub one_turn : two 1 ≡ served 1 (in_state after_0 1 0 0 2 0 10 ∷ new 2 1 10 ∷ []) (words_0 ++ lent 11)
  pub one_pass : two 2
      ≡ served 2 (in_state after_0 1 0 0 2 0 10 ∷ in_state after_1 1 0 2 1 10 5 ∷ []) (words_0 ++ (lent 5 ++ (words_1 ++ lent 1)))
  pub two_passes : two 9
      ≡ served 3 (in_state after_0_1 2 0 0 2 0 10 ∷ in_state after_1 1 0 2 1 10 5 ∷ []) (words_0 ++ (words_0_1 ++ (words_1 ++ lent 1)))
  -- every call begins with the first station
  pub begins_first : (serve_stations table (in_state after_0 1 0 0 2 0 10 ∷ new 2 1 10 ∷ []) (0 ∷ 1 ∷ 1 ∷ []) (lent 15) 1).stations
      ≡ in_state after_0_1 2 0 0 2 0 10 ∷ new 2 1 10 ∷ []
  -- a stop "costs no tick": 13 before a tick of the next station in the same pass
  pub stop_is_free : serve_stations table (new 0 1 0 ∷ new 1 1 5 ∷ []) (2 ∷ 0 ∷ []) (lent 10) 1
      ≡ served 1 (in_state power_on 0 13 0 1 0 5 ∷ in_state after_0 1 0 1 1 5 5 ∷ []) (lent 5 ++ words_0)
  -- "once the allowance is spent no turn comes": the stop is not met, and in the next call it is
  pub stop_not_met : serve_stations table (new 0 1 0 ∷ new 1 1 5 ∷ []) (0 ∷ 2 ∷ []) (lent 10) 1
      ≡ served 1 (in_state after_0 1 0 0 1 0 5 ∷ new 1 1 5 ∷ []) (words_0 ++ lent 5)
  pub stop_met : serve_stations table (in_state after_0 1 0 0 1 0 5 ∷ new 1 1 5 ∷ []) (0 ∷ 2 ∷ []) (lent 10) 1
      ≡ served 0 (in_state after_0 1 0 0 1 0 5 ∷ in_state power_on 0 13 1 1 5 5 ∷ []) (lent 10)
  -- "a state refused 14", before 13; by a block, by an age; "A station lent with a mark other than 0 .. is passed over"
  pub state_first : serve_stations table (in_state (reading_1 3 0 no_ages) 0 0 0 1 0 5 ∷ in_state power_on 0 77 1 1 5 5 ∷ []) (2 ∷ 0 ∷ []) (lent 10) 3
      ≡ served 0 (in_state (reading_1 3 0 no_ages) 0 14 0 1 0 5 ∷ in_state power_on 0 77 1 1 5 5 ∷ []) (lent 10)
  pub age-stops : serve_stations table (in_state (reading_1 1 0 (three_ages 0 0 1)) 0 0 0 1 0 5 ∷ []) (0 ∷ []) (lent 5) 3
      ≡ served 0 (in_state (reading_1 1 0 (three_ages 0 0 1)) 0 14 0 1 0 5 ∷ []) (lent 5)
  -- 15 at a tick; the other goes on
  pub stale-stops : serve_stations stale (in_state after_0 0 0 0 2 0 10 ∷ in_state after_0 0 0 2 1 10 5 ∷ []) (0 ∷ 1 ∷ 1 ∷ []) (lent 15) 9
      ≡ served 1 (in_state (reading_1 1 0 (three_ages 1 1 0)) 1 15 0 2 0 10 ∷ in_state after_0 0 15 2 1 10 5 ∷ [])
      (0 ∷ 0 ∷ 3 ∷ 0 ∷ 0 ∷ lent 10)
  -- "or at or past its part's end": with any state, and as it is
  pub past_end : serve_stations table (in_state (reading_1 3 0 no_ages) 4 0 0 1 0 5 ∷ new 1 1 5 ∷ []) (0 ∷ 0 ∷ []) (lent 10) 9
      ≡ served 1 (in_state (reading_1 3 0 no_ages) 4 0 0 1 0 5 ∷ in_state after_0 1 0 1 1 5 5 ∷ []) (lent 5 ++ words_0)
  -- "15", then "No stations, or more than 64, is refused 18, after 15", then 19
  pub no_table : serve_stations (set table 0 2) [] (0 ∷ []) (lent 5) 1 ≡ call_refused 15 [] (lent 5)
  pub numbers : row_from 0 3 (idle_refusal table) ++ row_from 63 3 (idle_refusal table) ≡ 18 ∷ 0 ∷ 0 ∷ 0 ∷ 0 ∷ 18 ∷ []
  pub number_first : parts_refusal (replicate 65 (new 0 4 0)) ≡ 18
  pub refused_same : serve_stations table (new 0 2 0 ∷ new 1 1 10 ∷ []) (0 ∷ 1 ∷ []) (lent 15) 9
      ≡ call_refused 19 (new 0 2 0 ∷ new 1 1 10 ∷ []) (lent 15)
  -- "parts that share a word": an input word, an output word; next to each other; an empty part within another
  pub shared_input : parts_refusal (new 0 2 0 ∷ new 1 1 10 ∷ []) ≡ 19
  pub shared_output : parts_refusal (new 0 2 0 ∷ new 2 1 9 ∷ []) ≡ 19
  pub side_by_side : parts_refusal (new 2 1 10 ∷ new 0 2 0 ∷ []) ≡ 0
  pub empty_inside : parts_refusal (new 0 2 0 ∷ new 1 0 3 ∷ []) ≡ 0
  -- "end past their list", which no sum that wraps hides; "or have fewer than 5 output words per input set"; of a stopped station too
  pub past_inputs : parts_refusal (in_state power_on 0 0 1 3 0 15 ∷ []) ≡ 19
  pub past_output : parts_refusal (in_state power_on 0 0 0 0 11 5 ∷ []) ≡ 19
  pub no_wrap : parts_refusal (in_state power_on 0 0 4294967295 2 0 15 ∷ []) ≡ 19
  pub few_words : parts_refusal (in_state power_on 0 13 0 3 0 14 ∷ []) ≡ 19

examples : StationExamples
unfolding opened
examples =
    record {
      no_turn = refl;
      one_turn = refl;
      one_pass = refl;
      two_passes = refl;
      begins_first = refl;
      stop_is_free = refl;
      stop_not_met = refl;
      stop_met = refl;
      state_first = refl;
      age-stops = refl;
      stale-stops = refl;
      past_end = refl;
      no_table = refl;
      numbers = refl;
      number_first = refl;
      refused_same = refl;
      shared_input = refl;
      shared_output = refl;
      side_by_side = refl;
      empty_inside = refl;
      past_inputs = refl;
      past_output = refl;
      no_wrap = refl;
      few_words = refl;
    }
