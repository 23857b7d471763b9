-- Document 02, Ask 6: what is promised of a call that is not refused, and of one that is. Assumes nothing.
use Rattle.std.specs.Prelude.{◌≡◌, ◌⊎◌, true, false, List, ℕ, ◌+◌, ◌-◌, ◌*◌, ◌/◌, ◌≤◌, ◌<◌, length, get_or, take, drop}
use Rattle.meaning.specs.Lists.{sum_to}
use Rattle.meaning.specs.Run.{Run}
use Rattle.meaning.specs.TableRun.{table_run}
use Rattle.meaning.specs.Stations.{Station, blank, has_work, StationsRun, serve_stations, call_refused}

-- a part of a list
abbrev pub part : ℕ → ℕ → List ℕ → List ℕ
part start len l = take len (drop start l)

-- what a station has of the lists: its own sets and words, and the rest of its list, from its position on
abbrev pub sets_of : Station → List ℕ → List ℕ
sets_of s inputs = part s.in_start s.in_length inputs

abbrev pub words_of : Station → List ℕ → List ℕ
words_of s out = part s.out_start s.out_length out

abbrev pub rest_of : Station → List ℕ → List ℕ
rest_of s inputs = drop s.position (sets_of s inputs)

-- a table run alone, from the station's state on sets of its own, with its own words from those of its position on
abbrev pub alone_on : List ℕ → Station → List ℕ → List ℕ → Run
alone_on w s is out = table_run w s.state is (drop (5 * s.position) (words_of s out))

-- word k is one of the words of the j sets from position p on, of the part from o on
pub record Written (o p j k : ℕ) : Type 0 where
  pub from : o + 5 * p ≤ k
  pub below : k < o + 5 * p + 5 * j

-- s and s': a station as lent and as left; j: the ticks it was served
module _ (w inputs out out' : List ℕ) (s s' : Station) (j : ℕ) where
  -- "Its state and words after j ticks are those it would have alone after j ticks": of the others nothing stands here
  pub record Alone : Type 0 where
    pub position : s'.position ≡ s.position + j
    pub inside : 0 < j → s'.position ≤ s.in_length
    pub done : (alone_on w s (take j (rest_of s inputs)) out).done ≡ j
    pub state : s'.state ≡ (alone_on w s (take j (rest_of s inputs)) out).state
    pub words : drop (5 * s.position) (words_of s out') ≡ (alone_on w s (take j (rest_of s inputs)) out).out
    pub words_before_lem : take (5 * s.position) (words_of s out') ≡ take (5 * s.position) (words_of s out)
    -- its parts stay
    pub in_start : s'.in_start ≡ s.in_start
    pub in_length_lem : s'.in_length ≡ s.in_length
    pub out_start_lem : s'.out_start ≡ s.out_start
    pub out_length_lem : s'.out_length ≡ s.out_length

  pub record Marked : Type 0 where
    -- "A station lent with a mark other than 0, or at or past its part's end, is passed over."
    pub passed_over : has_work s ≡ false → s' ≡ s
    -- one that had work and has none has the rest of its list up to the first refused tick, and that tick's number as its mark,
    -- 0 if there is none
    pub settled : has_work s ≡ true → has_work s' ≡ false
        → (s'.mark ≡ (alone_on w s (rest_of s inputs) out).refusal) × (j ≡ (alone_on w s (rest_of s inputs) out).done)

-- r: what a call with the table w returned and left
module _ (w : List ℕ) (stations : List Station) (inputs out : List ℕ) (allowance : ℕ) (r : StationsRun) where
  -- station i as lent and as left, and the ticks it was served
  abbrev pub before : ℕ → Station
  before i = get_or stations i blank

  abbrev pub later : ℕ → Station
  later i = get_or r.stations i blank

  abbrev pub served : ℕ → ℕ
  served i = (later i).position - (before i).position

  pub record Fair : Type 0 where
    pub number : length r.stations ≡ length stations
    pub words : length r.out ≡ length out
    -- "Ticks served sum to the allowance spent"
    pub sum : sum_to (length stations) served ≡ r.spent
    pub bounded : r.spent ≤ allowance
    -- "until the allowance is spent or nobody has work"
    pub ends : r.spent < allowance → (i : ℕ) → i < length stations → has_work (later i) ≡ false
    pub alone : (i : ℕ) → i < length stations → Alone w inputs out r.out (before i) (later i) (served i)
    -- only the words of done ticks are written
    pub outside : (k : ℕ) → ((i : ℕ) → i < length stations → Written (before i).out_start (before i).position (served i) k → ⊥)
        → get_or r.out k 0 ≡ get_or out k 0
    pub marks : (i : ℕ) → i < length stations → Marked w inputs out r.out (before i) (later i) (served i)
    -- "Each other .. gets the rest of its list up to its first refused tick, or in this call at least the allowance divided by
    -- the number of stations, rounded down." (A state refused 14 has no tick to get: nothing need be said of it.)
    pub least : (i : ℕ) → i < length stations → has_work (before i) ≡ true
        → (served i ≡ (alone_on w (before i) (rest_of (before i) inputs) out).done) ⊎ (allowance / length stations ≤ served i)

-- Ask 6, for a call that is not refused
unfoldable pub Stations : Type 0
Stations =
    (w : List ℕ) (stations : List Station) (inputs out : List ℕ) (allowance : ℕ)
    → (serve_stations w stations inputs out allowance).refusal ≡ 0
    → Fair w stations inputs out allowance (serve_stations w stations inputs out allowance)

-- a refused call changes nothing and spends nothing
unfoldable pub Refused : Type 0
Refused =
    (w : List ℕ) (stations : List Station) (inputs out : List ℕ) (allowance : ℕ)
    → ((serve_stations w stations inputs out allowance).refusal ≡ 0 → ⊥)
    → serve_stations w stations inputs out allowance ≡ call_refused (serve_stations w stations inputs out allowance).refusal stations out

-- "for every content of the others' lists; only j, and whether its stop is met yet, may depend on them": two calls of one table
-- that are not refused, however many stations, sets and words they have and whatever the others' are. A station of the one and a
-- station of the other, with the same state, position, rest of its list and words, have the same state and words after the
-- same number of ticks, and the same mark and number of ticks if neither has work left.
module _ (w : List ℕ) (stations stations₂ : List Station) (inputs inputs₂ out out₂ : List ℕ) (allowance allowance₂ : ℕ) (i i₂ : ℕ) where
  abbrev one : StationsRun
  one = serve_stations w stations inputs out allowance

  abbrev two : StationsRun
  two = serve_stations w stations₂ inputs₂ out₂ allowance₂

  abbrev s : Station
  s = get_or stations i blank

  abbrev s₂ : Station
  s₂ = get_or stations₂ i₂ blank

  abbrev end : Station
  end = get_or one.stations i blank

  abbrev end₂ : Station
  end₂ = get_or two.stations i₂ blank

  -- what the two have in common at the call
  pub record Alike : Type 0 where
    pub accepted : one.refusal ≡ 0
    pub accepted₂ : two.refusal ≡ 0
    pub in_list : i < length stations
    pub in_list₂ : i₂ < length stations₂
    pub state : s.state ≡ s₂.state
    pub position : s.position ≡ s₂.position
    pub rest : rest_of s inputs ≡ rest_of s₂ inputs₂
    pub words : words_of s out ≡ words_of s₂ out₂

  pub record Isolated : Type 0 where
    pub state : end.position ≡ end₂.position → end.state ≡ end₂.state
    pub words : end.position ≡ end₂.position → words_of s one.out ≡ words_of s₂ two.out
    pub stop : has_work s ≡ true → has_work s₂ ≡ true → has_work end ≡ false → has_work end₂ ≡ false
        → (end.mark ≡ end₂.mark) × (end.position ≡ end₂.position) × (end.state ≡ end₂.state)

unfoldable pub Isolation : Type 0
Isolation =
    (w : List ℕ) (stations stations₂ : List Station) (inputs inputs₂ out out₂ : List ℕ) (allowance allowance₂ : ℕ) (i i₂ : ℕ)
    → Alike w stations stations₂ inputs inputs₂ out out₂ allowance allowance₂ i i₂
    → Isolated w stations stations₂ inputs inputs₂ out out₂ allowance allowance₂ i i₂
