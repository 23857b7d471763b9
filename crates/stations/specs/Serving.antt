-- What a turn asks for and leaves, and the schedule after it. Assumes nothing.
use Rattle.std.specs.Prelude.{Option, Some, None, ◌≡◌, Bool, true, false, not, ◌&&◌, cond, List, [], ◌∷◌, ℕ, ◌+◌, ◌-◌, ◌*◌, ◌/◌, ◌≤◌, ◌<◌, max, eqb, leb, ltb, length, get_or, drop, set}
use Rattle.sets.specs.Sets.{digit, every}
use Rattle.meaning.specs.Lists.{all_of}
use Rattle.meaning.specs.declared.refusal.Refusal.{Refusal}
use Rattle.meaning.specs.declared.refusal.Refusal.TheVariants.{Layout, Stations, Parts}
use Rattle.meaning.specs.Refusal.{number_or_0}
use Rattle.meaning.specs.Table.{table_ok}
use Rattle.meaning.specs.Stations as meaning
use Rattle.meaning.specs.Stations.{shares, has_work, wrong_number, standing_at}
use Rattle.turns.specs.Sweeps.{turns_of}
use Rattle.recorder.specs.Timers.{Noted}
use Rattle.stations.specs.declared.Station.{Station}
use Rattle.stations.specs.declared.Phase.{Phase}
use Rattle.stations.specs.declared.Phase.TheVariants.{Looking, Serving, Over}
use Rattle.stations.specs.declared.Schedule.{Schedule}
use Rattle.stations.specs.Stations.{station_of, stations_of, unlisted}

-- ---- the schedule

-- parts are looked at
abbrev pub is_looking : Phase → Bool
is_looking Looking = true
is_looking Serving = false
is_looking (Over _) = false

-- no turn comes any more
abbrev pub is_over : Phase → Bool
is_over Looking = false
is_over Serving = false
is_over (Over _) = true

-- the refusal, if it is over by one
abbrev pub refusal_at_end : Phase → Option Refusal
refusal_at_end Looking = None
refusal_at_end Serving = None
refusal_at_end (Over why) = why

-- no turn comes any more: why, at which place, with how many ticks left
abbrev pub stops_at : Option Refusal → ℕ → ℕ → ℕ → Schedule
stops_at e at count left =
    record { phase = Over e; at = at; count = count; left = left; turns = 0; working = 0 }

-- a sweep begins: so many turns each that the allowance is good for them, or one
abbrev pub sweeps : ℕ → ℕ → ℕ → Schedule
sweeps count left working =
    record { phase = Serving; at = 0; count = count; left = left; turns = max 1 (left / working); working = 0 }

-- after the last station: a sweep if there are ticks left and some station has work
unfoldable pub once_more : ℕ → ℕ → ℕ → Schedule
once_more count left working =
    cond (eqb left 0) (stops_at None count count left) (cond (eqb working 0) (stops_at None count count left) (sweeps count left working))

-- the first turn of a call on the table w: 15, then 18
unfoldable pub first_of : List ℕ → ℕ → ℕ → Schedule
first_of w count left =
    cond (not (table_ok w)) (stops_at (Some Layout) 0 count left)
    (cond (wrong_number count) (stops_at (Some Stations) 0 count left)
    (record { phase = Looking; at = 0; count = count; left = left; turns = 0; working = 0 }))

-- the next station's turn
abbrev pub next_turn : Schedule → Phase → ℕ → ℕ → Schedule
next_turn c phase left working =
    record {
      phase = phase;
      at = c.at + 1;
      count = c.count;
      left = left;
      turns = c.turns;
      working = working;
    }

-- after a look at a station's parts: whether they are well, and whether the station has work
unfoldable pub looked_of : Schedule → Bool → Bool → Schedule
looked_of c well works =
    cond (not well) (stops_at (Some Parts) (c.at + 1) c.count c.left)
    (cond (ltb (c.at + 1) c.count)
    (next_turn c Looking c.left (c.working + digit works))
    (once_more c.count c.left (c.working + digit works)))

-- after a station's turns: the ticks left, and whether the station has work
unfoldable pub served_of : Schedule → ℕ → Bool → Schedule
served_of c left works =
    cond (eqb left 0) (stops_at None (c.at + 1) c.count left)
    (cond (ltb (c.at + 1) c.count)
    (next_turn c Serving left (c.working + digit works))
    (once_more c.count left (c.working + digit works)))

-- what a sweep to come counts for: after the looks, and where a station has work
abbrev pub to_come : Phase → ℕ → ℕ → ℕ
to_come Looking count working = count + 1
to_come Serving count working = cond (eqb working 0) 0 count
to_come (Over _) count working = cond (eqb working 0) 0 count

-- a number that falls with every turn
unfoldable pub most : Schedule → ℕ
most c = c.left * (c.count + 1) + to_come c.phase c.count c.working + (c.count - c.at)

-- what a call returns from the schedule at its end, and the stations and output words there
abbrev pub end_of : ℕ → Schedule → List Station → List ℕ → meaning.StationsRun
end_of allowance c ss out =
    record { refusal = number_or_0 (refusal_at_end c.phase); spent = allowance - c.left; stations = stations_of ss; out = out }

-- ---- the work words: four for the parts of each of 64 stations, then what is noted of the table, which has at most 4,096 blocks
abbrev pub part_words : ℕ
part_words = 256

abbrev pub work_words : ℕ
work_words = 4449

-- the parts of a station, from place 4m on
abbrev pub PartsAt : List ℕ → ℕ → Station → Type 0
PartsAt work m s =
    (get_or work (4 * m) 0 ≡ s.in_start)
    × (get_or work (4 * m + 1) 0 ≡ s.in_length)
    × (get_or work (4 * m + 2) 0 ≡ s.out_start)
    × (get_or work (4 * m + 3) 0 ≡ s.out_length)

-- they share no word with those from place 4m on
unfoldable pub apart_from : List ℕ → Station → ℕ → Bool
apart_from work s m =
    not (shares (get_or work (4 * m) 0) (get_or work (4 * m + 1) 0) s.in_start s.in_length)
    && not (shares (get_or work (4 * m + 2) 0) (get_or work (4 * m + 3) 0) s.out_start s.out_length)

-- they fit an input list and an output list
unfoldable pub parts_within : ℕ → ℕ → Station → Bool
parts_within sets words s =
    all_of
    (leb (s.in_start + s.in_length) sets
    ∷ leb (s.out_start + s.out_length) words
    ∷ leb (5 * s.in_length) s.out_length
    ∷ [])

-- ---- a turn: w: the table; inputs: the input list; s: the station
module _ (w inputs : List ℕ) where
  -- what it asks for
  pub record Ready (s : Station) (c : Schedule) (work out : List ℕ) : Type 0 where
    pub table : table_ok w ≡ true
    pub here : c.at < c.count
    pub few : c.count ≤ 64
    pub counted : c.working ≤ c.at
    pub room : length work ≡ work_words
    pub noted : 0 < c.at → Noted w (drop part_words work)
    pub serves : is_looking c.phase ≡ false
        → (0 < c.left) × (0 < c.turns) × Noted w (drop part_words work) × (parts_within (length inputs) (length out) s ≡ true)

  -- a look at the parts: they and the table are noted
  pub record Looked (s : Station) (c : Schedule) (work out : List ℕ) (t : Station) (r : Schedule) (work' out' : List ℕ) : Type 0 where
    pub station : t ≡ s
    pub same_out : out' ≡ out
    pub noted : Noted w (drop part_words work')
    pub others : (i : ℕ) → i < 4 * c.at → get_or work' i 0 ≡ get_or work i 0
    pub parts : PartsAt work' c.at s
    pub schedule : r
        ≡ looked_of c (parts_within (length inputs) (length out) s && every c.at (apart_from work s)) (has_work (station_of s))

  -- turns served: those of the definition, of this station by itself
  pub record Given (s : Station) (c : Schedule) (work out : List ℕ) (t : Station) (r : Schedule) (work' out' : List ℕ) : Type 0 where
    pub left : ℕ
    pub same_work : work' ≡ work
    pub turns : standing_at (station_of t ∷ []) out' left ≡ turns_of w inputs c.turns 0 (standing_at (station_of s ∷ []) out c.left)
    pub schedule : r ≡ served_of c left (has_work (station_of t))

  -- what it leaves: the station t, the schedule r, the work words and the output words
  pub record Turned (s : Station) (c : Schedule) (work out : List ℕ) (t : Station) (r : Schedule) (work' out' : List ℕ) : Type 0 where
    pub looked : c.phase ≡ Looking → Looked s c work out t r work' out'
    pub served : is_looking c.phase ≡ false → Given s c work out t r work' out'

  -- the same of the list of stations
  pub record Stepped (c : Schedule) (ss : List Station) (work out : List ℕ) (r : Schedule) (ss' : List Station) (work' out' : List ℕ) : Type 0 where
    pub station : Station
    pub put : ss' ≡ set ss c.at station
    pub same_room : length work' ≡ length work
    pub same_length : length out' ≡ length out
    pub turned : Turned (get_or ss c.at unlisted) c work out station r work' out'
