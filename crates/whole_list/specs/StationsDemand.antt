-- Ask 6 of document 02, and demand 3 station by station, said of what `stations::serve` returns and of the stations
-- and words that it leaves. Of each call its contract is supposed, as the source states it (`Learnt`), and nothing
-- else, so that a contract that says less would not give the theorems. Assumes nothing.
use Rattle.std.specs.Prelude.{◌≡◌, true, false, List, [], ◌∷◌, map, ℕ, ◌-◌, ◌*◌, ◌<◌, length, get_or, take, drop}
use contract.Lifetimes.{Lfts}
use denote.Triple.Clauses.{AtExit}
use borrow.Fn.World.{ArgsD}
use Rattle.meaning.specs.Refusal.{err_or_0, number_or_0}
use Rattle.meaning.specs.Run.{State, power_on, Run}
use Rattle.meaning.specs.WholeList.{Call, Served}
use Rattle.meaning.specs.Stations.{Station, blank, has_work, StationsRun}
use Rattle.meaning.specs.TickAllowance.{rest_of, words_of, Fair}
use Rattle.stations.specs.Stations.{stations_of}
use Rattle.stations.specs.declared.Served.{Served as Answer}
use Rattle.stations.specs.contracts.serve as serve
use Rattle.stations.proofs.ContractLaws as serve_contract
use Rattle.whole_list.specs.Demand3.{CompileCall, sheet_words, table_words, AcceptCall, sheet_checked, table_checked}

-- a call of `serve(stations, table, inputs, out, allowance)`, whose contract holds
pub record StationsCall : Type 0 where
  pub lifetimes : Lfts 4
  pub passed : ArgsD serve.signature lifetimes
  pub returned : Answer
  pub left : AtExit serve.ended lifetimes
  pub contract : serve_contract.Learnt lifetimes passed returned left

module _ (c : StationsCall) where
  -- what it gets: the table, the stations and the output words as lent, the input list, the allowance
  unfoldable pub table_served : List ℕ
  table_served = c.passed.1.0.now

  unfoldable pub stations_lent : List Station
  stations_lent = stations_of c.passed.0.now

  unfoldable pub inputs_got : List ℕ
  inputs_got = c.passed.1.1.0.now

  unfoldable pub out_lent : List ℕ
  out_lent = c.passed.1.1.1.0.now

  unfoldable pub allowance_got : ℕ
  allowance_got = c.passed.1.1.1.1.0

  -- what it leaves
  unfoldable pub stations_left : List Station
  stations_left = stations_of c.left.0.now

  unfoldable pub out_left : List ℕ
  out_left = c.left.1.1.1.0.now

  -- what it returns and leaves
  abbrev pub answered : StationsRun
  answered =
      record {
        refusal = number_or_0 c.returned.refusal;
        spent = c.returned.spent;
        stations = stations_left;
        out = out_left;
      }

-- ---- Ask 6

-- any call that refused nothing: every promise of the request (`Fair`). "Its state and words after j ticks are those
-- it would have alone after j ticks"; "Ticks served sum to the allowance spent, which is returned"; who is passed over,
-- what a mark says, what each station gets at the least
unfoldable pub FairCalls : Type 0
FairCalls =
    (c : StationsCall) → number_or_0 c.returned.refusal ≡ 0
    → Fair (table_served c) (stations_lent c) (inputs_got c) (out_lent c) (allowance_got c) (answered c)

-- any call that refused something, 15, 18 or 19: it "changes nothing" and spends nothing
unfoldable pub RefusedCalls : Type 0
RefusedCalls =
    (c : StationsCall) → (number_or_0 c.returned.refusal ≡ 0 → ⊥)
    → (stations_left c ≡ stations_lent c) × (out_left c ≡ out_lent c) × (c.returned.spent ≡ 0)

-- ---- a station of a call
pub record StationIn : Type 0 where
  pub call : StationsCall
  pub number : ℕ
  pub listed : number < length (stations_lent call)

module _ (v : StationIn) where
  -- as lent and as left, and the ticks that it was served
  unfoldable pub station_lent : Station
  station_lent = get_or (stations_lent v.call) v.number blank

  unfoldable pub station_left : Station
  station_left = get_or (stations_left v.call) v.number blank

  unfoldable pub ticks_served : ℕ
  ticks_served = station_left.position - station_lent.position

  -- the rest of its list, and its own words, as lent and as left
  unfoldable pub sets_rest : List ℕ
  sets_rest = rest_of station_lent (inputs_got v.call)

  unfoldable pub words_lent : List ℕ
  words_lent = words_of station_lent (out_lent v.call)

  unfoldable pub words_left : List ℕ
  words_left = words_of station_lent (out_left v.call)

  -- what it was served, as a call of the table run alone: the first j sets of the rest of its list, and its own words
  -- from those of its position on, as lent; and what this call did: j ticks, the state left, those words as left
  unfoldable pub call_alone : Call
  call_alone =
      record { inputs = take ticks_served sets_rest; out = drop (5 * station_lent.position) words_lent }

  unfoldable pub run_alone : Run
  run_alone =
      record {
        done = ticks_served;
        state = station_left.state;
        refusal = 0;
        rounds = 0;
        out = drop (5 * station_lent.position) words_left;
      }

-- ---- isolation

-- stations of two calls that refused nothing, on the same table: the same state, position, rest of the list and words
module _ (v v₂ : StationIn) where
  pub record AlikeStations : Type 0 where
    pub unrefused : number_or_0 v.call.returned.refusal ≡ 0
    pub unrefused₂ : number_or_0 v₂.call.returned.refusal ≡ 0
    pub table : table_served v.call ≡ table_served v₂.call
    pub state : (station_lent v).state ≡ (station_lent v₂).state
    pub position : (station_lent v).position ≡ (station_lent v₂).position
    pub rest : sets_rest v ≡ sets_rest v₂
    pub words : words_lent v ≡ words_lent v₂

  -- after the same number of ticks they have the same state and words; if both had work and neither has any left, the
  -- same mark and number of ticks too
  pub record IsolatedStations : Type 0 where
    pub state : (station_left v).position ≡ (station_left v₂).position → (station_left v).state ≡ (station_left v₂).state
    pub words : (station_left v).position ≡ (station_left v₂).position → words_left v ≡ words_left v₂
    pub stop : has_work (station_lent v) ≡ true → has_work (station_lent v₂) ≡ true
        → has_work (station_left v) ≡ false → has_work (station_left v₂) ≡ false
        → ((station_left v).mark ≡ (station_left v₂).mark)
        × ((station_left v).position ≡ (station_left v₂).position)
        × ((station_left v).state ≡ (station_left v₂).state)

-- "for every content of the others' lists; only j, and whether its stop is met yet, may depend on them"
unfoldable pub IsolatedCalls : Type 0
IsolatedCalls = (v v₂ : StationIn) → AlikeStations v v₂ → IsolatedStations v v₂

-- ---- demand 3

-- calls with the table t and a station of each, refused or not: its state in the first is q, in each next what the call
-- before left in its station; its number, position, mark and parts, the lists and the allowance are whatever they are
unfoldable pub StateHandedOn : List ℕ → State → List StationIn → Type 0
StateHandedOn t q [] = Unit {0}
StateHandedOn t q (v ∷ vs) =
    (table_served v.call ≡ t) × ((station_lent v).state ≡ q) × StateHandedOn t (station_left v).state vs

-- any compile that refused nothing, so of a sheet without an idle arrow, and any list of calls on its table with a
-- station of each, from the fresh state: every conclusion of demand 3, of the ticks that the station was served, call
-- after call
unfoldable pub StationDemand3 : Type 0
StationDemand3 =
    (c : CompileCall) → err_or_0 c.returned.table_length ≡ 0
    → (vs : List StationIn) → StateHandedOn (table_words c) power_on vs
    → Served (sheet_words c) (table_words c) (map call_alone vs) (map run_alone vs)

-- and of any table that a check accepted
unfoldable pub AcceptedStationDemand3 : Type 0
AcceptedStationDemand3 =
    (c : AcceptCall) → err_or_0 c.returned ≡ 0
    → (vs : List StationIn) → StateHandedOn (table_checked c) power_on vs
    → Served (sheet_checked c) (table_checked c) (map call_alone vs) (map run_alone vs)
