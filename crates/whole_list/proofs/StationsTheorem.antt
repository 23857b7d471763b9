-- Ask 6 and demand 3 station by station, of the operations: by its contract, what a call of `serve` returns and leaves is what
-- `serve_stations` gives, so that a station's ticks are those of the table run alone; and an accepted table runs as its sheet does.
-- Assumes nothing.
use mathlib.Core.Path.{◌≡◌, refl, sym, ap, ap₂, ◌∙◌, subst}
use mathlib.Core.Bool.{Bool, true, false, not}
use mathlib.Core.List.{List, [], ◌∷◌, map}
use Prim.Native.Nat.{ℕ, ◌-◌, ◌*◌, ◌≤◌, zero-le}
use native.Mathlib.Nat.{zero-mul, min-le_left, sub_self}
use native.Mathlib.Omega.{arith}
use lib.Dec.{T, eqb, ltb, ltb→lt}
use lib.ListN.{length, get_or, take, drop, length-take}
use borrow.Author.Tests.{eqb-true, eqb-false}
use Rattle.sets.proofs.Tests.{of_true, is_true}
use Rattle.meaning.specs.Lists.{refused_if}
use Rattle.meaning.specs.Run.{State, power_on, stops, output_short, Run, ran}
use Rattle.meaning.specs.Table.{k_in, table_ok}
use Rattle.meaning.specs.TableRun.{table_state_ok, table_step, table_ticks, table_run}
use Rattle.meaning.specs.Refusal.{number_or_0}
use Rattle.meaning.specs.WholeList.{runs_from, Served}
use Rattle.meaning.specs.Acceptance.{Accepted, AcceptedServes, TableStateStays}
use Rattle.meaning.specs.Stations.{Station, blank, has_work, StationsRun, call_refused, serve_stations}
use Rattle.meaning.specs.TickAllowance.{words_of, Fair, Stations, Refused, Isolated, Isolation}
use Rattle.meaning.proofs.RefusalLaws.{test_passed_i}
use Rattle.meaning.proofs.RunLaws.{tick_done, ticks_keep, done_whole, rounds_few, run_short, run_goes, run_all}
use Rattle.meaning.proofs.AcceptanceLaws.{accepted_e}
use Rattle.meaning.proofs.StateLaws.{fresh_admitted, table_state_stays_lem}
use Rattle.meaning.proofs.Theorem.{accepted_serves_lem}
use Rattle.allowance.proofs.AloneLaws.{run_none}
use Rattle.allowance.proofs.Calls.{refused_same}
use Rattle.allowance.proofs.Theorem.{stations, isolation}
use Rattle.stations.proofs.ContractLaws.{serve_tells}
use Rattle.whole_list.specs.Demand3.{sheet_words, table_words, sheet_checked, table_checked}
use Rattle.whole_list.specs.StationsDemand.{StationsCall, table_served, stations_lent, inputs_got, out_lent, allowance_got}
use Rattle.whole_list.specs.StationsDemand.{stations_left, out_left, answered, FairCalls, RefusedCalls}
use Rattle.whole_list.specs.StationsDemand.{StationIn, station_lent, station_left, ticks_served, sets_rest, words_lent, words_left}
use Rattle.whole_list.specs.StationsDemand.{call_alone, run_alone, AlikeStations, IsolatedCalls}
use Rattle.whole_list.specs.StationsDemand.{StateHandedOn, StationDemand3, AcceptedStationDemand3}
use Rattle.whole_list.proofs.Theorem.{compile_accepted, check_is}

-- ---- one call of serve

abbrev meant : StationsCall → StationsRun
meant c = serve_stations (table_served c) (stations_lent c) (inputs_got c) (out_lent c) (allowance_got c)

call_is : (c : StationsCall) → answered c ≡ meant c
unfolding table_served stations_lent inputs_got out_lent allowance_got stations_left out_left
call_is c = serve_tells c.lifetimes c.passed c.returned c.left c.contract

refusal_is : (c : StationsCall) → number_or_0 c.returned.refusal ≡ (meant c).refusal
refusal_is c = ap (λ (r : StationsRun). r.refusal) (call_is c)

pub fair_calls : FairCalls
unfolding FairCalls Stations
fair_calls c passed =
    subst (Fair (table_served c) (stations_lent c) (inputs_got c) (out_lent c) (allowance_got c)) (sym (call_is c))
    (stations (table_served c) (stations_lent c) (inputs_got c) (out_lent c) (allowance_got c) (sym (refusal_is c) ∙ passed))

pub refused_calls : RefusedCalls
unfolding RefusedCalls Refused call_refused
refused_calls c n =
    let e =
    call_is c
    ∙ refused_same (table_served c) (stations_lent c) (inputs_got c) (out_lent c) (allowance_got c) (λ z. n (refusal_is c ∙ z)) in
    (ap (λ (r : StationsRun). r.stations) e, ap (λ (r : StationsRun). r.out) e, ap (λ (r : StationsRun). r.spent) e)

-- what isolation says, of any two runs
module _ (v v₂ : StationIn) where
  abbrev IsolatedBy : StationsRun → StationsRun → Type 0
  IsolatedBy r r₂ =
      let s = station_lent v in
      let s₂ = station_lent v₂ in
      let end = get_or r.stations v.number blank in
      let end₂ = get_or r₂.stations v₂.number blank in
      (end.position ≡ end₂.position → end.state ≡ end₂.state)
      × (end.position ≡ end₂.position → words_of s r.out ≡ words_of s₂ r₂.out)
      × (has_work s ≡ true → has_work s₂ ≡ true → has_work end ≡ false → has_work end₂ ≡ false
      → (end.mark ≡ end₂.mark) × (end.position ≡ end₂.position) × (end.state ≡ end₂.state))

  isolated : AlikeStations v v₂ → IsolatedBy (answered v.call) (answered v₂.call)
  unfolding Isolation station_lent sets_rest words_lent
  isolated h =
      subst (λ (r : StationsRun). IsolatedBy r (answered c₂)) (sym (call_is c))
      (subst (λ (r : StationsRun). IsolatedBy (meant c) r) (sym two) (told.state, told.words, told.stop))
    where
      c : StationsCall
      c = v.call

      c₂ : StationsCall
      c₂ = v₂.call

      -- the second call, on the table of the first
      two : answered c₂ ≡ serve_stations (table_served c) (stations_lent c₂) (inputs_got c₂) (out_lent c₂) (allowance_got c₂)
      two =
          call_is c₂
          ∙ ap (λ (w : List ℕ). serve_stations w (stations_lent c₂) (inputs_got c₂) (out_lent c₂) (allowance_got c₂)) (sym h.table)

      told : Isolated (table_served c) (stations_lent c) (stations_lent c₂) (inputs_got c) (inputs_got c₂) (out_lent c) (out_lent c₂)
          (allowance_got c) (allowance_got c₂) v.number v₂.number
      told =
          isolation (table_served c) (stations_lent c) (stations_lent c₂) (inputs_got c) (inputs_got c₂) (out_lent c) (out_lent c₂)
          (allowance_got c) (allowance_got c₂) v.number v₂.number
          (record {
            accepted = sym (refusal_is c) ∙ h.unrefused;
            accepted₂ = ap (λ (r : StationsRun). r.refusal) (sym two) ∙ h.unrefused₂;
            in_list = v.listed;
            in_list₂ = v₂.listed;
            state = h.state;
            position = h.position;
            rest = h.rest;
            words = h.words;
          })

pub isolated_calls : IsolatedCalls
unfolding IsolatedCalls station_left words_left
isolated_calls v v₂ h = let i = isolated v v₂ h in record { state = i.0; words = i.1; stop = i.2 }

-- ---- a run in which all of its sets are done is refused nothing

-- what a run on an accepted table leaves is admitted
module _ (s w : List ℕ) (a : Accepted s w) (q : State) (ok : T (table_state_ok w q)) (is out : List ℕ) where
  abbrev R : Run
  R = table_run w q is out

  left_admitted : T (table_state_ok w R.state)
  unfolding table_run TableStateStays
  left_admitted =
      run_all (k_in w) (table_step w) _ (table_state_ok w q) (output_short is out) q is out (λ r. T (table_state_ok w r.state))
      (λ _. unfold ran stops in ok)
      (unfold ran in
      (ticks_keep (k_in w) (table_step w) (λ p. T (table_state_ok w p))
      (λ p i e good. (table_state_stays_lem s w a p i good (tick_done (k_in w) (table_step w) p i e).0).1) is q ok))

  module _ (j : ℕ) (few : length is ≤ j) (done : R.done ≡ j) where
    layout : refused_if (not (table_ok w)) 15 ≡ 0
    layout = test_passed_i (table_ok w) 15 (accepted_e s w a).1

    admitted : table_state_ok w q ≡ true
    admitted = is_true (table_state_ok w q) ok

    -- its output words are enough: if they were not, no tick would be done, so there would be no set
    enough : (b : Bool) → output_short is out ≡ b → output_short is out ≡ false
    unfolding table_run
    enough false e = e
    enough true e =
        let stopped = run_short (k_in w) (table_step w) _ (table_state_ok w q) (output_short is out) q is out layout admitted e in
        let none : R.done ≡ 0 = ap (λ (r : Run). r.done) stopped ∙ (unfold ran stops in refl) in
        let short : ltb (length out) (5 * length is) ≡ true = unfold output_short in e in
        absurd (omega (arith, ltb→lt (length out) (5 * length is) (of_true short), few, done, none))

    goes : R ≡ ran out (table_ticks w is q)
    unfolding table_run
    goes =
        run_goes (k_in w) (table_step w) _ (table_state_ok w q) (output_short is out) q is out layout admitted
        (enough (output_short is out) refl)

    unrefused : R.refusal ≡ 0
    unfolding ran
    unrefused =
        let all : length is ≤ (table_ticks w is q).done = omega (arith, few, done, ap (λ (r : Run). r.done) goes) in
        ap (λ (r : Run). r.refusal) goes ∙ done_whole (k_in w) (table_step w) is q all

    no_rounds : R.rounds ≡ 0
    unfolding ran
    no_rounds =
        let most = rounds_few (k_in w) (table_step w) 0 (λ p i. unfold table_step in zero-le) is q in
        ap (λ (r : Run). r.rounds) goes ∙ omega (arith, most, zero-mul (table_ticks w is q).done)

    all_done_lem : R ≡ record { done = j; state = R.state; refusal = 0; rounds = 0; out = R.out }
    all_done_lem =
        let run : ℕ → ℕ → ℕ → Run = λ d e n. record { done = d; state = R.state; refusal = e; rounds = n; out = R.out } in
        ap₂ (λ (d e : ℕ). run d e R.rounds) done unrefused ∙ ap (run j 0) no_rounds

-- ---- what a station was served is the run alone

-- what a call did of the station v is what the run of the table w alone does
record Matches (w : List ℕ) (v : StationIn) : Type 0 where
  done : (table_run w (station_lent v).state (call_alone v).inputs (call_alone v).out).done ≡ ticks_served v
  state : (station_left v).state ≡ (table_run w (station_lent v).state (call_alone v).inputs (call_alone v).out).state
  out : (run_alone v).out ≡ (table_run w (station_lent v).state (call_alone v).inputs (call_alone v).out).out

accepted_matches : (v : StationIn) → number_or_0 v.call.returned.refusal ≡ 0 → Matches (table_served v.call) v
unfolding FairCalls station_lent station_left ticks_served sets_rest words_lent words_left call_alone run_alone
accepted_matches v e =
    let al = (fair_calls v.call e).alone v.number v.listed in
    record { done = al.done; state = al.state; out = al.words }

-- a refused call serves no tick
refused_matches : (v : StationIn) → (number_or_0 v.call.returned.refusal ≡ 0 → ⊥) → Matches (table_served v.call) v
unfolding RefusedCalls station_lent station_left ticks_served words_lent words_left call_alone run_alone
refused_matches v n =
    let w = table_served v.call in
    let s = station_lent v in
    let own = (call_alone v).out in
    let kept = refused_calls v.call n in
    let same : station_left v ≡ s = ap (λ (ss : List Station). get_or ss v.number blank) kept.0 in
    let none : ticks_served v ≡ 0 = ap (λ (x : Station). x.position - s.position) same ∙ sub_self s.position in
    let run : table_run w s.state (call_alone v).inputs own ≡ table_run w s.state [] own =
    ap (λ (j : ℕ). table_run w s.state (take j (sets_rest v)) own) none in
    let r = run_none w s.state own in
    record {
      done = ap (λ (x : Run). x.done) run ∙ r.0 ∙ sym none;
      state = ap (λ (x : Station). x.state) same ∙ sym (ap (λ (x : Run). x.state) run ∙ r.1);
      out = ap (λ (o : List ℕ). drop (5 * s.position) (words_of s o)) kept.1 ∙ sym (ap (λ (x : Run). x.out) run ∙ r.2);
    }

matches : (v : StationIn) → Matches (table_served v.call) v
matches v = go (eqb refusal 0) refl
  where
    refusal : ℕ
    refusal = number_or_0 v.call.returned.refusal

    go : (b : Bool) → eqb refusal 0 ≡ b → Matches (table_served v.call) v
    go true e = accepted_matches v (eqb-true refusal 0 e)
    go false e = refused_matches v (eqb-false refusal 0 e)

state_is : (v : StationIn) (r : Run) → run_alone v ≡ r → (station_left v).state ≡ r.state
unfolding run_alone
state_is v r e = ap (λ (x : Run). x.state) e

-- ---- demand 3

-- on an accepted table
module _ (s w : List ℕ) (a : Accepted s w) where
  run_is : (v : StationIn) → table_served v.call ≡ w → T (table_state_ok w (station_lent v).state)
      → run_alone v ≡ table_run w (station_lent v).state (call_alone v).inputs (call_alone v).out
  unfolding call_alone run_alone
  run_is v table ok =
      let m = subst (λ (t : List ℕ). Matches t v) table (matches v) in
      let few = few_sets (ticks_served v) (sets_rest v) in
      ap₂ (λ (q : State) (out : List ℕ). record { done = ticks_served v; state = q; refusal = 0; rounds = 0; out = out })
      m.state m.out
      ∙ sym (all_done_lem s w a (station_lent v).state ok (call_alone v).inputs (call_alone v).out (ticks_served v) few m.done)
    where
      few_sets : (j : ℕ) (l : List ℕ) → length (take j l) ≤ j
      few_sets j l = subst (λ (n : ℕ). n ≤ j) (sym (length-take j l)) (min-le_left j (length l))

  runs_are : (q : State) → T (table_state_ok w q) → (vs : List StationIn) → StateHandedOn w q vs
      → map run_alone vs ≡ runs_from w q (map call_alone vs)
  unfolding StateHandedOn runs_from
  runs_are q ok [] h = refl
  runs_are q ok (v ∷ vs) h =
      let is = (call_alone v).inputs in
      let out = (call_alone v).out in
      let first : run_alone v ≡ table_run w q is out =
      run_is v h.0 (subst (λ (p : State). T (table_state_ok w p)) (sym h.1) ok) ∙ ap (λ (p : State). table_run w p is out) h.1 in
      let state = state_is v (table_run w q is out) first in
      let good = subst (λ (p : State). T (table_state_ok w p)) (sym state) (left_admitted s w a q ok is out) in
      ap₂ (λ (r : Run) (rs : List Run). r ∷ rs) first
      (runs_are (station_left v).state good vs h.2 ∙ ap (λ (p : State). runs_from w p (map call_alone vs)) state)

  stations_served : (vs : List StationIn) → StateHandedOn w power_on vs → Served s w (map call_alone vs) (map run_alone vs)
  unfolding AcceptedServes
  stations_served vs handed =
      subst (λ (rs : List Run). Served s w (map call_alone vs) rs) (sym (runs_are power_on (fresh_admitted w) vs handed))
      (accepted_serves_lem s w a (map call_alone vs))

pub station_demand_3 : StationDemand3
unfolding StationDemand3
station_demand_3 c passed = stations_served (sheet_words c) (table_words c) (compile_accepted c passed)

pub accepted_station_demand_3 : AcceptedStationDemand3
unfolding AcceptedStationDemand3
accepted_station_demand_3 c passed = stations_served (sheet_checked c) (table_checked c) (sym (check_is c) ∙ passed)
