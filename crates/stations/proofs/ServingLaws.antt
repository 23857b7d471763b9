-- The loop over the turns of a call: what it keeps, that it ends, and what holds then. Assumes nothing.
use Rattle.std.specs.Prelude.{Option, Some}
use mathlib.Core.Path.{◌≡◌, refl, sym, ap, ◌∙◌, subst}
use mathlib.Core.Bool.{Bool, true, false, not, cond}
use mathlib.Core.List.{List}
use Prim.Native.Nat.{ℕ, ◌≤◌, ◌<◌}
use native.Mathlib.Nat.{not-suc-le-zero}
use lib.ListN.{length, get_or, drop, set}
use lib.Seq.{set-get_or}
use Rattle.sets.proofs.Tests.{of_true, of_false}
use Rattle.sets.proofs.Loops.{every_start}
use Rattle.meaning.specs.declared.refusal.Refusal.{Refusal}
use Rattle.meaning.specs.declared.refusal.Refusal.TheVariants.{Layout, Stations}
use Rattle.meaning.specs.Refusal.{number_or_0}
use Rattle.meaning.specs.Table.{table_ok}
use Rattle.meaning.specs.Stations.{has_work, wrong_number, call_refused}
use Rattle.recorder.specs.Timers.{Noted}
use Rattle.stations.specs.declared.Station.{Station}
use Rattle.stations.specs.declared.Phase.{Phase}
use Rattle.stations.specs.declared.Phase.TheVariants.{Looking, Serving, Over}
use Rattle.stations.specs.declared.Schedule.{Schedule}
use Rattle.stations.specs.Stations.{station_of, stations_of, unlisted}
use Rattle.stations.specs.Serving.{is_looking, is_over, stops_at, first_of, looked_of, most, parts_within, Ready, Stepped}
use Rattle.stations.proofs.AloneTurns.{stations_count}
use Rattle.stations.proofs.ScheduleLaws.{AfterLook, looked_is, looked_less, AfterTurns, served_is}
use Rattle.stations.proofs.LookLaws.{look_ok, parts_fit_lem, within_is, look_is}
use Rattle.stations.proofs.CallLaws.{call_table, call_number, number_e}
use Rattle.stations.proofs.SweepSteps.{working_none, working_le}
use Rattle.stations.proofs.Invariant.{stands, answer, Serves, one_phase, the_middle, refused}
use Rattle.stations.proofs.LookSteps.{looked_serves}
use Rattle.stations.proofs.TurnSteps.{turned_serves, turned_less}

-- the start: 15, then 18, else a look at the first station
start : (w inputs : List ℕ) (ss : List Station) (work out : List ℕ) (left : ℕ) → length work ≡ 4449
    → Serves w inputs ss out left (first_of w (length ss) left) ss work out
unfolding first_of
start w inputs ss work out left words = go (table_ok w) (wrong_number (length ss)) refl refl
  where
    n : ℕ
    n = length ss

    first : Schedule
    first = record { phase = Looking; at = 0; count = n; left = left; turns = 0; working = 0 }

    stop : (e : Option Refusal) → call_refused (number_or_0 e) (stations_of ss) out ≡ answer w inputs ss out left
        → Serves w inputs ss out left (stops_at e 0 n left) ss work out
    stop e q =
        record {
          count = refl;
          stations = refl;
          room = refl;
          words = words;
          going = λ z. absurd (of_false z tt);
          ended = λ _. refused w inputs ss out left (stops_at e 0 n left) ss out refl refl refl ∙ q;
        }

    same : wrong_number (length (stations_of ss)) ≡ wrong_number n
    same = ap wrong_number (stations_count ss)

    go : (x y : Bool) → table_ok w ≡ x → wrong_number n ≡ y
        → Serves w inputs ss out left (cond (not x) (stops_at (Some Layout) 0 n left) (cond y (stops_at (Some Stations) 0 n left) first)) ss work out
    go false y e f = stop (Some Layout) (sym (call_table w (stations_of ss) inputs out left e))
    go true true e f = stop (Some Stations) (sym (call_number w (stations_of ss) inputs out left e (same ∙ f)))
    go true false e f =
        record {
          count = refl;
          stations = refl;
          room = refl;
          words = words;
          going =
              λ _. record {
                table = e;
                few = (number_e n f).1;
                here = (number_e n f).0;
                counted = sym (working_none (stands ss out left));
                looking =
                    λ _. record {
                      same_stations = refl;
                      same_out = refl;
                      whole = refl;
                      number = f;
                      well = every_start (look_ok (stations_of ss) inputs out);
                      parts = λ m l. absurd (not-suc-le-zero l);
                      noted = λ l. absurd (not-suc-le-zero l);
                    };
                sweeping = λ z. absurd (one_phase z);
              };
          ended = λ z. absurd (of_true z);
        }

pub serves_start : {w inputs : List ℕ} {c : Schedule} {ss : List Station} {work out : List ℕ} → c ≡ first_of w (length ss) c.left
    → length work ≡ 4449 → Serves w inputs ss out c.left c ss work out
serves_start {w} {inputs} {c} {ss} {work} {out} e words =
    subst (λ (x : Schedule). Serves w inputs ss out c.left x ss work out) (sym e) (start w inputs ss work out c.left words)

-- w: the table; inputs: the input list; ss₀, out₀, allowance: where the call began
module _ {w inputs : List ℕ} {ss₀ : List Station} {out₀ : List ℕ} {allowance : ℕ}
    {c : Schedule} {ss : List Station} {work out : List ℕ}
    (v : Serves w inputs ss₀ out₀ allowance c ss work out) where
  here : is_over c.phase ≡ false → c.at < length ss
  here e = subst (λ (n : ℕ). c.at < n) v.count (v.going e).here

  still : is_over c.phase ≡ false → (why : Option Refusal) → c.phase ≡ Over why → ⊥
  still e why s = of_false e (of_true (ap is_over s))

  -- a turn may come
  pub serves_ready : is_over c.phase ≡ false → (c.at < length ss) × Ready w inputs (get_or ss c.at unlisted) c work out
  serves_ready e =
      let g = v.going e in (
        here e,
        record {
          table = g.table;
          here = g.here;
          few = g.few;
          counted = subst (λ (n : ℕ). n ≤ c.at) (sym g.counted) (working_le c.at (stands ss out c.left));
          room = v.words;
          noted = λ l. noted l c.phase refl;
          serves = λ n. let s = the_middle c.phase n e in let k = g.sweeping s in (k.some_left, k.some_turns, k.noted, within s);
        },
      )
    where
      noted : 0 < c.at → (x : Phase) → c.phase ≡ x → Noted w (drop 256 work)
      noted l Looking s = ((v.going e).looking s).noted l
      noted l Serving s = ((v.going e).sweeping s).noted
      noted l (Over why) s = absurd (still e why s)

      here_of : c.at < length (stations_of ss)
      here_of = subst (λ (n : ℕ). c.at < n) (sym (stations_count ss)) (here e)

      within : c.phase ≡ Serving → parts_within (length inputs) (length out) (get_or ss c.at unlisted) ≡ true
      within s =
          within_is ss inputs out c.at (here e)
          ∙ parts_fit_lem (stations_of ss) inputs out c.at here_of ((v.going e).sweeping s).parts

  -- a turn
  module _ {r : Schedule} {ss' : List Station} {work' out' : List ℕ}
      (e : is_over c.phase ≡ false) (p : Stepped w inputs c ss work out r ss' work' out') where
    -- the schedule after a look, and after a station's turns
    after_look : c.phase ≡ Looking
        → AfterLook c (look_ok (stations_of ss) inputs out c.at) (has_work (station_of (get_or ss c.at unlisted))) r
    after_look s =
        let works = has_work (station_of (get_or ss c.at unlisted)) in
        let well = look_ok (stations_of ss) inputs out c.at in
        let same = look_is ss inputs out work c.at (here e) ((v.going e).looking s).parts in
        subst (AfterLook c well works) (sym ((p.turned.looked s).schedule ∙ ap (λ (x : Bool). looked_of c x works) same))
        (looked_is c well works)

    after_turns : (n : is_looking c.phase ≡ false) → AfterTurns c (p.turned.served n).left (has_work (station_of p.station)) r
    after_turns n =
        let k = p.turned.served n in
        let works = has_work (station_of p.station) in
        subst (AfterTurns c k.left works) (sym k.schedule) (served_is c k.left works)

    pub serves_step : Serves w inputs ss₀ out₀ allowance r ss' work' out'
    serves_step = go c.phase refl
      where
        go : (x : Phase) → c.phase ≡ x → Serves w inputs ss₀ out₀ allowance r ss' work' out'
        go Looking s =
            let l = p.turned.looked s in
            let same : ss' ≡ ss = p.put ∙ ap (set ss c.at) l.station ∙ set-get_or ss c.at unlisted in
            let g = v.going e in
            rw (same, l.same_out) (looked_serves v g (g.looking s) l p.same_room r (after_look s))
        go (Over why) s = absurd (still e why s)
        go Serving s =
            let n = ap is_looking s in
            let d = p.turned.served n in
            let g = v.going e in
            rw (p.put, d.same_work) (turned_serves v g (g.sweeping s) d p.same_length r (after_turns n))

    pub serves_less : most r < most c
    serves_less = go c.phase refl
      where
        go : (x : Phase) → c.phase ≡ x → most r < most c
        go Looking s = looked_less c r _ _ s (v.going e).here (after_look s)
        go (Over why) s = absurd (still e why s)
        go Serving s =
            let n = ap is_looking s in
            let g = v.going e in
            turned_less v g (g.sweeping s) (p.turned.served n) p.same_length r s (after_turns n)
