-- A look at a station's parts keeps what holds before each turn. Assumes nothing.
use mathlib.Core.Path.{◌≡◌, refl, sym, ap, ap₂, ◌∙◌, subst}
use mathlib.Core.Logic.{◌⊎◌, inl, inr}
use mathlib.Core.Bool.{Bool, true, false}
use mathlib.Core.List.{List}
use Prim.Native.Nat.{ℕ, ◌+◌, ◌*◌, ◌≤◌, ◌<◌}
use native.Mathlib.Nat.{eq-or-lt_of_le, le_of_suc-le-suc}
use native.Mathlib.Numerals.{add-one}
use native.Mathlib.Omega.{arith}
use lib.ListN.{length, get_or}
use Rattle.sets.specs.Sets.{digit, every}
use Rattle.sets.proofs.Tests.{of_true, of_false}
use Rattle.sets.proofs.Loops.{every_next}
use Rattle.meaning.specs.Stations as meaning
use Rattle.meaning.specs.Stations.{Standing, has_work, all_passes, wrong_number, parts_ok}
use Rattle.turns.specs.Sweeps.{working_below}
use Rattle.stations.specs.declared.Station.{Station}
use Rattle.stations.specs.declared.Schedule.{Schedule}
use Rattle.stations.specs.Stations.{station_of, stations_of, unlisted}
use Rattle.stations.specs.Serving.{PartsAt, Looked}
use Rattle.stations.proofs.AloneTurns.{stations_count, stations_at}
use Rattle.stations.proofs.ScheduleLaws.{AfterLook}
use Rattle.stations.proofs.LookLaws.{look_ok, looks_parts, look_fails}
use Rattle.stations.proofs.CallLaws.{call_parts, call_goes, number_e}
use Rattle.stations.proofs.SweepSteps.{working_next}
use Rattle.stations.proofs.Invariant.{stands, last, Looking, Going, Serves, one_phase, once_serves, refused}

-- w: the table; inputs: the input list; ss₀, out₀, allowance: where the call began
module _ {w inputs : List ℕ} {ss₀ : List Station} {out₀ : List ℕ} {allowance : ℕ}
    {c : Schedule} {ss : List Station} {work out : List ℕ}
    (v : Serves w inputs ss₀ out₀ allowance c ss work out)
    (g : Going w inputs ss₀ out₀ allowance c ss work out)
    (k : Looking w inputs ss₀ out₀ allowance c ss work out) where
  number : wrong_number (length (stations_of ss₀)) ≡ false
  number = ap wrong_number (stations_count ss₀ ∙ sym (v.count ∙ v.stations)) ∙ k.number

  parts_same : parts_ok (stations_of ss₀) inputs out₀ ≡ parts_ok (stations_of ss) inputs out
  parts_same = rw (k.same_stations, k.same_out) refl

  -- work': the work words after it
  module _ {t : Station} {r₀ : Schedule} {work' out' : List ℕ}
      (l : Looked w inputs (get_or ss c.at unlisted) c work out t r₀ work' out')
      (same-words : length work' ≡ length work) where
    abbrev here : c.at < length ss
    here = subst (λ (n : ℕ). c.at < n) v.count g.here

    abbrev a : Standing
    a = stands ss out c.left

    abbrev works : Bool
    works = has_work (station_of (get_or ss c.at unlisted))

    looked_parts : (m : ℕ) → m < c.at + 1 → PartsAt work' m (get_or ss m unlisted)
    looked_parts m z = go (eq-or-lt_of_le (le_of_suc-le-suc (subst (λ (n : ℕ). m < n) (add-one c.at) z)))
      where
        go : (m ≡ c.at) ⊎ (m < c.at) → PartsAt work' m (get_or ss m unlisted)
        go (inl e) = subst (λ (n : ℕ). PartsAt work' n (get_or ss n unlisted)) (sym e) l.parts
        go (inr y) =
            let (p, q, r, s) = k.parts m y in
            let same = l.others in (
              same (4 * m) (omega arith) ∙ p,
              same (4 * m + 1) (omega arith) ∙ q,
              same (4 * m + 2) (omega arith) ∙ r,
              same (4 * m + 3) (omega arith) ∙ s,
            )

    looked_count : c.working + digit works ≡ working_below (c.at + 1) a
    looked_count =
        ap₂ (λ (x : ℕ) (s : meaning.Station). x + digit (has_work s)) g.counted (sym (stations_at ss c.at here))
        ∙ sym (working_next c.at a)

    pub looked_serves : (r : Schedule) → AfterLook c (look_ok (stations_of ss) inputs out c.at) works r
        → Serves w inputs ss₀ out₀ allowance r ss work' out
    looked_serves r (AfterLook.bad e) =
        record {
          count = v.count;
          stations = v.stations;
          room = v.room;
          words = same-words ∙ v.words;
          going = λ z. absurd (of_false z tt);
          ended =
              λ _. refused w inputs ss₀ out₀ allowance r ss out k.same_stations k.same_out k.whole
              ∙ sym (call_parts w (stations_of ss₀) inputs out₀ allowance g.table number broken);
        }
      where
        broken : parts_ok (stations_of ss₀) inputs out₀ ≡ false
        broken =
            parts_same
            ∙ look_fails (stations_of ss) inputs out c.at (subst (λ (n : ℕ). c.at < n) (sym (stations_count ss)) here) e
    looked_serves r (AfterLook.more e y) =
        record {
          count = v.count;
          stations = v.stations;
          room = v.room;
          words = same-words ∙ v.words;
          going =
              λ _. record {
                table = g.table;
                few = g.few;
                here = y;
                counted = looked_count;
                looking =
                    λ _. record {
                      same_stations = k.same_stations;
                      same_out = k.same_out;
                      whole = k.whole;
                      number = k.number;
                      well = every_next (look_ok (stations_of ss) inputs out) c.at k.well e;
                      parts = looked_parts;
                      noted = λ _. l.noted;
                    };
                sweeping = λ z. absurd (one_phase z);
              };
          ended = λ z. absurd (of_true z);
        }
    looked_serves r (AfterLook.all e y _ o) =
        once_serves w inputs ss₀ out₀ allowance ss work' out c.left (c.working + digit works) c.count r
        (record {
          table = g.table;
          few = subst (λ (n : ℕ). n ≤ 64) v.count g.few;
          some_stations = subst (λ (n : ℕ). 0 < n) v.count (number_e c.count k.number).0;
          stations = v.stations;
          room = v.room;
          words = same-words ∙ v.words;
          noted = l.noted;
          parts = fit;
          rest = rest;
          goes = call_goes w (stations_of ss₀) inputs out₀ allowance g.table number (parts_same ∙ fit);
        })
        v.count (looked_count ∙ ap (λ (n : ℕ). working_below n a) last_one) o
      where
        last_one : c.at + 1 ≡ c.count
        last_one = omega (arith, y, g.here)

        fit : parts_ok (stations_of ss) inputs out ≡ true
        fit =
            sym (looks_parts (stations_of ss) inputs out)
            ∙ ap (λ (n : ℕ). every n (look_ok (stations_of ss) inputs out)) (stations_count ss ∙ sym v.count ∙ sym last_one)
            ∙ every_next (look_ok (stations_of ss) inputs out) c.at k.well e

        rest : all_passes w inputs (stands ss out c.left) ≡ last w inputs ss₀ out₀ allowance
        rest = rw (k.same_stations, k.same_out, k.whole) refl
