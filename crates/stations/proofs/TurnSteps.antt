-- A station's turns keep what holds before each turn. Assumes nothing.
use mathlib.Core.Path.{◌≡◌, sym, ap, ap₂, ◌∙◌, subst}
use mathlib.Core.Bool.{true}
use mathlib.Core.List.{List}
use Prim.Native.Nat.{ℕ, ◌+◌, ◌-◌, ◌≤◌, ◌<◌}
use native.Mathlib.Omega.{arith}
use lib.Dec.{T}
use lib.ListN.{length, get_or, set, length-set}
use lib.Seq.{get_or-set_same}
use Rattle.sets.specs.Sets.{digit}
use Rattle.sets.proofs.Tests.{of_true, of_false}
use Rattle.meaning.specs.Stations as meaning
use Rattle.meaning.specs.Stations.{Standing, station_at, station_count, has_work, all_passes, parts_ok, call_done}
use Rattle.turns.specs.Sweeps.{working_below, turns_of, sweep_from}
use Rattle.turns.proofs.SweepLaws.{turns_parts, turns_left, turns_fall, passes_spent}
use Rattle.stations.specs.declared.Station.{Station}
use Rattle.stations.specs.declared.Phase.TheVariants.{Serving}
use Rattle.stations.specs.declared.Schedule.{Schedule}
use Rattle.stations.specs.Stations.{station_of, stations_of, unlisted}
use Rattle.stations.specs.Serving.{most, Given}
use Rattle.stations.proofs.AloneTurns.{stations_count, stations_at, given_turns}
use Rattle.stations.proofs.ScheduleLaws.{AfterTurns, served_less}
use Rattle.stations.proofs.SweepSteps.{working_after, sweep_next, sweep_done, sweep_spent}
use Rattle.stations.proofs.Invariant.{stands, last, Sweeping, Going, Serves, one_phase, once_serves}

-- w: the table; inputs: the input list; ss₀, out₀, allowance: where the call began
module _ {w inputs : List ℕ} {ss₀ : List Station} {out₀ : List ℕ} {allowance : ℕ}
    {c : Schedule} {ss : List Station} {work out : List ℕ}
    (v : Serves w inputs ss₀ out₀ allowance c ss work out)
    (g : Going w inputs ss₀ out₀ allowance c ss work out)
    (k : Sweeping w inputs ss₀ out₀ allowance c ss work out) where
  here : c.at < length ss
  here = subst (λ (n : ℕ). c.at < n) v.count g.here

  -- t, out': the station and the output words after its turns
  module _ {t : Station} {r₀ : Schedule} {work' out' : List ℕ}
      (d : Given w inputs (get_or ss c.at unlisted) c work out t r₀ work' out')
      (same_length : length out' ≡ length out) where
    abbrev left : ℕ
    left = d.left

    abbrev ss' : List Station
    ss' = set ss c.at t

    abbrev a : Standing
    a = stands ss out c.left

    abbrev b : Standing
    b = stands ss' out' left

    here_of : c.at < station_count a
    here_of = subst (λ (n : ℕ). c.at < n) (sym (stations_count ss)) here

    -- they are those of the definition
    turned : b ≡ turns_of w inputs c.turns c.at a
    turned = given_turns w inputs c.turns c.at ss out c.left t out' left here d.turns

    own : station_at b c.at ≡ station_of t
    own =
        stations_at ss' c.at (subst (λ (n : ℕ). c.at < n) (sym (length-set ss c.at t)) here)
        ∙ ap station_of (get_or-set_same ss c.at t unlisted here)

    same_count : c.count ≡ length ss'
    same_count = v.count ∙ sym (length-set ss c.at t)

    fit : parts_ok (stations_of ss') inputs out' ≡ true
    fit =
        ap (λ (x : Standing). parts_ok x.stations inputs x.out) turned
        ∙ turns_parts w inputs c.turns c.at a ∙ k.parts

    count_after : c.working + digit (has_work (station_of t)) ≡ working_below (c.at + 1) b
    count_after =
        ap₂ (λ (x : ℕ) (s : meaning.Station). x + digit (has_work s)) g.counted (sym own)
        ∙ sym (working_after w inputs c.turns c.at a b turned)

    rest_after : all_passes w inputs (sweep_from w inputs c.turns (c.count - (c.at + 1)) (c.at + 1) b)
        ≡ last w inputs ss₀ out₀ allowance
    rest_after =
        ap (all_passes w inputs) (sym (sweep_next w inputs c.turns c.at a b turned c.count g.here)) ∙ k.rest

    pub turned_serves : (r : Schedule) → AfterTurns c left (has_work (station_of t)) r
        → Serves w inputs ss₀ out₀ allowance r ss' work out'
    turned_serves r (AfterTurns.spent e) =
        record {
          count = same_count;
          stations = length-set ss c.at t ∙ v.stations;
          room = same_length ∙ v.room;
          words = v.words;
          going = λ z. absurd (of_false z tt);
          ended = λ _. ap (call_done allowance) over ∙ sym k.goes;
        }
      where
        over : b ≡ last w inputs ss₀ out₀ allowance
        over =
            sym (passes_spent w inputs b e)
            ∙ ap (all_passes w inputs) (sym (sweep_spent w inputs c.turns (c.count - (c.at + 1)) (c.at + 1) b e)) ∙ rest_after
    turned_serves r (AfterTurns.more y l) =
        record {
          count = same_count;
          stations = length-set ss c.at t ∙ v.stations;
          room = same_length ∙ v.room;
          words = v.words;
          going =
              λ _. record {
                table = g.table;
                few = g.few;
                here = l;
                counted = count_after;
                looking = λ z. absurd (one_phase (sym z));
                sweeping =
                    λ _. record {
                      some_left = y;
                      some_turns = k.some_turns;
                      noted = k.noted;
                      parts = fit;
                      rest = rest_after;
                      goes = k.goes;
                    };
              };
          ended = λ z. absurd (of_true z);
        }
    turned_serves r (AfterTurns.all y l _ o) =
        once_serves w inputs ss₀ out₀ allowance ss' work out' left (c.working + digit (has_work (station_of t))) c.count r
        (record {
          table = g.table;
          few = subst (λ (n : ℕ). n ≤ 64) same_count g.few;
          some_stations = subst (λ (n : ℕ). 0 < n) same_count (omega (arith, g.here));
          stations = length-set ss c.at t ∙ v.stations;
          room = same_length ∙ v.room;
          words = v.words;
          noted = k.noted;
          parts = fit;
          rest = ap (all_passes w inputs) (sym (sweep_done w inputs c.turns c.count (c.at + 1) b l)) ∙ rest_after;
          goes = k.goes;
        })
        same_count (count_after ∙ ap (λ (n : ℕ). working_below n b) last_one) o
      where
        last_one : c.at + 1 ≡ c.count
        last_one = omega (arith, l, g.here)

    -- the number falls
    pub turned_less : (r : Schedule) → c.phase ≡ Serving → AfterTurns c left (has_work (station_of t)) r → most r < most c
    turned_less r e n = served_less c left (has_work (station_of t)) g.here r e no_more falls n
      where
        is : left ≡ (turns_of w inputs c.turns c.at a).left
        is = ap (λ (x : Standing). x.left) turned

        no_more : left ≤ c.left
        no_more = subst (λ (x : ℕ). x ≤ c.left) (sym is) (turns_left w inputs c.turns c.at a)

        falls : T (has_work (station_of t)) → left < c.left
        falls h =
            subst (λ (x : ℕ). x < c.left) (sym is)
            (turns_fall w inputs c.turns c.at a k.some_left k.some_turns here_of
            (subst (λ (s : meaning.Station). T (has_work s)) (sym own ∙ ap (λ (x : Standing). station_at x c.at) turned) h))
