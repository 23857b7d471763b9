-- The loop over the turns of a call: what holds before each turn and at the end; the start of a sweep and the end. Assumes nothing.
use mathlib.Core.Path.{◌≡◌, refl, sym, ap, ◌∙◌, subst}
use mathlib.Core.Logic.{◌⊎◌, inl, inr}
use mathlib.Core.Bool.{true, false}
use mathlib.Core.List.{List}
use Prim.Native.Nat.{ℕ, ◌-◌, ◌*◌, ◌/◌, ◌≤◌, ◌<◌, max}
use native.Mathlib.Nat.{sub_self, sub-zero}
use lib.ListN.{length, get_or, drop}
use Rattle.sets.specs.Sets.{every}
use Rattle.sets.proofs.Tests.{of_true, of_false}
use Rattle.meaning.specs.Refusal.{number_or_0}
use Rattle.meaning.specs.Table.{table_ok}
use Rattle.meaning.specs.Stations as meaning
use Rattle.meaning.specs.Stations.{Standing, station_count, all_passes, wrong_number, parts_ok, standing_at, call_done, call_refused, serve_stations}
use Rattle.turns.specs.Sweeps.{working_below, sweep_from}
use Rattle.turns.proofs.SweepLaws.{passes_spent, passes_idle, sweep_passes}
use Rattle.recorder.specs.Timers.{Noted}
use Rattle.stations.specs.declared.Station.{Station}
use Rattle.stations.specs.declared.Phase.{Phase}
use Rattle.stations.specs.declared.Phase.TheVariants as phase
use Rattle.stations.specs.declared.Schedule.{Schedule}
use Rattle.stations.specs.Stations.{stations_of, unlisted}
use Rattle.stations.specs.Serving.{is_looking, is_over, refusal_at_end, end_of, PartsAt}
use Rattle.stations.proofs.AloneTurns.{stations_count}
use Rattle.stations.proofs.ScheduleLaws.{turns_some, turns_good, Once, ends, again}
use Rattle.stations.proofs.LookLaws.{look_ok}
use Rattle.stations.proofs.SweepSteps.{working_none}

-- no phase is both
pub one_phase : phase.Looking ≡ phase.Serving → ⊥
one_phase e = of_false (ap is_looking e) tt

-- neither the first nor the last
pub the_middle : (x : Phase) → is_looking x ≡ false → is_over x ≡ false → x ≡ phase.Serving
the_middle phase.Looking e f = absurd (of_false e tt)
the_middle phase.Serving e f = refl
the_middle (phase.Over _) e f = absurd (of_false f tt)

-- where the definition stands with these stations, output words and ticks left
abbrev pub stands : List Station → List ℕ → ℕ → Standing
stands ss out left = standing_at (stations_of ss) out left

-- w: the table; inputs: the input list; ss₀, out₀, allowance: where the call began
module _ (w inputs : List ℕ) (ss₀ : List Station) (out₀ : List ℕ) (allowance : ℕ) where
  -- what the definition answers, and where its passes end
  abbrev pub answer : meaning.StationsRun
  answer = serve_stations w (stations_of ss₀) inputs out₀ allowance

  abbrev pub last : Standing
  last = all_passes w inputs (stands ss₀ out₀ allowance)

  -- before a look: nothing was served, those before this station are well and noted
  pub record Looking (c : Schedule) (ss : List Station) (work out : List ℕ) : Type 0 where
    pub same_stations : ss ≡ ss₀
    pub same_out : out ≡ out₀
    pub whole : c.left ≡ allowance
    pub number : wrong_number c.count ≡ false
    pub well : every c.at (look_ok (stations_of ss) inputs out) ≡ true
    pub parts : (m : ℕ) → m < c.at → PartsAt work m (get_or ss m unlisted)
    pub noted : 0 < c.at → Noted w (drop 256 work)

  -- before a station's turns: the rest of this sweep, and all passes after it, end where those of the definition do
  pub record Sweeping (c : Schedule) (ss : List Station) (work out : List ℕ) : Type 0 where
    pub some_left : 0 < c.left
    pub some_turns : 0 < c.turns
    pub noted : Noted w (drop 256 work)
    pub parts : parts_ok (stations_of ss) inputs out ≡ true
    pub rest : all_passes w inputs (sweep_from w inputs c.turns (c.count - c.at) c.at (stands ss out c.left)) ≡ last
    pub goes : answer ≡ call_done allowance last

  -- before a turn
  pub record Going (c : Schedule) (ss : List Station) (work out : List ℕ) : Type 0 where
    pub table : table_ok w ≡ true
    pub few : c.count ≤ 64
    pub here : c.at < c.count
    pub counted : c.working ≡ working_below c.at (stands ss out c.left)
    pub looking : c.phase ≡ phase.Looking → Looking c ss work out
    pub sweeping : c.phase ≡ phase.Serving → Sweeping c ss work out

  pub record Serves (c : Schedule) (ss : List Station) (work out : List ℕ) : Type 0 where
    pub count : c.count ≡ length ss
    pub stations : length ss ≡ length ss₀
    pub room : length out ≡ length out₀
    pub words : length work ≡ 4449
    pub going : is_over c.phase ≡ false → Going c ss work out
    pub ended : is_over c.phase ≡ true → end_of allowance c ss out ≡ answer

  -- ---- between two sweeps, and before the first: all passes from here end where those of the definition do
  pub record Between (ss : List Station) (work out : List ℕ) (left : ℕ) : Type 0 where
    pub table : table_ok w ≡ true
    pub few : length ss ≤ 64
    pub some_stations : 0 < length ss
    pub stations : length ss ≡ length ss₀
    pub room : length out ≡ length out₀
    pub words : length work ≡ 4449
    pub noted : Noted w (drop 256 work)
    pub parts : parts_ok (stations_of ss) inputs out ≡ true
    pub rest : all_passes w inputs (stands ss out left) ≡ last
    pub goes : answer ≡ call_done allowance last

  pub once_serves : (ss : List Station) (work out : List ℕ) (left k n : ℕ) (r : Schedule) → Between ss work out left → n ≡ length ss
      → k ≡ working_below n (stands ss out left) → Once n left k r → Serves r ss work out
  once_serves ss work out left k n r b en ek (ends h) =
      record {
        count = en;
        stations = b.stations;
        room = b.room;
        words = b.words;
        going = λ e. absurd (of_false e tt);
        ended = λ _. ap (call_done allowance) (sym (over h) ∙ b.rest) ∙ sym b.goes;
      }
    where
      a : Standing
      a = stands ss out left

      over : (left ≡ 0) ⊎ (k ≡ 0) → all_passes w inputs a ≡ a
      over (inl e) = passes_spent w inputs a e
      over (inr e) = passes_idle w inputs a (ap (λ (x : ℕ). working_below x a) (stations_count ss ∙ sym en) ∙ sym ek ∙ e)
  once_serves ss work out left k n r b en ek (again y z) =
      record {
        count = en;
        stations = b.stations;
        room = b.room;
        words = b.words;
        going =
            λ _. record {
              table = b.table;
              few = subst (λ (x : ℕ). x ≤ 64) (sym en) b.few;
              here = subst (λ (x : ℕ). 0 < x) (sym en) b.some_stations;
              counted = sym (working_none a);
              looking = λ e. absurd (one_phase (sym e));
              sweeping =
                  λ _. record {
                    some_left = y;
                    some_turns = turns_some left k;
                    noted = b.noted;
                    parts = b.parts;
                    rest = begins;
                    goes = b.goes;
                  };
            };
        ended = λ e. absurd (of_true e);
      }
    where
      a : Standing
      a = stands ss out left

      p : ℕ
      p = max 1 (left / k)

      all : n ≡ station_count a
      all = en ∙ sym (stations_count ss)

      good : (p ≡ 1) ⊎ (p * working_below (station_count a) a ≤ a.left)
      good = subst (λ (x : ℕ). (p ≡ 1) ⊎ (p * x ≤ left)) (ek ∙ ap (λ (x : ℕ). working_below x a) all) (turns_good left k)

      begins : all_passes w inputs (sweep_from w inputs p (n - 0) 0 a) ≡ last
      begins =
          ap (λ (x : ℕ). all_passes w inputs (sweep_from w inputs p x 0 a)) (sub-zero n ∙ all)
          ∙ sweep_passes w inputs p a (of_true b.parts) (turns_some left k) good ∙ b.rest

  -- ---- a refused call
  pub refused : (c : Schedule) (ss : List Station) (out : List ℕ) → ss ≡ ss₀ → out ≡ out₀ → c.left ≡ allowance
      → end_of allowance c ss out ≡ call_refused (number_or_0 (refusal_at_end c.phase)) (stations_of ss₀) out₀
  unfolding call_refused
  refused c ss out es eo el = rw (es, eo, el, sub_self) refl
