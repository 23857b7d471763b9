-- Ask 6: the theorems. Assumes nothing.
use mathlib.Core.Path.{◌≡◌, refl, sym, ap, ap₂, ◌∙◌, subst}
use mathlib.Core.Logic.{◌⊎◌, inl, inr}
use mathlib.Core.Bool.{Bool, true, false}
use mathlib.Core.List.{List, ◌++◌}
use Prim.Native.Nat.{ℕ, ◌+◌, ◌-◌, ◌*◌, ◌/◌, ◌≤◌, ◌<◌}
use native.Mathlib.Omega.{arith}
use lib.ListN.{length, get_or, take, drop, take-append-drop}
use Rattle.sets.proofs.Tests.{of_true}
use Rattle.meaning.specs.Run.{State, Run}
use Rattle.meaning.specs.TableRun.{table_run}
use Rattle.meaning.specs.Stations.{Station, blank, has_work, station_at, all_passes, StationsRun, standing_at, call_done, serve_stations}
use Rattle.meaning.specs.TickAllowance.{words_of, rest_of, alone_on, Alone, Marked, Fair, Stations, Isolation}
use Rattle.turns.proofs.Parts.{Parts, parts_of}
use Rattle.allowance.proofs.Calls.{Accepted, accepted}
use Rattle.allowance.proofs.EachStation.{all, alone, marked, served_sum, number_same, idle_end, share_of}

pub stations : Stations
unfolding Stations
stations w ss inputs out allowance h = subst (Fair w ss inputs out allowance) (sym ac.is) fair
  where
    ac : Accepted w ss inputs out allowance
    ac = accepted w ss inputs out allowance h

    ps : Parts inputs (standing_at ss out allowance)
    ps = parts_of inputs (standing_at ss out allowance) ac.parts

    fair : Fair w ss inputs out allowance (call_done allowance (all_passes w inputs (standing_at ss out allowance)))
    fair =
        record {
          number = number_same w inputs ac.table (standing_at ss out allowance) ps;
          words = (all w inputs ac.table (standing_at ss out allowance) ps).room;
          sum = served_sum w inputs ac.table (standing_at ss out allowance) ps;
          bounded = omega arith;
          ends = idle_end w inputs ac.table (standing_at ss out allowance) ps;
          alone = alone w inputs ac.table (standing_at ss out allowance) ps;
          outside = (all w inputs ac.table (standing_at ss out allowance) ps).outside;
          marks = marked w inputs ac.table (standing_at ss out allowance) ps;
          least = λ i l e. go i l e (has_work (station_at (all_passes w inputs (standing_at ss out allowance)) i)) refl;
        }
      where
        go : (i : ℕ) → i < length ss → has_work (get_or ss i blank) ≡ true
            → let s = get_or ss i blank in
            let end = station_at (all_passes w inputs (standing_at ss out allowance)) i in
            (x : Bool) → has_work end ≡ x
            → (end.position - s.position ≡ (alone_on w s (rest_of s inputs) out).done)
            ⊎ (allowance / length ss ≤ end.position - s.position)
        go i l e false z = inl ((marked w inputs ac.table (standing_at ss out allowance) ps i l).settled e z).1
        go i l e true z = inr (share_of w inputs ac.table (standing_at ss out allowance) ps i l (of_true z))

-- ---- isolation, from the run alone
pub isolation : Isolation
unfolding Isolation Stations
isolation w ss ss₂ inputs inputs₂ out out₂ allowance allowance₂ i i₂ h =
    record {
      state = same_state;
      words = λ e. sym (take-append-drop (5 * s.position) (words_of s r.out))
          ∙ ap₂ (λ (x y : List ℕ). x ++ y) (al.words_before_lem ∙ before_same ∙ sym al₂.words_before_lem)
          (al.words ∙ ap (λ (x : Run). x.out) (run_same e) ∙ sym al₂.words)
          ∙ take-append-drop (5 * s₂.position) (words_of s₂ r₂.out);
      stop = λ e e₂ z z₂.
          let m = mk.settled e z in
          let m₂ = mk₂.settled e₂ z₂ in
          let p : end.position ≡ end₂.position = positions_same (m.1 ∙ ap (λ (x : Run). x.done) whole_same ∙ sym m₂.1) in
          (m.0 ∙ ap (λ (x : Run). x.refusal) whole_same ∙ sym m₂.0, p, same_state p);
    }
  where
    r : StationsRun
    r = serve_stations w ss inputs out allowance

    r₂ : StationsRun
    r₂ = serve_stations w ss₂ inputs₂ out₂ allowance₂

    s : Station
    s = get_or ss i blank

    s₂ : Station
    s₂ = get_or ss₂ i₂ blank

    end : Station
    end = get_or r.stations i blank

    end₂ : Station
    end₂ = get_or r₂.stations i₂ blank

    j : ℕ
    j = end.position - s.position

    j₂ : ℕ
    j₂ = end₂.position - s₂.position

    fair : Fair w ss inputs out allowance r
    fair = stations w ss inputs out allowance h.accepted

    fair₂ : Fair w ss₂ inputs₂ out₂ allowance₂ r₂
    fair₂ = stations w ss₂ inputs₂ out₂ allowance₂ h.accepted₂

    al : Alone w inputs out r.out s end j
    al = fair.alone i h.in_list

    al₂ : Alone w inputs₂ out₂ r₂.out s₂ end₂ j₂
    al₂ = fair₂.alone i₂ h.in_list₂

    mk : Marked w inputs out r.out s end j
    mk = fair.marks i h.in_list

    mk₂ : Marked w inputs₂ out₂ r₂.out s₂ end₂ j₂
    mk₂ = fair₂.marks i₂ h.in_list₂

    -- a run alone of the one is one of the other
    runs_same : (is is₂ : List ℕ) → is ≡ is₂ → alone_on w s is out ≡ alone_on w s₂ is₂ out₂
    runs_same is is₂ e =
        ap (λ (x : List ℕ). table_run w s.state x (drop (5 * s.position) (words_of s out))) e
        ∙ ap (λ (x : State). table_run w x is₂ (drop (5 * s.position) (words_of s out))) h.state
        ∙ ap (λ (x : ℕ). table_run w s₂.state is₂ (drop (5 * x) (words_of s out))) h.position
        ∙ ap (λ (x : List ℕ). table_run w s₂.state is₂ (drop (5 * s₂.position) x)) h.words

    run_same : end.position ≡ end₂.position
        → alone_on w s (take j (rest_of s inputs)) out ≡ alone_on w s₂ (take j₂ (rest_of s₂ inputs₂)) out₂
    run_same e =
        let f : j ≡ j₂ = ap₂ (λ (x y : ℕ). x - y) e h.position in
        runs_same (take j (rest_of s inputs)) (take j₂ (rest_of s₂ inputs₂)) (ap₂ (λ (x : ℕ) (y : List ℕ). take x y) f h.rest)

    whole_same : alone_on w s (rest_of s inputs) out ≡ alone_on w s₂ (rest_of s₂ inputs₂) out₂
    whole_same = runs_same (rest_of s inputs) (rest_of s₂ inputs₂) h.rest

    before_same : take (5 * s.position) (words_of s out) ≡ take (5 * s₂.position) (words_of s₂ out₂)
    before_same = ap₂ (λ (x : ℕ) (y : List ℕ). take (5 * x) y) h.position h.words

    same_state : end.position ≡ end₂.position → end.state ≡ end₂.state
    same_state e = al.state ∙ ap (λ (x : Run). x.state) (run_same e) ∙ sym al₂.state

    positions_same : j ≡ j₂ → end.position ≡ end₂.position
    positions_same e = al.position ∙ ap₂ (λ (x y : ℕ). x + y) h.position e ∙ sym al₂.position
