-- `stations::serve` meets its contract: the laws that tie its three callees together.
use Rattle.std.specs.Prelude.{Option, Some}
use mathlib.Core.Path.{◌≡◌, refl, sym, ap, ap₂, ◌∙◌, subst}
use mathlib.Core.Bool.{Bool, true, false, not, cond}
use mathlib.Core.List.{List}
use Prim.Native.Nat.{ℕ, ◌-◌}
use lib.ListN.{length}
use Rattle.meaning.specs.declared.refusal.Refusal.{Refusal}
use Rattle.meaning.specs.declared.refusal.Refusal.TheVariants.{Layout, Stations}
use Rattle.meaning.specs.Refusal.{number_or_0}
use Rattle.meaning.specs.Table.{table_ok}
use Rattle.meaning.specs.Stations.{wrong_number, serve_stations}
use Rattle.stations.specs.declared.Station.{Station}
use Rattle.stations.specs.declared.Phase.TheVariants.{Looking}
use Rattle.stations.specs.declared.Schedule.{Schedule}
use Rattle.stations.specs.declared.Served.{Served}
use Rattle.stations.specs.Stations.{stations_of, call_of}
use Rattle.stations.specs.Serving.{refusal_at_end, stops_at, first_of, end_of}
use Rattle.stations.proofs.serve.Goals as goal

-- the schedule that a call begins with has the whole allowance left
first_left : (w : List ℕ) (n al : ℕ) → (first_of w n al).left ≡ al
unfolding first_of
first_left w n al = by_cases (not (table_ok w)) (wrong_number n)
  where
    by_cases : (a b : Bool)
        → (cond a (stops_at (Some Layout) 0 n al)
        (cond b (stops_at (Some Stations) 0 n al)
        (record { phase = Looking; at = 0; count = n; left = al; turns = 0; working = 0 }))).left
        ≡ al
    by_cases true b = refl
    by_cases false true = refl
    by_cases false false = refl

-- what is returned, by the schedule at the end
answered : (al : ℕ) (r : Served) (d : Schedule) (zs : List Station) (os : List ℕ) → (r.refusal ≡ refusal_at_end d.phase) × (r.spent ≡ al - d.left)
    → call_of r zs os ≡ end_of al d zs os
answered al r d zs os e =
    ap₂ (λ (why : Option Refusal) (spent : ℕ). record { refusal = number_or_0 why; spent = spent; stations = stations_of zs; out = os }) e.0 e.1

pub serve_all-end-requires : goal.serve_all-end-requires
serve_all-end-requires c =
    let e = c.first_turn-start.ensures in
    let l = ap (λ (x : Schedule). x.left) e ∙ first_left c.args.table.now (length c.args.stations.now) c.args.allowance in
    (e ∙ ap (first_of c.args.table.now (length c.args.stations.now)) (sym l), refl)

pub returns : goal.returns
returns c =
    let s = c.args in
    let e = c.first_turn-start.ensures in
    let l = ap (λ (x : Schedule). x.left) e ∙ first_left s.table.now (length s.stations.now) s.allowance in
    let d = c.serve_all-end in
    answered s.allowance c.answer.result d.result d.new.stations d.new.out c.answer.ensures
    ∙ subst
    (λ (m : ℕ). end_of m d.result d.new.stations d.new.out ≡ serve_stations s.table.now (stations_of s.stations.now) s.inputs.now s.out.now m)
    l d.ensures
