-- A call that is not refused, and one that is. Assumes nothing.
use mathlib.Core.Path.{◌≡◌, refl, sym, ap, ◌∙◌}
use mathlib.Core.Logic.{◌⊎◌, inl, inr}
use mathlib.Core.Bool.{false, not}
use mathlib.Core.List.{List, [], ◌∷◌}
use Prim.Native.Nat.{ℕ, zero, suc, ◌<◌}
use native.Mathlib.Omega.{arith}
use lib.Dec.{T}
use lib.ListN.{length}
use borrow.Author.Tests.{eq-eqb, ne_eqb}
use Rattle.sets.proofs.Tests.{of_false}
use Rattle.meaning.specs.Lists.{refused_if, first_refusal}
use Rattle.meaning.specs.Table.{table_ok}
use Rattle.meaning.specs.Stations.{Station, all_passes, wrong_number, parts_ok, StationsRun, call_refused, standing_at, call_done, serve_stations}
use Rattle.meaning.specs.TickAllowance.{Refused}
use Rattle.meaning.proofs.RefusalLaws.{first_alone, none_met, unmet, test_passed_e}
use Rattle.turns.proofs.Sums.{same_or}

-- ---- a call that is not refused
pub record Accepted (w : List ℕ) (stations : List Station) (inputs out : List ℕ) (allowance : ℕ) : Type 0 where
  pub table : T (table_ok w)
  pub some_station : 0 < length stations
  pub parts : T (parts_ok stations inputs out)
  pub is : serve_stations w stations inputs out allowance ≡ call_done allowance (all_passes w inputs (standing_at stations out allowance))

number_pos : (n : ℕ) → wrong_number n ≡ false → 0 < n
unfolding wrong_number
number_pos zero e = absurd (of_false e tt)
number_pos (suc n) e = omega arith

module _ (w : List ℕ) (stations : List Station) (inputs out : List ℕ) (allowance : ℕ) where
  -- why the call is refused
  abbrev met : ℕ
  met =
      first_refusal
      (refused_if (not (table_ok w)) 15
      ∷ refused_if (wrong_number (length stations)) 18
      ∷ refused_if (not (parts_ok stations inputs out)) 19
      ∷ [])

  goes : met ≡ 0
      → serve_stations w stations inputs out allowance ≡ call_done allowance (all_passes w inputs (standing_at stations out allowance))
  unfolding serve_stations
  goes z = rw (eq-eqb met 0 z) refl

  stays : (met ≡ 0 → ⊥) → serve_stations w stations inputs out allowance ≡ call_refused met stations out
  unfolding serve_stations
  stays n = rw (ne_eqb met 0 n) refl

  refusal_is : (serve_stations w stations inputs out allowance).refusal ≡ met
  refusal_is = go (same_or met 0)
    where
      go : (met ≡ 0) ⊎ (met ≡ 0 → ⊥) → (serve_stations w stations inputs out allowance).refusal ≡ met
      go (inl z) = ap (λ (r : StationsRun). r.refusal) (goes z) ∙ sym z
      go (inr n) = ap (λ (r : StationsRun). r.refusal) (stays n) ∙ (unfold call_refused in refl)

  pub accepted : (serve_stations w stations inputs out allowance).refusal ≡ 0 → Accepted w stations inputs out allowance
  accepted h =
      let z = sym refusal_is ∙ h in
      let a = none_met _ _ z in
      let b = none_met _ _ a.1 in
      record {
        table = test_passed_e (table_ok w) 15 (λ e. omega arith) a.0;
        some_station = number_pos (length stations) (unmet (wrong_number (length stations)) 18 (λ e. omega arith) b.0);
        parts = test_passed_e (parts_ok stations inputs out) 19 (λ e. omega arith) (sym (first_alone _) ∙ b.1);
        is = goes z;
      }

-- a refused call
pub refused_same : Refused
unfolding Refused
refused_same w stations inputs out allowance h =
    let same = refusal_is w stations inputs out allowance in
    stays w stations inputs out allowance (λ z. h (same ∙ z)) ∙ ap (λ (e : ℕ). call_refused e stations out) (sym same)
