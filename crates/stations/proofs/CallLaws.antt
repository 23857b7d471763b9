-- A call of the definition, refusal by refusal. Assumes nothing.
use mathlib.Core.Path.{◌≡◌, refl}
use mathlib.Core.Bool.{Bool, true, false, ◌||◌}
use mathlib.Core.List.{List}
use Prim.Native.Nat.{ℕ, ◌≤◌, ◌<◌}
use native.Mathlib.Omega.{arith}
use lib.Dec.{eqb, ltb}
use lib.ListN.{length}
use borrow.Author.Tests.{eqb-false, ltb-false}
use Rattle.sets.proofs.Tests.{of_false}
use Rattle.meaning.specs.Lists.{refused_if, first_refusal}
use Rattle.meaning.specs.Table.{table_ok}
use Rattle.meaning.specs.Stations.{Station, all_passes, wrong_number, parts_ok, call_refused, standing_at, call_done, serve_stations}

-- w: the table
module _ (w : List ℕ) (stations : List Station) (inputs out : List ℕ) (allowance : ℕ) where
  pub call_table : table_ok w ≡ false → serve_stations w stations inputs out allowance ≡ call_refused 15 stations out
  unfolding serve_stations refused_if first_refusal
  call_table t = rw t refl

  pub call_number : table_ok w ≡ true → wrong_number (length stations) ≡ true
      → serve_stations w stations inputs out allowance ≡ call_refused 18 stations out
  unfolding serve_stations refused_if first_refusal
  call_number t n = rw (t, n) refl

  pub call_parts : table_ok w ≡ true → wrong_number (length stations) ≡ false → parts_ok stations inputs out ≡ false
      → serve_stations w stations inputs out allowance ≡ call_refused 19 stations out
  unfolding serve_stations refused_if first_refusal
  call_parts t n p = rw (t, n, p) refl

  pub call_goes : table_ok w ≡ true → wrong_number (length stations) ≡ false → parts_ok stations inputs out ≡ true
      → serve_stations w stations inputs out allowance ≡ call_done allowance (all_passes w inputs (standing_at stations out allowance))
  unfolding serve_stations refused_if first_refusal
  call_goes t n p = rw (t, n, p) refl

-- a right number of stations
pub number_e : (n : ℕ) → wrong_number n ≡ false → (0 < n) × (n ≤ 64)
unfolding wrong_number
number_e n e = go (eqb n 0) (ltb 64 n) refl refl e
  where
    go : (x y : Bool) → eqb n 0 ≡ x → ltb 64 n ≡ y → (x || y) ≡ false → (0 < n) × (n ≤ 64)
    go false false p q r = let z = eqb-false n 0 p in (omega arith, ltb-false 64 n q)
    go true y p q r = absurd (of_false r tt)
    go false true p q r = absurd (of_false r tt)
