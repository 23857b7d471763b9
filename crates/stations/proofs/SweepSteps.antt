-- A station's turns within a sweep: the rest of the sweep, and how many stations have work so far. Assumes nothing.
use mathlib.Core.Path.{◌≡◌, refl, sym, ap, ap₂, ◌∙◌}
use mathlib.Core.Bool.{Bool, true, false}
use mathlib.Core.List.{List}
use Prim.Native.Nat.{ℕ, zero, suc, ◌+◌, ◌-◌, ◌≤◌, ◌<◌, zero-le}
use native.Mathlib.Nat.{le_refl}
use native.Mathlib.Numerals.{add-one}
use native.Mathlib.Omega.{arith}
use Rattle.sets.specs.Sets.{digit}
use Rattle.meaning.specs.Lists.{sum_to}
use Rattle.meaning.specs.Stations as meaning
use Rattle.meaning.specs.Stations.{has_work, Standing, station_at}
use Rattle.turns.specs.Sweeps.{working_below, turns_of, sweep_from}
use Rattle.turns.proofs.Sums.{sum_to_ext}
use Rattle.turns.proofs.SweepLaws.{turns_other, turns_idle}

-- ---- how many of the stations have work
pub working_none : (a : Standing) → working_below 0 a ≡ 0
unfolding working_below sum_to
working_none a = refl

pub working_le : (m : ℕ) (a : Standing) → working_below m a ≤ m
unfolding working_below sum_to
working_le zero a = zero-le
working_le (suc m) a = let h = working_le m a in let d = digit-le (has_work (station_at a m)) in omega arith
  where
    digit-le : (b : Bool) → digit b ≤ 1
    digit-le true = unfold digit in (le_refl 1)
    digit-le false = unfold digit in zero-le

pub working_next : (m : ℕ) (a : Standing) → working_below (m + 1) a ≡ working_below m a + digit (has_work (station_at a m))
unfolding working_below sum_to
working_next m a = ap (λ (n : ℕ). sum_to n (λ i. digit (has_work (station_at a i)))) (add-one m)

-- w: the table; inputs: the input list
module _ (w inputs : List ℕ) where
  -- turns of a later station leave it
  working_turns : (p m : ℕ) (a : Standing) → working_below m (turns_of w inputs p m a) ≡ working_below m a
  unfolding working_below
  working_turns p m a =
      sum_to_ext m (λ i. digit (has_work (station_at a i))) (λ i. digit (has_work (station_at (turns_of w inputs p m a) i)))
      (λ i l. ap (λ (s : meaning.Station). digit (has_work s)) (turns_other w inputs p m a i (λ e. omega arith)))

  -- the turns of station m bring b
  module _ (p m : ℕ) (a b : Standing) (turned : b ≡ turns_of w inputs p m a) where
    pub working_after : working_below (m + 1) b ≡ working_below m a + digit (has_work (station_at b m))
    working_after =
        working_next m b
        ∙ ap (λ (k : ℕ). k + digit (has_work (station_at b m))) (ap (working_below m) turned ∙ working_turns p m a)

    -- they begin what is left of a sweep of n stations
    pub sweep_next : (n : ℕ) → m < n → sweep_from w inputs p (n - m) m a ≡ sweep_from w inputs p (n - (m + 1)) (m + 1) b
    unfolding sweep_from
    sweep_next n l =
        ap (λ (r : ℕ). sweep_from w inputs p r m a) rest
        ∙ ap₂ (λ (k : ℕ) (c : Standing). sweep_from w inputs p (n - (m + 1)) k c) (sym (add-one m)) (sym turned)
      where
        rest : n - m ≡ suc (n - (m + 1))
        rest = omega arith

  -- nothing is left of it after the last, and with no ticks left nothing happens
  pub sweep_done : (p n m : ℕ) (a : Standing) → n ≤ m → sweep_from w inputs p (n - m) m a ≡ a
  unfolding sweep_from
  sweep_done p n m a l = ap (λ (r : ℕ). sweep_from w inputs p r m a) rest
    where
      rest : n - m ≡ 0
      rest = omega arith

  pub sweep_spent : (p r m : ℕ) (a : Standing) → a.left ≡ 0 → sweep_from w inputs p r m a ≡ a
  unfolding sweep_from
  sweep_spent p zero m a e = refl
  sweep_spent p (suc r) m a e =
      ap (sweep_from w inputs p r (suc m)) (turns_idle w inputs p m a (λ l h. omega arith)) ∙ sweep_spent p r (suc m) a e
