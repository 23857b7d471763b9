-- The schedule after a turn, case by case. Assumes nothing.
use Rattle.std.specs.Prelude.{Some, None}
use mathlib.Core.Path.{◌≡◌, refl, sym, ap, ◌∙◌}
use mathlib.Core.Bool.{Bool, true, false}
use mathlib.Core.List.{List}
use Prim.Native.Nat.{ℕ, ◌+◌, ◌≤◌, ◌<◌}
use native.Mathlib.Nat.{add-zero}
use borrow.Author.Tests.{eq-eqb, ne_eqb, lt-ltb, le-ltb}
use Rattle.sets.specs.Sets.{digit}
use Rattle.meaning.specs.declared.refusal.Refusal.TheVariants.{Layout, Stations, Parts}
use Rattle.meaning.specs.Table.{table_ok}
use Rattle.meaning.specs.Stations.{wrong_number}
use Rattle.stations.specs.declared.Phase.TheVariants.{Looking, Serving}
use Rattle.stations.specs.declared.Schedule.{Schedule}
use Rattle.stations.specs.Serving.{stops_at, sweeps, once_more, next_turn, first_of, looked_of, served_of}

-- one more, or not
pub digit-true : (n : ℕ) (b : Bool) → b ≡ true → n + 1 ≡ n + digit b
unfolding digit
digit-true n b e = ap (λ (x : Bool). n + digit x) (sym e)

pub digit-false : (n : ℕ) (b : Bool) → b ≡ false → n ≡ n + digit b
unfolding digit
digit-false n b e = sym (add-zero n) ∙ ap (λ (x : Bool). n + digit x) (sym e)

-- ---- no stations, or more than 64

pub number_none : (n : ℕ) → n ≡ 0 → wrong_number n ≡ true
unfolding wrong_number
number_none n e = rw (eq-eqb n 0 e) refl

pub number_many : (n : ℕ) → (n ≡ 0 → ⊥) → 64 < n → wrong_number n ≡ true
unfolding wrong_number
number_many n e h = rw (ne_eqb n 0 e, lt-ltb 64 n h) refl

pub number_fits : (n : ℕ) → (n ≡ 0 → ⊥) → n ≤ 64 → wrong_number n ≡ false
unfolding wrong_number
number_fits n e h = rw (ne_eqb n 0 e, le-ltb 64 n h) refl

-- ---- after the last station

module _ (count left working : ℕ) where
  pub once_spent : left ≡ 0 → once_more count left working ≡ stops_at None count count left
  unfolding once_more
  once_spent e = rw (eq-eqb left 0 e) refl

  pub once_idle : (left ≡ 0 → ⊥) → working ≡ 0 → once_more count left working ≡ stops_at None count count left
  unfolding once_more
  once_idle n e = rw (ne_eqb left 0 n, eq-eqb working 0 e) refl

  pub once_goes : (left ≡ 0 → ⊥) → (working ≡ 0 → ⊥) → once_more count left working ≡ sweeps count left working
  unfolding once_more
  once_goes n e = rw (ne_eqb left 0 n, ne_eqb working 0 e) refl

-- ---- the first turn

module _ (w : List ℕ) (count left : ℕ) where
  pub first_layout : table_ok w ≡ false → first_of w count left ≡ stops_at (Some Layout) 0 count left
  unfolding first_of
  first_layout e = rw e refl

  pub first_number : table_ok w ≡ true → wrong_number count ≡ true → first_of w count left ≡ stops_at (Some Stations) 0 count left
  unfolding first_of
  first_number e h = rw (e, h) refl

  pub first_goes : table_ok w ≡ true → wrong_number count ≡ false
      → first_of w count left
      ≡ record { phase = Looking; at = 0; count = count; left = left; turns = 0; working = 0 }
  unfolding first_of
  first_goes e h = rw (e, h) refl

-- ---- after a look at a station's parts, and after its turns

module _ (c : Schedule) (works : Bool) where
  module _ (well : Bool) where
    pub looked_ill : well ≡ false → looked_of c well works ≡ stops_at (Some Parts) (c.at + 1) c.count c.left
    unfolding looked_of
    looked_ill e = rw e refl

    pub looked_next : well ≡ true → c.at + 1 < c.count
        → looked_of c well works ≡ next_turn c Looking c.left (c.working + digit works)
    unfolding looked_of
    looked_next e h = rw (e, lt-ltb (c.at + 1) c.count h) refl

    pub looked_last : well ≡ true → c.count ≤ c.at + 1
        → looked_of c well works ≡ once_more c.count c.left (c.working + digit works)
    unfolding looked_of
    looked_last e h = rw (e, le-ltb (c.at + 1) c.count h) refl

  module _ (left : ℕ) where
    pub served_spent : left ≡ 0 → served_of c left works ≡ stops_at None (c.at + 1) c.count left
    unfolding served_of
    served_spent e = rw (eq-eqb left 0 e) refl

    pub served_next : (left ≡ 0 → ⊥) → c.at + 1 < c.count
        → served_of c left works ≡ next_turn c Serving left (c.working + digit works)
    unfolding served_of
    served_next e h = rw (ne_eqb left 0 e, lt-ltb (c.at + 1) c.count h) refl

    pub served_last : (left ≡ 0 → ⊥) → c.count ≤ c.at + 1
        → served_of c left works ≡ once_more c.count left (c.working + digit works)
    unfolding served_of
    served_last e h = rw (ne_eqb left 0 e, le-ltb (c.at + 1) c.count h) refl
