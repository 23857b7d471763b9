-- The schedule: what comes after a look and after a station's turns, and a number that falls. Assumes nothing.
use Rattle.std.specs.Prelude.{Some, None}
use mathlib.Core.Path.{◌≡◌, refl, sym, ap, ◌∙◌, subst}
use mathlib.Core.Logic.{◌⊎◌, inl, inr}
use mathlib.Core.Bool.{Bool, true, false, not, cond}
use Prim.Native.Nat.{ℕ, ◌+◌, ◌-◌, ◌*◌, ◌/◌, ◌≤◌, ◌<◌, max, zero-le}
use native.Mathlib.Nat.{le_refl, eq-or-lt_of_le, add-zero, le-max_left, max-eq_left, max-eq_right, div-mul-le_self, mul-le-mul_right, suc-mul}
use native.Mathlib.Omega.{arith}
use lib.Dec.{T, eqb, ltb}
use borrow.Author.Tests.{eqb-true, eqb-false, ne_eqb, ltb-true, ltb-false}
use Rattle.sets.specs.Sets.{digit}
use Rattle.sets.proofs.Tests.{is_false, below_or_not}
use Rattle.meaning.specs.declared.refusal.Refusal.TheVariants.{Parts}
use Rattle.stations.specs.declared.Phase.{Phase}
use Rattle.stations.specs.declared.Phase.TheVariants.{Looking, Serving}
use Rattle.stations.specs.declared.Schedule.{Schedule}
use Rattle.stations.specs.Serving.{stops_at, sweeps, once_more, next_turn, looked_of, served_of, to_come, most}

-- ---- turns at once
pub turns_some : (left working : ℕ) → 0 < max 1 (left / working)
turns_some left working = le-max_left 1 (left / working)

-- they are one, or the allowance is good for them
pub turns_good : (left working : ℕ) → (max 1 (left / working) ≡ 1) ⊎ (max 1 (left / working) * working ≤ left)
turns_good left working = go (below_or_not 1 (left / working))
  where
    go : (1 < left / working) ⊎ (left / working ≤ 1) → (max 1 (left / working) ≡ 1) ⊎ (max 1 (left / working) * working ≤ left)
    go (inl l) =
        let e : max 1 (left / working) ≡ left / working = max-eq_right (omega arith) in
        inr (subst (λ (p : ℕ). p * working ≤ left) (sym e) (div-mul-le_self left working))
    go (inr l) = inl (max-eq_left l)

-- ---- after the last station: no turn comes any more, or a sweep begins
pub data Once (count left working : ℕ) : Schedule → Type 0 where
  ends : (left ≡ 0) ⊎ (working ≡ 0) → Once count left working (stops_at None count count left)
  again : 0 < left → 0 < working → Once count left working (sweeps count left working)

pub once_is : (count left working : ℕ) → Once count left working (once_more count left working)
unfolding once_more
once_is count left working = go (eqb left 0) (eqb working 0) refl refl
  where
    go : (x y : Bool) → eqb left 0 ≡ x → eqb working 0 ≡ y
        → Once count left working
        (cond x (stops_at None count count left) (cond y (stops_at None count count left) (sweeps count left working)))
    go true y e f = ends (inl (eqb-true left 0 e))
    go false true e f = ends (inr (eqb-true working 0 f))
    go false false e f =
        let p = eqb-false left 0 e in
        let q = eqb-false working 0 f in
        again (omega arith) (omega arith)

-- after a look: 19, the next station, or the last was looked at
pub data AfterLook (c : Schedule) (well works : Bool) : Schedule → Type 0 where
  bad : well ≡ false → AfterLook c well works (stops_at (Some Parts) (c.at + 1) c.count c.left)
  more : well ≡ true → c.at + 1 < c.count → AfterLook c well works (next_turn c Looking c.left (c.working + digit works))
  all : well ≡ true → c.count ≤ c.at + 1 → (r : Schedule) → Once c.count c.left (c.working + digit works) r
      → AfterLook c well works r

pub looked_is : (c : Schedule) (well works : Bool) → AfterLook c well works (looked_of c well works)
unfolding looked_of
looked_is c well works = go well (ltb (c.at + 1) c.count) refl refl
  where
    k : ℕ
    k = c.working + digit works

    go : (x y : Bool) → well ≡ x → ltb (c.at + 1) c.count ≡ y
        → AfterLook c well works
        (cond (not x) (stops_at (Some Parts) (c.at + 1) c.count c.left)
        (cond y (next_turn c Looking c.left k) (once_more c.count c.left k)))
    go false y e f = bad e
    go true true e f = more e (ltb-true (c.at + 1) c.count f)
    go true false e f = all e (ltb-false (c.at + 1) c.count f) _ (once_is c.count c.left k)

-- after a station's turns: the allowance is spent, the next station, or it was the last
pub data AfterTurns (c : Schedule) (left : ℕ) (works : Bool) : Schedule → Type 0 where
  spent : left ≡ 0 → AfterTurns c left works (stops_at None (c.at + 1) c.count left)
  more : 0 < left → c.at + 1 < c.count → AfterTurns c left works (next_turn c Serving left (c.working + digit works))
  all : 0 < left → c.count ≤ c.at + 1 → (r : Schedule) → Once c.count left (c.working + digit works) r
      → AfterTurns c left works r

pub served_is : (c : Schedule) (left : ℕ) (works : Bool) → AfterTurns c left works (served_of c left works)
unfolding served_of
served_is c left works = go (eqb left 0) (ltb (c.at + 1) c.count) refl refl
  where
    k : ℕ
    k = c.working + digit works

    some : eqb left 0 ≡ false → 0 < left
    some e = let p = eqb-false left 0 e in omega arith

    go : (x y : Bool) → eqb left 0 ≡ x → ltb (c.at + 1) c.count ≡ y
        → AfterTurns c left works
        (cond x (stops_at None (c.at + 1) c.count left)
        (cond y (next_turn c Serving left k) (once_more c.count left k)))
    go true y e f = spent (eqb-true left 0 e)
    go false true e f = more (some e) (ltb-true (c.at + 1) c.count f)
    go false false e f = all (some e) (ltb-false (c.at + 1) c.count f) _ (once_is c.count left k)

-- ---- the number that falls
-- what counts for stations with work
abbrev worth : ℕ → ℕ → ℕ
worth n working = cond (eqb working 0) 0 n

worth_le : (n working : ℕ) → worth n working ≤ n
worth_le n working = go (eqb working 0)
  where
    go : (x : Bool) → cond x 0 n ≤ n
    go true = zero-le
    go false = le_refl n

most_looking : (c : Schedule) → c.phase ≡ Looking → most c ≡ c.left * (c.count + 1) + (c.count + 1) + (c.count - c.at)
unfolding most
most_looking c e =
    ap (λ (x : Phase). c.left * (c.count + 1) + to_come x c.count c.working + (c.count - c.at)) e

most_serving : (c : Schedule) → c.phase ≡ Serving
    → most c ≡ c.left * (c.count + 1) + worth c.count c.working + (c.count - c.at)
unfolding most
most_serving c e =
    ap (λ (x : Phase). c.left * (c.count + 1) + to_come x c.count c.working + (c.count - c.at)) e

-- after the last look
once_le : (n left k : ℕ) (r : Schedule) → Once n left k r → most r ≤ left * (n + 1) + n
unfolding most
once_le n left k r (ends _) = omega arith
once_le n left k r (again _ _) = omega arith

pub looked_less : (c r : Schedule) (well works : Bool) → c.phase ≡ Looking → c.at < c.count
    → AfterLook c well works r → most r < most c
unfolding most
looked_less c r well works e l a = go works r a
  where
    go : (works : Bool) (r : Schedule) → AfterLook c well works r → most r < most c
    go works r (bad _) = let m = most_looking c e in omega arith
    go works r (more _ _) = let m = most_looking c e in omega arith
    go works r (all _ _ _ o) =
        let m = most_looking c e in
        let k = once_le c.count c.left (c.working + digit works) r o in
        omega arith

digit_none : (n : ℕ) → n + digit false ≡ n
unfolding digit
digit_none n = add-zero n

-- a tick is worth all a sweep can add
fell : (n left l : ℕ) → left < l → left * (n + 1) + (n + 1) ≤ l * (n + 1)
fell n left l h = let m = mul-le-mul_right (n + 1) h in let s = suc-mul left (n + 1) in omega arith

-- after a station's turns: the ticks left are fewer, or the same and the station has no work
module _ (c : Schedule) (left : ℕ) (works : Bool) (here : c.at < c.count) where
  fewer : (r : Schedule) → c.phase ≡ Serving → left < c.left → AfterTurns c left works r → most r < most c
  unfolding most
  fewer r e h (spent _) = let m = most_serving c e in let f = fell c.count left c.left h in omega arith
  fewer r e h (more _ _) =
      let m = most_serving c e in
      let f = fell c.count left c.left h in
      let w = worth_le c.count (c.working + digit works) in
      omega arith
  fewer r e h (all _ _ _ o) =
      let m = most_serving c e in
      let f = fell c.count left c.left h in
      let k = once_le c.count left (c.working + digit works) r o in
      omega arith

  -- after the last station, which left none of them fewer
  once_same : (r : Schedule) → c.phase ≡ Serving → left ≡ c.left → Once c.count left c.working r → most r < most c
  unfolding most
  once_same r e h (ends _) =
      let m = most_serving c e in let f = ap (λ (x : ℕ). x * (c.count + 1)) h in omega arith
  once_same r e h (again _ k) =
      let m = most_serving c e in
      let f = ap (λ (x : ℕ). x * (c.count + 1)) h in
      let g : worth c.count c.working ≡ c.count =
      ap (λ (x : Bool). cond x 0 c.count) (ne_eqb c.working 0 (λ z. omega arith)) in
      omega arith

  same : (r : Schedule) → c.phase ≡ Serving → left ≡ c.left → c.working + digit works ≡ c.working
      → AfterTurns c left works r → most r < most c
  unfolding most
  same r e h q (spent _) =
      let m = most_serving c e in let f = ap (λ (x : ℕ). x * (c.count + 1)) h in omega arith
  same r e h q (more _ _) =
      let m = most_serving c e in
      let f = ap (λ (x : ℕ). x * (c.count + 1)) h in
      let g = ap (worth c.count) q in
      omega arith
  same r e h q (all _ _ _ o) = once_same r e h (subst (λ (k : ℕ). Once c.count left k r) q o)

  pub served_less : (r : Schedule) → c.phase ≡ Serving → left ≤ c.left → (T works → left < c.left)
      → AfterTurns c left works r → most r < most c
  served_less r e l h a = go (eq-or-lt_of_le l)
    where
      idle : left ≡ c.left → works ≡ false
      idle q = is_false works (λ t. let z = h t in omega arith)

      go : (left ≡ c.left) ⊎ (left < c.left) → most r < most c
      go (inl q) = same r e q (ap (λ (x : Bool). c.working + digit x) (idle q) ∙ digit_none c.working) a
      go (inr k) = fewer r e k a
