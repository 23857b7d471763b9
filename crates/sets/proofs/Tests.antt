-- Truth values as facts: `T b`. Assumes nothing.
use mathlib.Core.Path.{◌≡◌, refl, sym, subst}
use mathlib.Core.Logic.{◌⊎◌, inl, inr}
use mathlib.Core.Bool.{Bool, true, false, not, ◌&&◌, ◌||◌, cond}
use Prim.Native.Nat.{ℕ, ◌≤◌, ◌<◌}
use native.Mathlib.Omega.{arith}
use lib.Dec.{T, eqb, leb, ltb, eqb→eq, leb→le}
use borrow.Author.Tests.{eq-eqb, ne_eqb, ltb-true, ltb-false}

-- as an equation, and back
pub is_true : (b : Bool) → T b → b ≡ true
is_true true h = refl
is_true false h = absurd h

pub is_false : (b : Bool) → (T b → ⊥) → b ≡ false
is_false true h = absurd (h tt)
is_false false h = refl

pub of_true : {b : Bool} → b ≡ true → T b
of_true e = subst T (sym e) tt

pub of_false : {b : Bool} → b ≡ false → T b → ⊥
of_false e h = subst T e h

-- both, and one of two: each taken apart and shown
pub and_l : (a b : Bool) → T (a && b) → T a
and_l true b h = tt
and_l false b h = h

pub and_r : (a b : Bool) → T (a && b) → T b
and_r true b h = h
and_r false b h = absurd h

pub and_i : (a b : Bool) → T a → T b → T (a && b)
and_i true b x y = y
and_i false b x y = x

pub or_e : (a b : Bool) → T (a || b) → T a ⊎ T b
or_e true b h = inl tt
or_e false b h = inr h

pub or_l : (a b : Bool) → T a → T (a || b)
or_l true b h = tt
or_l false b h = absurd h

pub or_r : (a b : Bool) → T b → T (a || b)
or_r true b h = tt
or_r false b h = h

-- not a, or b: from a follows b
pub implied : (a b : Bool) → T (not a || b) → T a → T b
implied true b h k = h
implied false b h k = absurd k

pub implies : (a b : Bool) → (T a → T b) → T (not a || b)
implies true b h = h tt
implies false b h = tt

-- two truth values that follow from one another are equal
pub bool_ext : (a b : Bool) → (T a → T b) → (T b → T a) → a ≡ b
bool_ext true b f g = sym (is_true b (f tt))
bool_ext false true f g = absurd (g tt)
bool_ext false false f g = refl

pub eqb-sym : (a b : ℕ) → eqb a b ≡ eqb b a
eqb-sym a b =
    bool_ext (eqb a b) (eqb b a) (λ k. of_true (eq-eqb b a (sym (eqb→eq a b k)))) (λ k. of_true (eq-eqb a b (sym (eqb→eq b a k))))

-- a number above m is none of the numbers up to m
pub above_not : (m c d : ℕ) → m < c → T (leb d m) → eqb c d ≡ false
above_not m c d l k = ne_eqb c d (λ e. omega (arith, leb→le d m k))

-- a choice with the same on both sides, and two choices that agree where the test passes
pub cond_same : {A : Type 0} (b : Bool) (x : A) → cond b x x ≡ x
cond_same true x = refl
cond_same false x = refl

pub cond_ext : {A : Type 0} (b : Bool) (x y z : A) → (T b → x ≡ y) → cond b x z ≡ cond b y z
cond_ext true x y z h = h tt
cond_ext false x y z h = refl

-- a test passes, or not
pub true_or_not : (b : Bool) → T b ⊎ (T b → ⊥)
true_or_not true = inl tt
true_or_not false = inr (λ h. h)

-- a number is below another, or not
pub below_or_not : (m n : ℕ) → (m < n) ⊎ (n ≤ m)
below_or_not m n = go (ltb m n) refl
  where
    go : (b : Bool) → ltb m n ≡ b → (m < n) ⊎ (n ≤ m)
    go true e = inl (ltb-true m n e)
    go false e = inr (ltb-false m n e)
