-- Laws of refusals in their order. Assumes nothing.
use mathlib.Core.Path.{◌≡◌, refl, sym, ap}
use mathlib.Core.Bool.{Bool, true, false, not, cond}
use mathlib.Core.List.{List, [], ◌∷◌}
use Prim.Native.Nat.{ℕ}
use native.Mathlib.Omega.{arith}
use lib.Dec.{T, eqb}
use borrow.Author.Tests.{eqb-true, eqb-false, eq-eqb, ne_eqb}
use Rattle.meaning.specs.declared.refusal.Refusal.{Refusal}
use Rattle.meaning.specs.declared.refusal.Refusal.TheVariants.{Head, ModeRow, Pair, Ends, Term, SharedEnds, TooManyTimers, Ambiguous, Restless, ShortTable, FullWorkList, ShortOutput, InputSet, State, Layout, Transition, Unfaithful, Stations, Parts, TickRange, IdleArrow}
use Rattle.std.specs.Prelude.{Option, Some, None, is_some, Result, Ok, Err}
use Rattle.std.specs.Result.{result_err}
use Rattle.meaning.specs.Refusal.{number_of, number_or_0, err_or_0}
use Rattle.meaning.specs.Lists.{refused_if, first_refusal}

-- a refusal that is met is given
pub first_met : (e : ℕ) (es : List ℕ) → (e ≡ 0 → ⊥) → first_refusal (e ∷ es) ≡ e
unfolding first_refusal
first_met e es n = rw (ne_eqb e 0 n) refl

-- one that is not met is passed over
pub first_passed : (e : ℕ) (es : List ℕ) → e ≡ 0 → first_refusal (e ∷ es) ≡ first_refusal es
unfolding first_refusal
first_passed e es z = rw (eq-eqb e 0 z) refl

-- of one refusal it is that one
pub first_alone : (e : ℕ) → first_refusal (e ∷ []) ≡ e
unfolding first_refusal
first_alone e = go (eqb e 0) refl
  where
    go : (b : Bool) → eqb e 0 ≡ b → cond b 0 e ≡ e
    go true z = sym (eqb-true e 0 z)
    go false z = refl

-- where none is given none is met
pub none_met : (e : ℕ) (es : List ℕ) → first_refusal (e ∷ es) ≡ 0 → (e ≡ 0) × (first_refusal es ≡ 0)
unfolding first_refusal
none_met e es h = go (eqb e 0) refl h
  where
    go : (b : Bool) → eqb e 0 ≡ b → cond b (first_refusal es) e ≡ 0 → (e ≡ 0) × (first_refusal es ≡ 0)
    go true z k = (eqb-true e 0 z, k)
    go false z k = absurd (eqb-false e 0 z k)

-- where another refusal than the first is given, the first is not met
pub other_met : (e r : ℕ) (es : List ℕ) → (e ≡ r → ⊥) → first_refusal (e ∷ es) ≡ r → (e ≡ 0) × (first_refusal es ≡ r)
unfolding first_refusal
other_met e r es n h = go (eqb e 0) refl h
  where
    go : (b : Bool) → eqb e 0 ≡ b → cond b (first_refusal es) e ≡ r → (e ≡ 0) × (first_refusal es ≡ r)
    go true z k = (eqb-true e 0 z, k)
    go false z k = absurd (n k)

-- a condition that does not hold, where its refusal is not met
pub unmet : (b : Bool) (e : ℕ) → (e ≡ 0 → ⊥) → refused_if b e ≡ 0 → b ≡ false
unfolding refused_if
unmet true e n h = absurd (n h)
unmet false e n h = refl

-- a test whose failure is refused: it passes, where that refusal is not met, and the other way round
pub test_passed_e : (b : Bool) (e : ℕ) → (e ≡ 0 → ⊥) → refused_if (not b) e ≡ 0 → T b
unfolding refused_if
test_passed_e true e n h = tt
test_passed_e false e n h = absurd (n h)

pub test_passed_i : (b : Bool) (e : ℕ) → T b → refused_if (not b) e ≡ 0
unfolding refused_if
test_passed_i false e h = elim h [ ]
test_passed_i true e h = refl

-- where it fails the refusal is given
pub test_failed : (b : Bool) (e : ℕ) → b ≡ false → refused_if (not b) e ≡ e
unfolding refused_if
test_failed b e h = ap (λ (c : Bool). cond (not c) e 0) h

-- ---- no refusal has number 0

pub number_not_0 : (why : Refusal) → number_of why ≡ 0 → ⊥
number_not_0 Head e = absurd (omega arith)
number_not_0 ModeRow e = absurd (omega arith)
number_not_0 Pair e = absurd (omega arith)
number_not_0 Ends e = absurd (omega arith)
number_not_0 Term e = absurd (omega arith)
number_not_0 SharedEnds e = absurd (omega arith)
number_not_0 TooManyTimers e = absurd (omega arith)
number_not_0 Ambiguous e = absurd (omega arith)
number_not_0 Restless e = absurd (omega arith)
number_not_0 ShortTable e = absurd (omega arith)
number_not_0 FullWorkList e = absurd (omega arith)
number_not_0 ShortOutput e = absurd (omega arith)
number_not_0 InputSet e = absurd (omega arith)
number_not_0 State e = absurd (omega arith)
number_not_0 Layout e = absurd (omega arith)
number_not_0 Transition e = absurd (omega arith)
number_not_0 Unfaithful e = absurd (omega arith)
number_not_0 Stations e = absurd (omega arith)
number_not_0 Parts e = absurd (omega arith)
number_not_0 TickRange e = absurd (omega arith)
number_not_0 IdleArrow e = absurd (omega arith)

-- a refusal that there may be has number 0 where there is none
pub refused_not_0 : (r : Option Refusal) → is_some r ≡ true → number_or_0 r ≡ 0 → ⊥
refused_not_0 (Some why) h e = number_not_0 why e
refused_not_0 None h e = cc

pub none_is_0 : (r : Option Refusal) → is_some r ≡ false → number_or_0 r ≡ 0
none_is_0 None h = refl
none_is_0 (Some why) h = cc

pub err_number : {A : Type 0} (r : Result A Refusal) → number_or_0 (result_err r) ≡ err_or_0 r
err_number (Ok x) = refl
err_number (Err why) = refl
