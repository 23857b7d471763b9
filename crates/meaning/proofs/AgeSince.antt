-- An age counts the ticks since the last entry: each tick that does not enter the mode adds one. Assumes nothing.
use mathlib.Core.Path.{◌≡◌, sym, ap, ◌∙◌, subst}
use mathlib.Core.Logic.{◌⊎◌, inl, inr}
use mathlib.Core.Bool.{Bool, true, false, not, cond}
use mathlib.Core.List.{List}
use Prim.Native.Nat.{ℕ, zero, suc, ◌+◌, ◌≤◌, ◌<◌, min}
use native.Mathlib.Nat.{add-zero, le_refl}
use native.Mathlib.Omega.{arith}
use lib.Dec.{T}
use lib.ListN.{get_or}
use Rattle.sets.specs.Sets.{has}
use Rattle.sets.proofs.Tests.{is_true}
use Rattle.meaning.specs.Reaction.{TickSets, running}
use Rattle.meaning.specs.Ages.{age}
use Rattle.meaning.specs.Run.{State, power_on, entered_in, due_timers, next_state}
use Rattle.meaning.specs.SheetRun.{tick_from, state_after, sheet_ticks, sheet_at}
use Rattle.meaning.specs.ModeAges.{AgeSince}
use Rattle.meaning.proofs.TickLaws.{stayed_or_entered}
use Rattle.meaning.proofs.AgeLaws.{next_age}
use Rattle.meaning.proofs.SheetTicksLaws.{nth_next, nth_entered}

module _ (s inputs : List ℕ) (m : ℕ) (small : m < 32) where
  -- of the ticks from power-on: their words, the state before tick n
  abbrev words : List ℕ
  words = (sheet_ticks s inputs power_on).words

  abbrev before : ℕ → State
  before n = sheet_at s inputs power_on n

  -- a done tick that leaves the mode active
  module _ (n : ℕ) (l : n < (sheet_ticks s inputs power_on).done) (on : T (has (before (suc n)).at m)) where
    abbrev input : ℕ
    input = get_or inputs n 0

    abbrev z : TickSets
    z = (tick_from s (before n) input).sets

    active : T (has z.modes m)
    unfolding state_after next_state
    active = subst (λ (p : State). T (has p.at m)) (nth_next s inputs power_on n l) on

    -- its age, by whether the tick enters it
    age_next : (b : Bool) → has (entered_in words n) m ≡ b → age (before (suc n)).ages m ≡ cond (not b) (min 65535 (age (before n).ages m + 1)) 0
    unfolding state_after next_state
    age_next b e =
        ap (λ (p : State). age p.ages m) (nth_next s inputs power_on n l) ∙ next_age z.modes z.entered (before n).ages m small
        ∙ rw (is_true (has z.modes m) active, ap (λ (x : ℕ). has x m) (sym (nth_entered s inputs power_on n l)) ∙ e)

    -- if the tick does not enter it, it was active
    was_active : has (entered_in words n) m ≡ false → T (has (before n).at m)
    was_active e = go (unfold tick_from in (stayed_or_entered s (due_timers (running s (before n).at) (before n).readings) input (before n).at m active))
      where
        go : T (has (before n).at m) ⊎ T (has z.entered m) → T (has (before n).at m)
        go (inl k) = k
        go (inr k) = absurd (subst T (ap (λ (x : ℕ). has x m) (sym (nth_entered s inputs power_on n l)) ∙ e) k)

  module _ (j : ℕ) (entry : T (has (entered_in words j) m)) where
    since : (k : ℕ) → j + k < (sheet_ticks s inputs power_on).done
        → ((i : ℕ) → j < i → i ≤ j + k → has (entered_in words i) m ≡ false)
        → T (has (before (suc (j + k))).at m) → age (before (suc (j + k))).ages m ≡ min 65535 k
    since zero l none on =
        age_next (j + 0) l on true (ap (λ (i : ℕ). has (entered_in words i) m) (add-zero j) ∙ is_true (has (entered_in words j) m) entry)
    since (suc k) l none on =
        let n : j + suc k ≡ suc (j + k) = omega arith in
        let off = none (j + suc k) (omega arith) (le_refl (j + suc k)) in
        let was = subst (λ (i : ℕ). T (has (before i).at m)) n (was_active (j + suc k) l on off) in
        let old = since k (omega arith) (λ i a b. none i a (omega arith)) was in
        let new : age (before (suc (j + suc k))).ages m ≡ min 65535 (age (before (j + suc k)).ages m + 1) = age_next (j + suc k) l on false off in
        omega (arith, old, new, ap (λ (i : ℕ). age (before i).ages m) n)

pub age_since_lem : AgeSince
unfolding AgeSince entered_in Rattle.meaning.specs.ModeAges.entered_in Rattle.meaning.specs.Run.ticks Rattle.meaning.specs.ModeAges.state_by
age_since_lem s inputs m j k small l entry none on = since s inputs m small j entry k l none on
