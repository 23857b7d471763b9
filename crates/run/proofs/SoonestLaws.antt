-- The loop that finds a tick before which no timer of a set is due, and what holds before it. Assumes nothing.
use mathlib.Core.Path.{◌≡◌, sym, ap, ◌∙◌, subst}
use mathlib.Core.Logic.{◌⊎◌, inl, inr}
use mathlib.Core.Bool.{Bool, true}
use mathlib.Core.List.{List}
use Prim.Native.Nat.{ℕ, ◌^◌, ◌≤◌, ◌<◌}
use native.Mathlib.Nat.{le_trans}
use native.Mathlib.Decide.{ℕ_discrete}
use native.Mathlib.Omega.{arith}
use lib.Dec.{T, eqb, eqb→eq}
use lib.ListN.{get_or}
use Rattle.sets.specs.Sets.{has, those}
use Rattle.sets.proofs.Tests.{is_true, is_false, of_true, of_false}
use Rattle.sets.proofs.Facts.{those_e}
use Rattle.sets.proofs.Membership.{has_none, those-lt}
use Rattle.sets.proofs.Members.{Turn, without_other, empty}

module _ (timers : ℕ) (ends : List ℕ) where
  -- what the loop keeps, with these timers left
  pub record Soonest (soon rest : ℕ) : Type 0 where
    pub fits : rest < 2 ^ 64
    pub bound : (t : ℕ) → T (has timers t) → T (has rest t) ⊎ (soon ≤ get_or ends t 0)

  pub soonest_start : {soon : ℕ} → timers < 2 ^ 64 → Soonest soon timers
  soonest_start l = record { fits = l; bound = λ t h. inl h }

  pub soonest_turn : {soon rest t rest' soon' : ℕ} → Soonest soon rest → Turn 64 rest t rest' → soon' ≤ soon → soon' ≤ get_or ends t 0 → Soonest soon' rest'
  soonest_turn {soon} {rest} {t} {rest'} {soon'} c u n h = record { fits = u.fits; bound = λ v k. on v (ℕ_discrete v t) (c.bound v k) }
    where
      on : (v : ℕ) → Dec (v ≡ t) → T (has rest v) ⊎ (soon ≤ get_or ends v 0) → T (has rest' v) ⊎ (soon' ≤ get_or ends v 0)
      on v (yes e) k = inr (subst (λ (x : ℕ). soon' ≤ get_or ends x 0) (sym e) h)
      on v (no e) (inl k) = inl (subst T (sym (ap (λ (x : ℕ). has x v) u.removed ∙ without_other rest t v e)) k)
      on v (no e) (inr k) = inr (le_trans n k)

  pub soonest_done : {soon rest : ℕ} → Soonest soon rest → rest ≡ 0 → (t : ℕ) → has timers t ≡ true → soon ≤ get_or ends t 0
  soonest_done {soon} {rest} c z t h = at (c.bound t (of_true h))
    where
      at : T (has rest t) ⊎ (soon ≤ get_or ends t 0) → soon ≤ get_or ends t 0
      at (inl k) = absurd (of_false (ap (λ (x : ℕ). has x t) z ∙ has_none t) k)
      at (inr k) = k

  -- before the tick soon none is due
  pub soon_none : {soon tick : ℕ} → ((t : ℕ) → has timers t ≡ true → soon ≤ get_or ends t 0) → tick < soon → 0 ≡ those 64 timers (λ t. eqb (get_or ends t 0) tick)
  soon_none {soon} {tick} later l =
      let is_due : ℕ → Bool = λ t. eqb (get_or ends t 0) tick in
      sym (empty 64 (those-lt 64 timers is_due) (λ t _.
      is_false (has (those 64 timers is_due) t) (λ h. let k = those_e 64 timers is_due t h in omega (arith, later t (is_true (has timers t) k.1), eqb→eq (get_or ends t 0) tick k.2))))
