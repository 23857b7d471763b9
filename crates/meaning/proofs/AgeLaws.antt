-- Laws of ages: an age is at most 65,535, where it stays, and 0 outside the set; reading plus age of the source is the delay. Assumes
-- nothing.
use mathlib.Core.Path.{◌≡◌, refl, ap, ◌∙◌, subst}
use mathlib.Core.Bool.{Bool, true, false, not, ◌&&◌, cond}
use mathlib.Core.List.{List}
use Prim.Native.Nat.{ℕ, ◌+◌, ◌-◌, ◌≤◌, ◌<◌, min}
use native.Mathlib.Nat.{lt_of_lt_of_le}
use native.Mathlib.Omega.{arith}
use lib.Dec.{T, eqb, leb, leb→le, le→leb, eqb→eq}
use lib.ListN.{get_or, get_or-replicate}
use borrow.Author.Tests.{eq-eqb}
use Rattle.sets.specs.Sets.{has}
use Rattle.sets.proofs.Tests.{is_true, of_true}
use Rattle.sets.proofs.Membership.{has_none}
use Rattle.sets.proofs.Facts.{every_e, every_i, every_in_e, every_in_i}
use Rattle.meaning.specs.Sheet.{source}
use Rattle.meaning.specs.Reaction.{TickSets, delay, running}
use Rattle.meaning.specs.Ages.{age, no_ages, next_ages, ages_ok, sums_ok}
use Rattle.meaning.specs.Run.{State, reading, power_on, next_state}
use Rattle.meaning.specs.SheetRun.{tick_from, state_after}
use Rattle.meaning.specs.ModeAges.{AgeStays}
use Rattle.meaning.proofs.ListLaws.{row_at}
use Rattle.meaning.proofs.SheetLaws.{Sound, n_le, t_le, source-lt}
use Rattle.meaning.proofs.TickLaws.{running_e}
use Rattle.meaning.proofs.ReadingLaws.{delay_small, Right, reading_next, ran_before, Zeros, zeros_fresh, zeros_next}

-- the age of m after a tick
pub next_age : (modes entered : ℕ) (ages : List ℕ) (m : ℕ) → m < 32
    → age (next_ages modes entered ages) m ≡ cond (has modes m && not (has entered m)) (min 65535 (age ages m + 1)) 0
unfolding next_ages age
next_age modes entered ages m l = row_at 32 (λ k. cond (has modes k && not (has entered k)) (min 65535 (get_or ages k 0 + 1)) 0) m l

pub age-stays : AgeStays
unfolding AgeStays
age-stays modes entered ages m l on off e = next_age modes entered ages m l ∙ rw (is_true (has modes m) on, off, e) refl

-- ---- what 14 asks of ages: what the test says, and how it is shown

module _ (modes : ℕ) (ages : List ℕ) where
  abbrev age_fits : Bool → ℕ → Bool
  age_fits b m = cond b (leb (age ages m) 65535) (eqb (age ages m) 0)

  fit_at : T (ages_ok modes ages) → (m : ℕ) → m < 32 → (b : Bool) → has modes m ≡ b → T (age_fits b m)
  unfolding ages_ok
  fit_at h m l b e = subst (λ (c : Bool). T (age_fits c m)) e (every_e 32 (λ k. age_fits (has modes k) k) h m l)

  pub ages_ok_active : T (ages_ok modes ages) → (m : ℕ) → m < 32 → T (has modes m) → age ages m ≤ 65535
  ages_ok_active h m l r = leb→le (age ages m) 65535 (fit_at h m l true (is_true (has modes m) r))

  pub ages_ok_inactive : T (ages_ok modes ages) → (m : ℕ) → m < 32 → has modes m ≡ false → age ages m ≡ 0
  ages_ok_inactive h m l e = eqb→eq (age ages m) 0 (fit_at h m l false e)

  pub ages_ok_i : ((m : ℕ) → m < 32 → age ages m ≤ 65535) → ((m : ℕ) → m < 32 → has modes m ≡ false → age ages m ≡ 0) → T (ages_ok modes ages)
  unfolding ages_ok
  ages_ok_i most zero = every_i 32 (λ m. age_fits (has modes m) m) (λ m l. go m l (has modes m) refl)
    where
      go : (m : ℕ) → m < 32 → (b : Bool) → has modes m ≡ b → T (age_fits b m)
      go m l true e = le→leb (age ages m) 65535 (most m l)
      go m l false e = of_true (eq-eqb (age ages m) 0 (zero m l e))

-- ages after a tick pass 14
pub ages_next : (modes entered : ℕ) (ages : List ℕ) → T (ages_ok modes (next_ages modes entered ages))
ages_next modes entered ages =
    ages_ok_i modes next (λ m l. most m (has modes m && not (has entered m)) (next_age modes entered ages m l))
    (λ m l e. next_age modes entered ages m l ∙ ap (λ (b : Bool). cond (b && not (has entered m)) (min 65535 (age ages m + 1)) 0) e)
  where
    next : List ℕ
    next = next_ages modes entered ages

    most : (m : ℕ) (b : Bool) → age next m ≡ cond b (min 65535 (age ages m + 1)) 0 → age next m ≤ 65535
    most m true e = let v : age next m ≡ min 65535 (age ages m + 1) = e in omega arith
    most m false e = let v : age next m ≡ 0 = e in omega arith

pub ages_none : (modes : ℕ) → T (ages_ok modes no_ages)
unfolding no_ages age
ages_none modes =
    let zero : (m : ℕ) → m < 32 → age no_ages m ≡ 0 = λ m l. get_or-replicate 32 m 0 0 l in
    ages_ok_i modes no_ages (λ m l. omega (arith, zero m l)) (λ m l _. zero m l)

-- ---- reading plus age

module _ (s : List ℕ) where
  -- "for every running timer .., reading plus age of its source is its delay"
  unfoldable pub Summed : State → Type 0
  Summed p = (t : ℕ) → T (has (running s p.at) t) → reading p.readings t + age p.ages (source s t) ≡ delay s t

  pub summed_fresh : (p : State) → p.at ≡ 0 → Summed p
  unfolding Summed
  summed_fresh p e t r = absurd (subst T (ap (λ (x : ℕ). has x (source s t)) e ∙ has_none (source s t)) (running_e s p.at t r).on)

  -- what the test says, and how it is shown
  abbrev pub SumsIn : State → Type 0
  SumsIn p = T (sums_ok (running s p.at) (source s) (delay s) (reading p.readings) p.ages)

  abbrev sums : State → ℕ → Bool
  sums p t = eqb (reading p.readings t + age p.ages (source s t)) (delay s t)

  pub summed_e : Sound s → (p : State) → SumsIn p → Summed p
  unfolding Summed sums_ok
  summed_e sd p h t r =
      eqb→eq (reading p.readings t + age p.ages (source s t)) (delay s t)
      (every_in_e 64 (running s p.at) (sums p) h t (lt_of_lt_of_le (running_e s p.at t r).small (t_le s sd)) r)

  pub summed_i : (p : State) → Summed p → SumsIn p
  unfolding Summed sums_ok
  summed_i p h =
      every_in_i 64 (running s p.at) (sums p) (λ t l r. of_true (eq-eqb (reading p.readings t + age p.ages (source s t)) (delay s t) (h t r)))

  pub summed_next : Sound s → (p : State) (i : ℕ) → Right s p → Summed p → Summed (state_after s p (tick_from s p i).sets)
  unfolding Summed Right
  summed_next sd p i h g t r = go (has z.entered m) refl
    where
      z : TickSets
      z = (tick_from s p i).sets

      q : State
      q = state_after s p z

      m : ℕ
      m = source s t

      on : T (has (running s z.modes) t)
      on = unfold state_after next_state in r

      aged : (b : Bool) → has z.entered m ≡ b → age q.ages m ≡ cond (not b) (min 65535 (age p.ages m + 1)) 0
      aged b e =
          unfold state_after next_state in (next_age z.modes z.entered p.ages m (lt_of_lt_of_le (source-lt s sd t (running_e s z.modes t on).small) (n_le s sd))
          ∙ rw (is_true (has z.modes m) (running_e s z.modes t on).on) (rw e))

      go : (b : Bool) → has z.entered m ≡ b → reading q.readings t + age q.ages m ≡ delay s t
      go true e =
          let v : reading q.readings t ≡ delay s t = reading_next s sd p i t on true e in
          let w : age q.ages m ≡ 0 = aged true e in
          omega (arith, v, w)
      go false e =
          let v : reading q.readings t ≡ reading p.readings t - 1 = reading_next s sd p i t on false e in
          let w : age q.ages m ≡ min 65535 (age p.ages m + 1) = aged false e in
          let ran = ran_before s sd p i t on e in
          let k = running_e s p.at t ran in
          omega (arith, v, w, g t ran, (h t ran).0, delay_small s sd t k.small k.timer)

  -- ---- what every tick leaves: readings of timers that do not run are 0, ages pass 14

  pub record Fits (p : State) : Type 0 where
    pub zeros : Zeros s p
    pub ages : T (ages_ok p.at p.ages)

  pub fits_fresh : Fits power_on
  fits_fresh = record { zeros = zeros_fresh s; ages = unfold power_on in (ages_none 0) }

  pub fits_next : (p : State) (z : TickSets) → Fits (state_after s p z)
  fits_next p z = record { zeros = zeros_next s p z; ages = unfold state_after next_state in (ages_next z.modes z.entered p.ages) }
