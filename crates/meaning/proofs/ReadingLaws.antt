-- Laws of readings: every running reading stays 1 to its delay, and the others 0. Assumes nothing.
use mathlib.Core.Path.{◌≡◌, refl, sym, ap, ap₂, ◌∙◌, subst}
use mathlib.Core.Logic.{◌⊎◌, inl, inr}
use mathlib.Core.Bool.{Bool, true, false, ◌&&◌, cond}
use mathlib.Core.List.{List}
use Prim.Native.Nat.{ℕ, ◌-◌, ◌≤◌, ◌<◌}
use native.Mathlib.Nat.{lt_of_lt_of_le}
use native.Mathlib.Omega.{arith}
use lib.Dec.{T, eqb, leb, ltb, eqb→eq, leb→le, ltb→lt, le→leb}
use lib.ListN.{get_or, get_or-replicate}
use borrow.Author.Tests.{eqb-false, eq-eqb}
use Rattle.sets.specs.Sets.{has}
use Rattle.sets.proofs.Tests.{is_true, is_false, and_l, and_r, and_i, cond_ext, of_true}
use Rattle.sets.proofs.Membership.{has_none}
use Rattle.sets.proofs.Facts.{every_e, every_i}
use Rattle.sets.proofs.Those.{has-those}
use Rattle.meaning.specs.Sheet.{t_of, source, term_count, term_kind, term_value}
use Rattle.meaning.specs.Check.{kind_ok, term_ok}
use Rattle.meaning.specs.Reaction.{TickSets, is_delay, delay, is_timer, running}
use Rattle.meaning.specs.Tick.{tick}
use Rattle.meaning.specs.Run.{State, reading, power_on, due_timers, next_readings, next_state, readings_ok}
use Rattle.meaning.specs.SheetRun.{tick_from, state_after}
use Rattle.meaning.proofs.ListLaws.{row_at, row_from_ext}
use Rattle.meaning.proofs.SheetLaws.{Sound, t_le, terms_pos}
use Rattle.meaning.proofs.TickLaws.{stayed_or_entered, not_due, Runs, running_e, running_i}

-- the reading of t after a tick
pub next_reading : (timers entered : ℕ) (source_of delay_of : ℕ → ℕ) (readings : List ℕ) (t : ℕ) → t < 64
    → reading (next_readings timers entered source_of delay_of readings) t
    ≡ cond (has timers t) (cond (has entered (source_of t)) (delay_of t) (reading readings t - 1)) 0
unfolding next_readings reading
next_reading timers entered source_of delay_of readings t l =
    let f : ℕ → ℕ = λ u. cond (has timers u) (cond (has entered (source_of u)) (delay_of u) (get_or readings u 0 - 1)) 0 in
    row_at 64 f t l

-- readings after a tick agree where sources and delays do on the running timers
pub next_readings_ext : (timers entered : ℕ) (f f' g g' : ℕ → ℕ) (readings : List ℕ) → ((u : ℕ) → T (has timers u) → (f u ≡ f' u) × (g u ≡ g' u))
    → next_readings timers entered f g readings ≡ next_readings timers entered f' g' readings
unfolding next_readings
next_readings_ext timers entered f f' g g' readings h =
    row_from_ext (λ u. cond (has timers u) (cond (has entered (f u)) (g u) (reading readings u - 1)) 0)
    (λ u. cond (has timers u) (cond (has entered (f' u)) (g' u) (reading readings u - 1)) 0) 0 64 (λ u a b.
    cond_ext (has timers u) (cond (has entered (f u)) (g u) (reading readings u - 1)) (cond (has entered (f' u)) (g' u) (reading readings u - 1)) 0 (λ k.
    ap₂ (λ (x y : ℕ). cond (has entered x) y (reading readings u - 1)) (h u k).0 (h u k).1))

-- a timer is due where it runs and its lowered reading is 0
pub due_at : (timers : ℕ) (readings : List ℕ) (t : ℕ) → t < 64
    → has (due_timers timers readings) t ≡ (has timers t && eqb (reading readings t - 1) 0)
unfolding due_timers
due_at timers readings t l = has-those 64 timers (λ u. eqb (reading readings u - 1) 0) t l

-- each running reading is 1 to its delay and the others are 0: what the test says, and how it is shown
module _ (timers : ℕ) (delay_of : ℕ → ℕ) (readings : List ℕ) where
  abbrev fits : Bool → ℕ → Bool
  fits b t = cond b (leb 1 (reading readings t) && leb (reading readings t) (delay_of t)) (eqb (reading readings t) 0)

  fit_at : T (readings_ok timers delay_of readings) → (t : ℕ) → t < 64 → (b : Bool) → has timers t ≡ b → T (fits b t)
  unfolding readings_ok
  fit_at h t l b e = subst (λ (c : Bool). T (fits c t)) e (every_e 64 (λ u. fits (has timers u) u) h t l)

  pub readings_ok_running : T (readings_ok timers delay_of readings) → (t : ℕ) → t < 64 → T (has timers t)
      → (1 ≤ reading readings t) × (reading readings t ≤ delay_of t)
  readings_ok_running h t l r =
      let k = fit_at h t l true (is_true (has timers t) r) in
      let a = leb 1 (reading readings t) in
      let b = leb (reading readings t) (delay_of t) in
      (leb→le 1 (reading readings t) (and_l a b k), leb→le (reading readings t) (delay_of t) (and_r a b k))

  pub readings_ok_zero : T (readings_ok timers delay_of readings) → (t : ℕ) → t < 64 → has timers t ≡ false → reading readings t ≡ 0
  readings_ok_zero h t l e = eqb→eq (reading readings t) 0 (fit_at h t l false e)

  pub readings_ok_i : ((t : ℕ) → t < 64 → T (has timers t) → (1 ≤ reading readings t) × (reading readings t ≤ delay_of t))
      → ((t : ℕ) → t < 64 → has timers t ≡ false → reading readings t ≡ 0) → T (readings_ok timers delay_of readings)
  unfolding readings_ok
  readings_ok_i right zero = every_i 64 (λ t. fits (has timers t) t) (λ t l. go t l (has timers t) refl)
    where
      go : (t : ℕ) → t < 64 → (b : Bool) → has timers t ≡ b → T (fits b t)
      go t l true e =
          let k = right t l (of_true e) in
          let r = reading readings t in
          and_i (leb 1 r) (leb r (delay_of t)) (le→leb 1 r k.0) (le→leb r (delay_of t) k.1)
      go t l false e = of_true (eq-eqb (reading readings t) 0 (zero t l e))

-- a timer's delay is 1 or more
pub delay_pos : (s : List ℕ) (t : ℕ) → T (is_timer s t) → 1 ≤ delay s t
unfolding is_timer
delay_pos s t h = ltb→lt 0 (delay s t) (and_r (is_delay s t) (ltb 0 (delay s t)) h)

-- and at most 65,535
module _ (s : List ℕ) (sd : Sound s) where
  first_term : (t : ℕ) → T (term_ok s t 0) → term_kind s t 0 ≡ 0 → term_value s t 0 ≤ 65535
  unfolding term_ok kind_ok
  first_term t h z = leb→le (term_value s t 0) 65535 (and_r (eqb (term_count s t) 1) (leb (term_value s t 0) 65535) (rw z at h))

  pub delay_small : (t : ℕ) → t < t_of s → T (is_timer s t) → delay s t < 65536
  unfolding is_timer is_delay delay
  delay_small t l h =
      let z = eqb→eq (term_kind s t 0) 0 (and_l (is_delay s t) (ltb 0 (delay s t)) h) in
      omega (arith, first_term t (sd.terms t l 0 (terms_pos s sd t l)) z)

module _ (s : List ℕ) where
  -- every running reading is 1 to its delay
  unfoldable pub Right : State → Type 0
  Right p = (t : ℕ) → T (has (running s p.at) t) → (1 ≤ reading p.readings t) × (reading p.readings t ≤ delay s t)

  pub right_fresh : (p : State) → p.at ≡ 0 → Right p
  unfolding Right
  right_fresh p e t r = absurd (subst T (ap (λ (x : ℕ). has x (source s t)) e ∙ has_none (source s t)) (running_e s p.at t r).on)

  -- a timer t that runs after a tick: its reading, by whether its source was entered; if not, t ran before
  module _ (sd : Sound s) (p : State) (i t : ℕ) where
    abbrev after : TickSets
    after = (tick_from s p i).sets

    pub reading_next : T (has (running s after.modes) t) → (b : Bool) → has after.entered (source s t) ≡ b
        → reading (state_after s p after).readings t ≡ cond b (delay s t) (reading p.readings t - 1)
    unfolding state_after next_state
    reading_next r b g =
        next_reading (running s after.modes) after.entered (source s) (delay s) p.readings t (lt_of_lt_of_le (running_e s after.modes t r).small (t_le s sd))
        ∙ ap (λ (c : Bool). cond c (cond (has after.entered (source s t)) (delay s t) (reading p.readings t - 1)) 0) (is_true (has (running s after.modes) t) r)
        ∙ ap (λ (c : Bool). cond c (delay s t) (reading p.readings t - 1)) g

    pub ran_before : T (has (running s after.modes) t) → has after.entered (source s t) ≡ false → T (has (running s p.at) t)
    unfolding tick_from
    ran_before r g =
        let on = running_e s after.modes t r in
        running_i s p.at t
        (record { small = on.small; timer = on.timer; on = went_on (stayed_or_entered s (due_timers (running s p.at) p.readings) i p.at (source s t) on.on) })
      where
        went_on : T (has p.at (source s t)) ⊎ T (has after.entered (source s t)) → T (has p.at (source s t))
        went_on (inl k) = k
        went_on (inr k) = absurd (subst T g k)

  pub right_next : Sound s → (p : State) (i : ℕ) → Right p → (tick_from s p i).refusal ≡ 0 → Right (state_after s p (tick_from s p i).sets)
  unfolding Right tick_from state_after next_state
  right_next sd p i h e t r = go (has z.entered (source s t)) refl
    where
      timers : ℕ
      timers = running s p.at

      z : TickSets
      z = (tick s p.at (due_timers timers p.readings) i).sets

      q : State
      q = state_after s p z

      on : Runs s z.modes t
      on = running_e s z.modes t r

      small : t < 64
      small = lt_of_lt_of_le on.small (t_le s sd)

      left : has z.entered (source s t) ≡ false → eqb (reading p.readings t - 1) 0 ≡ false
      left g =
          is_false (eqb (reading p.readings t - 1) 0) (λ k.
          subst T (sym (due_at timers p.readings t small) ∙ not_due s sd (due_timers timers p.readings) i p.at e t r g)
          (and_i (has timers t) (eqb (reading p.readings t - 1) 0) (ran_before sd p i t r g) k))

      go : (b : Bool) → has z.entered (source s t) ≡ b → (1 ≤ reading q.readings t) × (reading q.readings t ≤ delay s t)
      go true g = let v : reading q.readings t ≡ delay s t = reading_next sd p i t r true g in (omega (arith, delay_pos s t on.timer), omega arith)
      go false g =
          let v : reading q.readings t ≡ reading p.readings t - 1 = reading_next sd p i t r false g in
          let k = h t (ran_before sd p i t r g) in
          let n = eqb-false (reading p.readings t - 1) 0 (left g) in
          (omega arith, omega arith)

  -- the readings of timers that do not run are 0
  abbrev pub Zeros : State → Type 0
  Zeros p = (u : ℕ) → u < 64 → has (running s p.at) u ≡ false → reading p.readings u ≡ 0

  -- the readings that 14 admits
  pub readings_sound : Sound s → (p : State) → Right p → Zeros p → T (readings_ok (running s p.at) (delay s) p.readings)
  unfolding Right
  readings_sound sd p right zeros = readings_ok_i (running s p.at) (delay s) p.readings (λ t l r. right t r) zeros

  pub zeros_fresh : Zeros power_on
  unfolding power_on reading
  zeros_fresh u l r = get_or-replicate 64 u 0 0 l

  pub zeros_next : (p : State) (z : TickSets) → Zeros (state_after s p z)
  unfolding state_after next_state
  zeros_next p z u l r = next_reading (running s z.modes) z.entered (source s) (delay s) p.readings u l ∙ rw r refl
