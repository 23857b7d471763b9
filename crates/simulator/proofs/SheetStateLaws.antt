-- Refusal 14 of a sheet run: a fresh state, or a consistent set with readings tested against the delays of the timers; its ages; the
-- sums of reading and age. Assumes nothing.
use mathlib.Core.Path.{◌≡◌, sym, ap, ◌∙◌}
use mathlib.Core.Logic.{inl, inr}
use mathlib.Core.Bool.{Bool, true, false, ◌&&◌, and-false, or-false}
use mathlib.Core.List.{List}
use Prim.Native.Nat.{ℕ, ◌+◌, ◌^◌, ◌<◌}
use native.Mathlib.Decide.{ℕ_discrete}
use lib.Dec.{T, eqb, ltb}
use lib.ListN.{get_or}
use borrow.Author.Tests.{ne_eqb}
use Rattle.sets.specs.Sets.{has, every}
use Rattle.sets.proofs.Tests.{is_true, of_true, and_l, and_r}
use Rattle.sets.proofs.Membership.{has_none}
use Rattle.sets.proofs.Quantifiers.{every_in_same}
use Rattle.meaning.specs.Lists.{row_from, all_of}
use Rattle.meaning.specs.Sheet.{n_of, source}
use Rattle.meaning.specs.Hierarchy.{consistent}
use Rattle.meaning.specs.Reaction.{delay, running}
use Rattle.meaning.specs.Ages.{age, ages_ok, sums_ok}
use Rattle.meaning.specs.Run.{State, reading, is_fresh, readings_ok}
use Rattle.meaning.specs.SheetRun.{timers_ok, state_ok}
use Rattle.meaning.proofs.TickLaws.{running_e, running_none}
use Rattle.run.proofs.ReadingTests.{reading_fits, readings_sound, readings_none, delays_serve}
use Rattle.reaction.specs.Plan.{timer_delay}
use Rattle.reaction.specs.Rounds.{Known}
use Rattle.simulator.proofs.DelayLaws.{delay_at}

module _ (s : List ℕ) (q : State) where
  abbrev timers : ℕ
  timers = running s q.at

  abbrev readings : List ℕ
  readings = q.readings

  -- ---- fresh, or consistent with sound readings

  pub timers_inconsistent : (q.at ≡ 0 → ⊥) → consistent s q.at ≡ false → false ≡ timers_ok s q
  unfolding timers_ok is_fresh
  timers_inconsistent n e = rw (ne_eqb q.at 0 n, e)

  -- at power-on no timer runs, and set 0 is not consistent
  fresh_ok : q.at ≡ 0 → readings_ok timers (delay s) readings ≡ timers_ok s q
  unfolding timers_ok is_fresh reading consistent all_of
  fresh_ok e =
      readings_none timers (delay s) readings (ap (running s) e ∙ running_none s)
      ∙ rw (e, has_none 0, and-false (ltb 0 (2 ^ n_of s))) (sym (or-false (every 64 (λ t. eqb (get_or readings t 0) 0))))

  -- the delays of the running timers stand among the delays
  module _ {delays : List ℕ} (d : delays ≡ row_from 0 64 (timer_delay s)) where
    there : (t : ℕ) → t < 64 → T (has timers t) → get_or delays t 0 ≡ delay s t
    there t l r = delay_at s d t l (running_e s q.at t r)

    serve : readings_ok timers (λ t. get_or delays t 0) readings ≡ readings_ok timers (delay s) readings
    serve = delays_serve timers (delay s) readings (λ t. get_or delays t 0) there

    pub timers_fresh : q.at ≡ 0 → readings_ok timers (λ t. get_or delays t 0) readings ≡ timers_ok s q
    timers_fresh e = serve ∙ fresh_ok e

    pub timers_consistent : (q.at ≡ 0 → ⊥) → consistent s q.at ≡ true → readings_ok timers (λ t. get_or delays t 0) readings ≡ timers_ok s q
    unfolding timers_ok is_fresh
    timers_consistent n e = serve ∙ rw (ne_eqb q.at 0 n, e)

    -- with that and sound ages the sums decide
    pub state_summed : {now : ℕ} → now ≡ timers → timers_ok s q ≡ true → ages_ok q.at q.ages ≡ true
        → {r : Bool} → r ≡ sums_ok now (source s) (λ t. get_or delays t 0) (reading readings) q.ages → r ≡ state_ok s q
    unfolding state_ok sums_ok
    state_summed e a b g =
        g ∙ rw (e, a, b) (every_in_same 64 timers _ _ (λ t l r. ap (eqb (reading readings t + age q.ages (source s t))) (there t l r)))

  pub state_untimed : timers_ok s q ≡ false → false ≡ state_ok s q
  unfolding state_ok
  state_untimed e = rw e

  pub state_unaged : ages_ok q.at q.ages ≡ false → false ≡ state_ok s q
  unfolding state_ok
  state_unaged e = rw (e, and-false (timers_ok s q))

  -- ---- a state that is not refused

  module _ (ok : state_ok s q ≡ true) where
    timed_and_aged : T (timers_ok s q && ages_ok q.at q.ages)
    unfolding state_ok
    timed_and_aged = and_l (timers_ok s q && ages_ok q.at q.ages) (sums_ok timers (source s) (delay s) (reading readings) q.ages) (of_true ok)

    timed : timers_ok s q ≡ true
    timed = is_true (timers_ok s q) (and_l (timers_ok s q) (ages_ok q.at q.ages) timed_and_aged)

    pub admitted_aged : T (ages_ok q.at q.ages)
    admitted_aged = and_r (timers_ok s q) (ages_ok q.at q.ages) timed_and_aged

    -- the set and its readings, where it is not fresh
    entered : (q.at ≡ 0 → ⊥) → T (consistent s q.at && readings_ok timers (delay s) readings)
    unfolding timers_ok is_fresh
    entered n = of_true (rw (ne_eqb q.at 0 n) at timed)

    pub admitted : (t : ℕ) → t < 64 → T (reading_fits timers (delay s) readings t)
    admitted = readings_sound timers (delay s) readings (go (ℕ_discrete q.at 0))
      where
        go : Dec (q.at ≡ 0) → readings_ok timers (delay s) readings ≡ true
        go (yes e) = fresh_ok e ∙ timed
        go (no n) = is_true (readings_ok timers (delay s) readings) (and_r (consistent s q.at) (readings_ok timers (delay s) readings) (entered n))

    pub admitted_known : Known s q.at
    admitted_known = go (ℕ_discrete q.at 0)
      where
        go : Dec (q.at ≡ 0) → Known s q.at
        go (yes e) = inl e
        go (no n) = inr (and_l (consistent s q.at) (readings_ok timers (delay s) readings) (entered n))
