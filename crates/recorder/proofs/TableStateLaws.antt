-- Refusals of a table run. 15: none of a sound layout. 14: a block below B with sound readings; block 0 has no timers, so there the state
-- is fresh. Assumes nothing.
use mathlib.Core.Path.{◌≡◌, sym, ap, ◌∙◌}
use mathlib.Core.Bool.{true, false, not, and-false, or-false}
use mathlib.Core.List.{List}
use Prim.Native.Nat.{ℕ, ◌≤◌, ◌<◌}
use native.Mathlib.Nat.{lt_of_not-le}
use native.Mathlib.Decide.{ℕ_discrete, dec_le}
use native.Mathlib.Omega.{arith}
use lib.Dec.{T, eqb, ltb}
use lib.ListN.{get_or}
use borrow.Author.Tests.{ne_eqb, lt-ltb, le-ltb}
use Rattle.sets.specs.Sets.{every}
use Rattle.sets.proofs.Tests.{is_true, of_true, of_false, and_l, and_r}
use Rattle.meaning.specs.Lists.{row_from, refused_if}
use Rattle.meaning.specs.Ages.{ages_ok}
use Rattle.meaning.specs.Run.{State, reading, is_fresh, readings_ok}
use Rattle.meaning.specs.Table.{b_in, delay_in, mask_in, timers_in, table_ok}
use Rattle.meaning.specs.TableRun.{table_timers_ok, table_state_ok}
use Rattle.meaning.proofs.LayoutLaws.{b_pos, timers_first}
use Rattle.table.proofs.LayoutFacts.{shape_of, timer_lt}
use Rattle.run.proofs.ReadingTests.{reading_fits, readings_sound, readings_none, delays_serve}
use Rattle.recorder.specs.Timers.{timer_delay_in}
use Rattle.recorder.proofs.TimerLaws.{delay_at}

pub no_refusal : (w : List ℕ) → table_ok w ≡ true → refused_if (not (table_ok w)) 15 ≡ 0
unfolding refused_if
no_refusal w h = rw h

module _ (w : List ℕ) (h : T (table_ok w)) (q : State) where
  abbrev timers : ℕ
  timers = timers_in w q.at

  abbrev readings : List ℕ
  readings = q.readings

  pub state_outside : b_in w ≤ q.at → false ≡ table_timers_ok w q
  unfolding table_timers_ok is_fresh
  state_outside l = rw (ne_eqb q.at 0 (λ z. omega (arith, b_pos w h)), le-ltb q.at (b_in w) l, and-false (ltb 0 q.at))

  module _ (l : q.at < b_in w) where
    -- in block 0 no timer runs
    readings_decide : readings_ok timers (delay_in w) readings ≡ table_timers_ok w q
    unfolding table_timers_ok is_fresh reading
    readings_decide = go (ℕ_discrete q.at 0)
      where
        go : Dec (q.at ≡ 0) → readings_ok timers (delay_in w) readings ≡ table_timers_ok w q
        go (yes e) =
            readings_none timers (delay_in w) readings (ap (timers_in w) e ∙ timers_first w h)
            ∙ rw e (sym (or-false (every 64 (λ t. eqb (get_or readings t 0) 0))))
        go (no n) = rw (ne_eqb q.at 0 n, lt-ltb 0 q.at (omega arith), lt-ltb q.at (b_in w) l)

    -- the delays of a block's timers stand among the delays
    pub state_inside : readings_ok timers (λ t. get_or (row_from 0 64 (timer_delay_in w)) t 0) readings ≡ table_timers_ok w q
    state_inside =
        delays_serve timers (delay_in w) readings (λ t. get_or (row_from 0 64 (timer_delay_in w)) t 0) (λ t k r. delay_at w t k (timer_lt w (shape_of w h) q.at l t r k))
        ∙ readings_decide

  -- the block of a state whose timers are sound is there
  pub block_there : table_timers_ok w q ≡ true → q.at < b_in w
  block_there sound = go (dec_le (b_in w) q.at)
    where
      go : Dec (b_in w ≤ q.at) → q.at < b_in w
      go (yes l) = absurd (of_false (sym sound ∙ sym (state_outside l)) tt)
      go (no n) = lt_of_not-le n

  -- of a state that is not refused the block is there, the readings are sound, and so are the ages
  pub admitted : table_state_ok w q ≡ true
      → (q.at < b_in w) × ((t : ℕ) → t < 64 → T (reading_fits timers (delay_in w) readings t)) × T (ages_ok (mask_in w q.at) q.ages)
  unfolding table_state_ok
  admitted ok =
      let a = table_timers_ok w q in
      let b = ages_ok (mask_in w q.at) q.ages in
      let sound = is_true a (and_l a b (of_true ok)) in
      let l = block_there sound in
      (l, readings_sound timers (delay_in w) readings (readings_decide l ∙ sound), and_r a b (of_true ok))
