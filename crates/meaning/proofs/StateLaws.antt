-- States stay good: a done tick leaves a state that 14 admits, and an accepted table never meets 15. Assumes nothing.
use mathlib.Core.Path.{◌≡◌, refl, sym, ap, ◌∙◌, subst}
use mathlib.Core.Logic.{inl, inr, ⊎_elim}
use mathlib.Core.Bool.{Bool, true, false, not, ◌&&◌}
use mathlib.Core.List.{List}
use Prim.Native.Nat.{ℕ, suc, ◌≤◌, ◌<◌}
use native.Mathlib.Nat.{lt_of_lt_of_le}
use native.Mathlib.Omega.{arith}
use lib.Dec.{T, eqb, ltb, eqb→eq, ltb→lt}
use lib.ListN.{length}
use Rattle.sets.specs.Sets.{has, every}
use Rattle.sets.proofs.Tests.{of_true, and_l, and_r, and_i, or_e, or_r}
use Rattle.sets.proofs.Facts.{every_e}
use Rattle.meaning.specs.Lists.{refused_if}
use Rattle.meaning.specs.Sheet.{k_of, t_of, source}
use Rattle.meaning.specs.Check.{sheet_refusal}
use Rattle.meaning.specs.Hierarchy.{consistent}
use Rattle.meaning.specs.Reaction.{running, delay}
use Rattle.meaning.specs.Tick.{begin, tick}
use Rattle.meaning.specs.Ages.{ages_ok, sums_ok}
use Rattle.meaning.specs.Run.{State, reading, power_on, is_fresh, readings_ok, input_foreign, Run, ran, run, next_state, output_short, due_timers}
use Rattle.meaning.specs.SheetRun.{timers_ok, state_ok, tick_from, state_after, sheet_step, with_numbers, sheet_run}
use Rattle.meaning.specs.Table.{k_in, b_in, delay_in, mask_in, timers_in, table_ok}
use Rattle.meaning.specs.TableRun.{table_timers_ok, table_state_ok, cell_of, state_after_cell, is_stale, table_step, table_run}
use Rattle.meaning.specs.WholeList.{legal}
use Rattle.meaning.specs.Faithful.{faithful}
use Rattle.meaning.specs.HighestLevelFirst.{NoReadingZero}
use Rattle.meaning.specs.Acceptance.{TableStateStays, TableRunsOn, AcceptedNotStale}
use Rattle.meaning.specs.Promises.{SheetStateStays, SheetRunsOn}
use Rattle.meaning.proofs.RefusalLaws.{test_passed_i}
use Rattle.meaning.proofs.SheetLaws.{Sound, sound, t_le}
use Rattle.meaning.proofs.TickLaws.{running_e, rounds_refusal}
use Rattle.meaning.proofs.Consistency.{keeps_consistent_lem}
use Rattle.meaning.proofs.ReadingLaws.{readings_ok_running, readings_ok_zero, Right, right_fresh, right_next, Zeros, readings_sound, zeros_next}
use Rattle.meaning.proofs.AgeLaws.{ages_none, Summed, summed_e, summed_i, summed_next, fits_next}
use Rattle.meaning.proofs.RunLaws.{tick_known, tick_done, refusal_state, refusal_short, run_goes, run_leaves_lem, run_admitted}
use Rattle.meaning.proofs.SheetTicksLaws.{Steady}
use Rattle.meaning.proofs.LayoutLaws.{b_pos, mask_first}
use Rattle.meaning.proofs.FaithfulLaws.{k_same, delay_same}
use Rattle.meaning.proofs.AcceptanceLaws.{accepted_e}
use Rattle.meaning.proofs.Simulation.{Stands, timers_stand, stands_next, table_good, right_step, ticks_agree}
use Rattle.meaning.proofs.ServedLaws.{state_ok_lem}

-- a fresh state: its set or block is 0, and so is every reading
fresh_at : (q : State) → T (is_fresh q) → q.at ≡ 0
unfolding is_fresh
fresh_at q h = eqb→eq q.at 0 (and_l (eqb q.at 0) (every 64 (λ t. eqb (reading q.readings t) 0)) h)

fresh_zero : (q : State) → T (is_fresh q) → (t : ℕ) → t < 64 → reading q.readings t ≡ 0
unfolding is_fresh
fresh_zero q h t l =
    eqb→eq (reading q.readings t) 0
    (every_e 64 (λ u. eqb (reading q.readings u) 0) (and_r (eqb q.at 0) (every 64 (λ u. eqb (reading q.readings u) 0)) h) t l)

-- ---- a sheet's states

-- a state that 14 admits
pub record Good (s : List ℕ) (q : State) : Type 0 where
  pub steady : Steady s q
  pub right : Right s q
  pub zeros : Zeros s q

module _ (s : List ℕ) (sd : Sound s) where
  good_e : (q : State) → T (timers_ok s q) → Good s q
  unfolding timers_ok
  good_e q h = ⊎_elim fresh other (or_e (is_fresh q) (consistent s q.at && readings_ok (running s q.at) (delay s) q.readings) h)
    where
      fresh : T (is_fresh q) → Good s q
      fresh k = record { steady = inl (fresh_at q k); right = right_fresh s q (fresh_at q k); zeros = λ u l _. fresh_zero q k u l }

      other : T (consistent s q.at && readings_ok (running s q.at) (delay s) q.readings) → Good s q
      other k =
          let c = consistent s q.at in
          let r = and_r c (readings_ok (running s q.at) (delay s) q.readings) k in
          record {
            steady = inr (and_l c (readings_ok (running s q.at) (delay s) q.readings) k);
            right = unfold Right in
                (λ t on. readings_ok_running (running s q.at) (delay s) q.readings r t (lt_of_lt_of_le (running_e s q.at t on).small (t_le s sd)) on);
            zeros = readings_ok_zero (running s q.at) (delay s) q.readings r;
          }

  -- the three tests of a state that 14 admits
  record Admitted (q : State) : Type 0 where
    timers : T (timers_ok s q)
    ages : T (ages_ok q.at q.ages)
    summed : Summed s q

  admitted_e : (q : State) → T (state_ok s q) → Admitted q
  unfolding state_ok
  admitted_e q h =
      let a = timers_ok s q in
      let b = ages_ok q.at q.ages in
      let c = sums_ok (running s q.at) (source s) (delay s) (reading q.readings) q.ages in
      let k = and_l (a && b) c h in
      record { timers = and_l a b k; ages = and_r a b k; summed = summed_e s sd q (and_r (a && b) c h) }

  -- what 14 admits of a sheet's state is good
  pub state_good : (q : State) → T (state_ok s q) → Good s q
  state_good q h = good_e q (admitted_e q h).timers

  admitted_i : (q : State) → Admitted q → T (state_ok s q)
  unfolding state_ok
  admitted_i q h = and_i (timers_ok s q && ages_ok q.at q.ages) _ (and_i (timers_ok s q) _ h.timers h.ages) (summed_i s q h.summed)

  timers_stay : (q : State) (i : ℕ) → T (timers_ok s q) → (sheet_step s q i).refusal ≡ 0 → T (timers_ok s (sheet_step s q i).state)
  unfolding sheet_step timers_ok
  timers_stay q i h e =
      let g = good_e q h in
      let o = state_after s q (tick_from s q i).sets in
      or_r (is_fresh o) (consistent s o.at && readings_ok (running s o.at) (delay s) o.readings)
      (and_i (consistent s o.at) (readings_ok (running s o.at) (delay s) o.readings)
      (unfold state_after next_state tick_from in (keeps_consistent_lem s sd q.at _ i g.steady))
      (readings_sound s sd o (right_next s sd q i g.right e) (zeros_next s q (tick_from s q i).sets)))

  stays : (q : State) (i : ℕ) → T (state_ok s q) → (sheet_step s q i).refusal ≡ 0 → T (state_ok s (sheet_step s q i).state)
  stays q i h e =
      let a = admitted_e q h in
      admitted_i (sheet_step s q i).state
      (record {
        timers = timers_stay q i a.timers e;
        ages = unfold sheet_step in (fits_next s q (tick_from s q i).sets).ages;
        summed = unfold sheet_step in (summed_next s sd q i (good_e q a.timers).right a.summed);
      })

pub sheet_state_stays_lem : SheetStateStays
unfolding SheetStateStays
sheet_state_stays_lem s h q i ok e = stays s (sound s h) q i ok e

pub no_reading_zero_lem : NoReadingZero
unfolding NoReadingZero Right
no_reading_zero_lem s h q i ok e t on = ((good_e s (sound s h) (sheet_step s q i).state (timers_stay s (sound s h) q i (admitted_e s (sound s h) q ok).timers e)).right t on).0

-- ---- a table's states

-- the fresh state is admitted
pub fresh_admitted : (w : List ℕ) → T (table_state_ok w power_on)
unfolding table_state_ok table_timers_ok is_fresh power_on reading every
fresh_admitted w = ages_none (mask_in w 0)

-- those of a faithful table
module _ (s : List ℕ) (sd : Sound s) (w : List ℕ) (ok : T (table_ok w)) (f : T (faithful s w)) where
  -- the sheet's state that q stands for
  abbrev meant : State → State
  meant q = record { at = mask_in w q.at; readings = q.readings; ages = q.ages }

  record StandsGood (q : State) : Type 0 where
    stands : Stands s sd w ok f q (meant q)
    right : Right s (meant q)
    zeros : Zeros s (meant q)

  stands_good : (q : State) → T (table_state_ok w q) → StandsGood q
  unfolding table_state_ok table_timers_ok
  stands_good q h =
      ⊎_elim fresh other
      (or_e (is_fresh q) (ltb 0 q.at && ltb q.at (b_in w) && readings_ok (timers_in w q.at) (delay_in w) q.readings)
      (and_l (table_timers_ok w q) (ages_ok (mask_in w q.at) q.ages) h))
    where
      fresh : T (is_fresh q) → StandsGood q
      fresh k =
          record {
            stands = record { low = subst (λ (b : ℕ). b < b_in w) (sym (fresh_at q k)) (b_pos w ok); same = refl; readings = refl; ages = refl };
            right = right_fresh s (meant q) (ap (mask_in w) (fresh_at q k) ∙ mask_first w ok);
            zeros = λ u l _. fresh_zero q k u l;
          }

      other : T (ltb 0 q.at && ltb q.at (b_in w) && readings_ok (timers_in w q.at) (delay_in w) q.readings) → StandsGood q
      other k =
          record {
            stands = st;
            right = unfold Right in right;
            zeros = λ u l e. readings_ok_zero (timers_in w q.at) (delay_in w) q.readings r u l (ap (λ (x : ℕ). has x u) same ∙ e);
          }
        where
          place : T (ltb 0 q.at && ltb q.at (b_in w))
          place = and_l (ltb 0 q.at && ltb q.at (b_in w)) (readings_ok (timers_in w q.at) (delay_in w) q.readings) k

          r : T (readings_ok (timers_in w q.at) (delay_in w) q.readings)
          r = and_r (ltb 0 q.at && ltb q.at (b_in w)) (readings_ok (timers_in w q.at) (delay_in w) q.readings) k

          st : Stands s sd w ok f q (meant q)
          st = record { low = ltb→lt q.at (b_in w) (and_r (ltb 0 q.at) (ltb q.at (b_in w)) place); same = refl; readings = refl; ages = refl }

          same : timers_in w q.at ≡ running s (mask_in w q.at)
          same = timers_stand s sd w ok f q (meant q) st

          right : (t : ℕ) → T (has (running s (mask_in w q.at)) t) → (1 ≤ reading q.readings t) × (reading q.readings t ≤ delay s t)
          right t on =
              let g = running_e s (mask_in w q.at) t on in
              let on' = subst (λ (x : ℕ). T (has x t)) (sym same) on in
              let b = readings_ok_running (timers_in w q.at) (delay_in w) q.readings r t (lt_of_lt_of_le g.small (t_le s sd)) on' in
              (b.0, subst (λ (d : ℕ). reading q.readings t ≤ d) (delay_same s w f sd t g.small g.timer) b.1)

  table_stays : (q : State) (i : ℕ) → T (table_state_ok w q) → input_foreign (k_in w) i ≡ false
      → ((table_step w q i).refusal ≡ 0) × T (table_state_ok w (table_step w q i).state)
  table_stays q i h known =
      let g = stands_good q h in
      let known' = subst (λ (k : ℕ). input_foreign k i ≡ false) (k_same s w f) known in (
        sym (tick_known (k_in w) (table_step w) q i known) ∙ table_good s sd w ok f q (meant q) g.stands i known' g.right,
        state_ok_lem s sd w ok f (table_step w q i).state (sheet_step s (meant q) i).state (stands_next s sd w ok f q (meant q) g.stands i known')
            (right_step s sd w ok f q (meant q) g.stands i known' g.right) (unfold sheet_step in (fits_next s (meant q) _)),
      )

pub table_state_stays_lem : TableStateStays
unfolding TableStateStays
table_state_stays_lem s w a = let r = accepted_e s w a in table_stays s (sound s r.0) w r.1 r.2

-- ---- runs

-- a tick is refused 8 or 9, or not at all
tick_other : (s : List ℕ) (q : State) (i : ℕ) → (sheet_step s q i).refusal ≡ 14 → ⊥
unfolding sheet_step tick_from tick
tick_other s q i h = let k = rounds_refusal s (due_timers (running s q.at) q.readings) i (suc (t_of s)) (begin s q.at) 0 in omega arith

pub sheet_runs_on_lem : SheetRunsOn
unfolding SheetRunsOn sheet_run with_numbers
sheet_runs_on_lem s h q inputs out numbers more out' numbers' n =
    run_admitted (k_of s) (sheet_step s) (sheet_refusal s) h (state_ok s) (tick_other s) _ _ more out'
    (run_leaves_lem (k_of s) (sheet_step s) (sheet_refusal s) h (state_ok s)
    (λ p i e ok. stays s (sound s h) p i ok (tick_done (k_of s) (sheet_step s) p i e).1) q _ inputs out n)

-- a tick of a table is refused 15, or not at all
step_other : (w : List ℕ) (q : State) (i : ℕ) → (table_step w q i).refusal ≡ 14 → ⊥
unfolding table_step refused_if
step_other w q i = go (is_stale w (state_after_cell w q (cell_of w q i)))
  where
    go : (b : Bool) → refused_if b 15 ≡ 14 → ⊥
    go true h = omega arith
    go false h = omega arith

pub table_runs_on_lem : TableRunsOn
unfolding TableRunsOn TableStateStays table_run
table_runs_on_lem s w a q inputs out more out' n =
    let layout = test_passed_i (table_ok w) 15 (accepted_e s w a).1 in
    run_admitted (k_in w) (table_step w) _ layout (table_state_ok w) (step_other w) _ _ more out'
    (run_leaves_lem (k_in w) (table_step w) _ layout (table_state_ok w)
    (λ p i e admitted. (table_state_stays_lem s w a p i admitted (tick_done (k_in w) (table_step w) p i e).0).1) q _ inputs out n)

pub accepted_not_stale_lem : AcceptedNotStale
unfolding AcceptedNotStale table_run
accepted_not_stale_lem s w a q inputs out = go (table_state_ok w q) (output_short inputs out) refl refl
  where
    sd : Sound s
    sd = sound s (accepted_e s w a).0

    ok : T (table_ok w)
    ok = (accepted_e s w a).1

    f : T (faithful s w)
    f = (accepted_e s w a).2

    layout : refused_if (not (table_ok w)) 15 ≡ 0
    layout = test_passed_i (table_ok w) 15 ok

    R : Run
    R = run (k_in w) (table_step w) (refused_if (not (table_ok w)) 15) (table_state_ok w q) (output_short inputs out) q inputs out

    go : (x y : Bool) → table_state_ok w q ≡ x → output_short inputs out ≡ y → R.refusal ≡ 15 → ⊥
    go false y e k z =
        omega (arith, refusal_state (k_in w) (table_step w) _ (table_state_ok w q) (output_short inputs out) q inputs out layout e)
    go true true e k z =
        omega (arith, refusal_short (k_in w) (table_step w) _ (table_state_ok w q) (output_short inputs out) q inputs out layout e k)
    go true false e k z = other (ltb (length (legal (k_of s) inputs)) (length inputs)) (sym agreed ∙ z)
      where
        good : StandsGood s sd w ok f q
        good = stands_good s sd w ok f q (of_true e)

        agreed : R.refusal ≡ refused_if (ltb (length (legal (k_of s) inputs)) (length inputs)) 13
        agreed =
            ap (λ (x : Run). x.refusal) (run_goes (k_in w) (table_step w) _ (table_state_ok w q) (output_short inputs out) q inputs out layout e k)
            ∙ (unfold ran refused_if in (ticks_agree s sd w ok f inputs q (meant s sd w ok f q) good.stands good.right).refusal)

        other : (b : Bool) → refused_if b 13 ≡ 15 → ⊥
        other true g = unfold refused_if in (omega arith)
        other false g = unfold refused_if in (omega arith)
