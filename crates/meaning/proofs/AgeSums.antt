-- Reading plus age of the source is the delay: after the ticks of a sheet from power-on, and so in the states that the runs of an
-- accepted table return, which stand for the sheet's. Assumes nothing.
use mathlib.Core.Path.{◌≡◌, refl, sym, subst}
use mathlib.Core.List.{List}
use Prim.Native.Nat.{ℕ, zero, suc, ◌≤◌, ◌<◌}
use native.Mathlib.Omega.{arith}
use lib.Dec.{T}
use lib.ListN.{length}
use Rattle.sets.specs.Sets.{has}
use Rattle.meaning.specs.Sheet.{k_of}
use Rattle.meaning.specs.Run.{State, power_on, Run, tick_refusal}
use Rattle.meaning.specs.SheetRun.{sheet_step, sheet_ticks}
use Rattle.meaning.specs.Table.{table_ok}
use Rattle.meaning.specs.Faithful.{faithful}
use Rattle.meaning.specs.WholeList.{Call, run_of}
use Rattle.meaning.specs.Acceptance.{CompiledAccepted}
use Rattle.meaning.specs.ModeAges.{TableSums, SumsInSheet, SumsInAccepted, SumsInCompiled}
use Rattle.meaning.proofs.SheetLaws.{Sound, sound}
use Rattle.meaning.proofs.TickLaws.{running_e}
use Rattle.meaning.proofs.Consistency.{keeps_consistent_lem}
use Rattle.meaning.proofs.ReadingLaws.{Right, right_fresh, right_next}
use Rattle.meaning.proofs.AgeLaws.{Summed, summed_fresh, summed_next}
use Rattle.meaning.proofs.RunLaws.{tick_done, ticks_keep}
use Rattle.meaning.proofs.LayoutLaws.{b_pos, mask_first}
use Rattle.meaning.proofs.FaithfulLaws.{source_same, delay_same}
use Rattle.meaning.proofs.AcceptanceLaws.{accepted_e}
use Rattle.meaning.proofs.Simulation.{Stands, timers_stand}
use Rattle.meaning.proofs.ServedLaws.{run_from, state_from, sheet_by, RunRightFrom, ServedFrom, served_from_power_on}
use Rattle.meaning.proofs.CompiledLaws.{compiled_accepted_from}

-- ---- a sheet

module _ (s : List ℕ) (sd : Sound s) where
  summed_after : (inputs : List ℕ) → Summed s (sheet_ticks s inputs power_on).state
  summed_after inputs =
      (ticks_keep (k_of s) (sheet_step s) (λ p. Right s p × Summed s p) keeps inputs power_on
      (right_fresh s power_on (unfold power_on in refl), summed_fresh s power_on (unfold power_on in refl))).1
    where
      keeps : (p : State) (i : ℕ) → tick_refusal (k_of s) (sheet_step s) p i ≡ 0 → Right s p × Summed s p
          → Right s (sheet_step s p i).state × Summed s (sheet_step s p i).state
      keeps p i e h = unfold sheet_step in (right_next s sd p i h.0 (tick_done (k_of s) (sheet_step s) p i e).1, summed_next s sd p i h.0 h.1)

pub sums_in_sheet_lem : SumsInSheet
unfolding SumsInSheet Summed
sums_in_sheet_lem s h inputs = summed_after s (sound s h) inputs

-- ---- an accepted table

module _ (s : List ℕ) (sd : Sound s) (w : List ℕ) (ok : T (table_ok w)) (f : T (faithful s w)) where
  -- a state that stands for one of the sheet's has its sums
  sums_stand : (q p : State) → Stands s sd w ok f q p → Summed s p → TableSums w q
  unfolding TableSums Summed
  sums_stand q p st h t r =
      let on = subst (λ (x : ℕ). T (has x t)) (timers_stand s sd w ok f q p st) r in
      let k = running_e s p.at t on in
      rw (st.readings, st.ages, source_same s w f sd t k.small k.timer, delay_same s w f sd t k.small k.timer) (h t on)

  module _ (cs : List Call) where
    abbrev run : ℕ → Run
    run = run_from s w power_on power_on cs

    abbrev got : ℕ → State
    got = state_from s w power_on power_on cs

    -- a run with no done tick returns the state it got, any other one that stands for the sheet's
    sums_run : (j : ℕ) (c : Call) → RunRightFrom s w power_on power_on cs j c → TableSums w (got j) → TableSums w (run j).state
    unfolding sheet_by
    sums_run j c r h = go (run j).done refl
      where
        go : (n : ℕ) → (run j).done ≡ n → TableSums w (run j).state
        go zero e = subst (TableSums w) (sym (r.none e)) h
        go (suc n) e =
            let pos : 0 < (run j).done = omega arith in
            sums_stand (run j).state (sheet_by s w power_on power_on cs j)
            (record { low = r.block pos; same = r.mask pos; readings = r.readings pos; ages = r.ages pos }) (summed_after s sd _)

    sums_got : ServedFrom s w power_on power_on cs → (j : ℕ) → j ≤ length cs → TableSums w (got j)
    unfolding state_from
    sums_got h zero l =
        sums_stand power_on power_on (unfold power_on in (record { low = b_pos w ok; same = mask_first w ok; readings = refl; ages = refl }))
        (summed_fresh s power_on (unfold power_on in refl))
    sums_got h (suc j) l = sums_run j _ (h.runs j l) (sums_got h j (omega arith))

pub sums_in_accepted_lem : SumsInAccepted
unfolding SumsInAccepted state_from run_from run_of
sums_in_accepted_lem s w a cs j l =
    let r = accepted_e s w a in
    let sd = sound s r.0 in
    sums_got s sd w r.1 r.2 cs (served_from_power_on s sd (keeps_consistent_lem s sd) w r.1 r.2 cs) (suc j) l

pub sums_in_compiled_lem : SumsInCompiled
unfolding SumsInCompiled SumsInAccepted CompiledAccepted
sums_in_compiled_lem s table work h = sums_in_accepted_lem s _ (compiled_accepted_from keeps_consistent_lem s table work h)
