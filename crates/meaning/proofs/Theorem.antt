-- The whole-list theorem, and all that is promised besides. Assumes nothing.
use Rattle.meaning.specs.WholeList.{WholeList}
use Rattle.meaning.specs.Acceptance.{AcceptedServes, CompiledAccepted}
use Rattle.meaning.specs.Timeouts.{AcceptedKeepsTimeouts, CompiledKeepsTimeouts}
use Rattle.meaning.specs.Promises.{Promised}
use Rattle.meaning.proofs.Consistency.{keeps_consistent_lem, keeps}
use Rattle.meaning.proofs.TickLaws.{tick_rounds_lem, rounds_enough_lem}
use Rattle.meaning.proofs.SheetTicksLaws.{run_rounds_lem}
use Rattle.meaning.proofs.Fuel.{containment_enough_lem, meeting_enough_lem, completion_enough_lem, child_enough_lem}
use Rattle.meaning.proofs.WalkFuel.{walk_enough_lem}
use Rattle.meaning.proofs.TickInWordsLaws.{in_words_lem}
use Rattle.meaning.proofs.AnyOrder.{any_order_lem}
use Rattle.meaning.proofs.StayTriggered.{stay_triggered_lem}
use Rattle.meaning.proofs.AcceptanceLaws.{accepted_e}
use Rattle.meaning.proofs.ServedLaws.{served_from_power_on}
use Rattle.meaning.proofs.WholeListLaws.{served_each}
use Rattle.meaning.proofs.StateLaws.{sheet_state_stays_lem, table_state_stays_lem, sheet_runs_on_lem, table_runs_on_lem, accepted_not_stale_lem}
use Rattle.meaning.proofs.MasksFixTable.{masks_fix_table_lem}
use Rattle.meaning.proofs.HighestLevel.{highest_level_first_lem}
use Rattle.meaning.proofs.NamedLaws.{named_events_lem}
use Rattle.meaning.proofs.WithinLaws.{mask_exact_lem, mask_no_other_lem, conflict_by_mask_lem, gives_way_by_mask_lem}
use Rattle.meaning.proofs.MillisecondsLaws.{whole-delay, rest_below_lem, ticks_fit_lem}
use Rattle.meaning.proofs.NoIdleArrows.{idle_refused_lem, refused_idle_lem, idle_leaves_lem, every_arrow_taken_lem}
use Rattle.meaning.proofs.RoundListLaws.{rounds_listed_lem}
use Rattle.meaning.proofs.AlternativeLaws.{fired_taken_lem, fired_range_lem}
use Rattle.meaning.proofs.NumberLaws.{numbers_taken_lem}
use Rattle.meaning.proofs.ReasonLaws.{reason_holds_lem, reason_only_lem}
use Rattle.meaning.proofs.WhyLaws.{same_refusal_lem, same_tick_lem}
use Rattle.meaning.proofs.AgeLaws.{age-stays}
use Rattle.meaning.proofs.AgeSince.{age_since_lem}
use Rattle.meaning.proofs.AgeSums.{sums_in_sheet_lem, sums_in_accepted_lem, sums_in_compiled_lem}
use Rattle.meaning.proofs.AgesApart.{ages_apart_in_sheet_lem, ages_apart_in_table_lem, ages_apart_in_why_lem}
use Rattle.meaning.proofs.TimeoutRuns.{sheet_keeps_timeouts_lem, runs_keep_timeouts}
use Rattle.meaning.proofs.SheetLaws.{sound}
use Rattle.meaning.proofs.CompiledLaws.{compiled_accepted_from}

-- an accepted table serves any list of calls from power-on as its sheet does
pub accepted_serves_lem : AcceptedServes
unfolding AcceptedServes
accepted_serves_lem s w a cs =
    let r = accepted_e s w a in
    let sd = sound s r.0 in
    served_each s w cs (served_from_power_on s sd (keeps_consistent_lem s sd) w r.1 r.2 cs)

-- a table that compile made is accepted for its sheet
pub compiled_accepted_lem : CompiledAccepted
compiled_accepted_lem = compiled_accepted_from keeps_consistent_lem

-- So a table that compile made runs, from power-on and over any list of calls, as its sheet does. The statement is about the definitions
-- `compile` and `table_run`; the crate `whole_list` has it of the operations that are proved equal to these two.
pub whole_list_lem : WholeList
unfolding WholeList AcceptedServes CompiledAccepted
whole_list_lem s table work h cs = accepted_serves_lem s _ (compiled_accepted_lem s table work h) cs

-- nobody overstays in them
accepted_keeps_timeouts_lem : AcceptedKeepsTimeouts
unfolding AcceptedKeepsTimeouts AcceptedServes
accepted_keeps_timeouts_lem s w a cs = runs_keep_timeouts s w a cs _ (accepted_serves_lem s w a cs)

compiled_keeps_timeouts_lem : CompiledKeepsTimeouts
unfolding CompiledKeepsTimeouts AcceptedKeepsTimeouts CompiledAccepted
compiled_keeps_timeouts_lem s table work h = accepted_keeps_timeouts_lem s _ (compiled_accepted_lem s table work h)

pub promised : Promised
promised =
    record {
      keeps_consistent = keeps;
      tick_rounds = tick_rounds_lem;
      run_rounds = run_rounds_lem;
      rounds_enough = rounds_enough_lem;
      walk_enough = walk_enough_lem;
      containment_enough = containment_enough_lem;
      meeting_enough = meeting_enough_lem;
      completion_enough = completion_enough_lem;
      child_enough = child_enough_lem;
      in_words = in_words_lem;
      any_order = any_order_lem;
      stay_triggered = stay_triggered_lem;
      sheet_state_stays = sheet_state_stays_lem;
      table_state_stays = table_state_stays_lem;
      sheet_runs_on = sheet_runs_on_lem;
      table_runs_on = table_runs_on_lem;
      accepted_not_stale = accepted_not_stale_lem;
      compiled_accepted = compiled_accepted_lem;
      accepted_serves = accepted_serves_lem;
      masks_fix_table = masks_fix_table_lem;
      highest_level_first = highest_level_first_lem;
      named_events = named_events_lem;
      mask_exact = mask_exact_lem;
      mask_no_other = mask_no_other_lem;
      conflict_by_mask = conflict_by_mask_lem;
      gives_way_by_mask = gives_way_by_mask_lem;
      whole_delay = whole-delay;
      rest_below = rest_below_lem;
      ticks_fit = ticks_fit_lem;
      idle_refused = idle_refused_lem;
      refused_idle = refused_idle_lem;
      idle_leaves = idle_leaves_lem;
      every_arrow_taken = every_arrow_taken_lem;
      rounds_listed = rounds_listed_lem;
      fired_taken = fired_taken_lem;
      fired_range = fired_range_lem;
      numbers_taken = numbers_taken_lem;
      reason_holds = reason_holds_lem;
      reason_only = reason_only_lem;
      same_refusal = same_refusal_lem;
      same_tick = same_tick_lem;
      age_since = age_since_lem;
      age_stays = age-stays;
      sums_in_sheet = sums_in_sheet_lem;
      sums_in_accepted = sums_in_accepted_lem;
      sums_in_compiled = sums_in_compiled_lem;
      ages_apart_in_sheet = ages_apart_in_sheet_lem;
      ages_apart_in_table = ages_apart_in_table_lem;
      ages_apart_in_why = ages_apart_in_why_lem;
      sheet_keeps_timeouts = sheet_keeps_timeouts_lem;
      accepted_keeps_timeouts = accepted_keeps_timeouts_lem;
      compiled_keeps_timeouts = compiled_keeps_timeouts_lem;
    }
