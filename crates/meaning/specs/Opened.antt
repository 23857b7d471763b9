-- The names that a proof by computing unfolds, in one place, file by file: whoever unfolds `opened` unfolds every definition of the
-- meaning. Assumes nothing.
use mathlib.Core.List.{flatten}
use Rattle.sets.specs.Sets.{digit, has, minus, union_of, set_of, those, members, size, lowest, last, some, every, some_in, every_in}
use Rattle.meaning.specs.Lists.{row_from, is_in, place, overwritten, all_of, first_of, refused_if, first_refusal}
use Rattle.meaning.specs.Sheet.{word, n_of, k_of, t_of, kind, parent, first, offset, record_length, end_before, source, target, term_count, term_kind, term_value, is_child, contains_in, contains, strictly_contains, meeting_from, meeting_of, meeting}
use Rattle.meaning.specs.Check.{head_ok, mode_ok, modes_ok, pair_ok, pairs_ok, end_ok, ends_ok, kind_ok, term_ok, terms_ok, shares_ends, distinct_ok, sheet_refusal}
use Rattle.meaning.specs.Hierarchy.{children, member_ok, consistent, brings, completed_in, complete, child_in, child_holding, exits, enters}
use Rattle.meaning.specs.GivesWay.{gives_way}
use Rattle.meaning.specs.Reaction.{is_delay, delay, is_timer, running, holds, in_first, alternatives_from, alternatives, all_hold, alternative, is_due, trigger, triggered, conflict, eligible, ambiguous, restless, exiting, entering, after_round}
use Rattle.meaning.specs.Within.{within, within_each, masks_of}
use Rattle.meaning.specs.Tick.{five_words, begin, chosen, rounds_from, tick}
use Rattle.meaning.specs.RoundList.{takes_round, round_list, tick_rounds}
use Rattle.meaning.specs.Alternatives.{numbers_short, fired_in, fired, tick_numbers}
use Rattle.meaning.specs.Ages.{age, no_ages, next_ages, ages_ok, sums_ok}
use Rattle.meaning.specs.Run.{reading, power_on, is_fresh, readings_ok, due_timers, next_readings, next_state, entered_in, exited_in, stops, tick_then, output_short, input_foreign, ran, tick_refusal, ticks, run}
use Rattle.meaning.specs.SheetRun.{timers_ok, state_ok, tick_from, state_after, sheet_step, numbers_from, sheet_numbers, with_numbers, sheet_run}
use Rattle.meaning.specs.Why.{refusal_of, reason_words, ahead_of, gave_way_in, round_in, reason, no_transition, why_refusal, why}
use Rattle.meaning.specs.Table.{word_in, k_in, t_in, b_in, source_in, delay_in, offset_in, length_in, end_before_in, mask_in, timers_in, cells_in, cell_word, timer_ok, block_ok, table_ok}
use Rattle.meaning.specs.TableRun.{due_number, table_timers_ok, table_state_ok, cell_of, state_after_cell, is_stale, table_step, table_run}
use Rattle.meaning.specs.Stations.{blank, has_work, some_work, next_set, turn_refusal, turn, turns_from, pass, passes, all_passes, wrong_number, shares, parts_fit, parts_apart, parts_ok, call_refused, serve_stations}
use Rattle.meaning.specs.Walk.{due_set, work_list_full, timers_many, cell_count, cell_tick, listing, cells_from, walk_from, walk}
use Rattle.meaning.specs.Idle.{taken_by_block, taken_by_blocks, idle, leaves_idle}
use Rattle.meaning.specs.Compile.{pairs_from, timer_word, cell_words, block_words, table_words, compile_refusal, compile}
use Rattle.meaning.specs.Milliseconds.{ticks_and_rests, results_short, ticks_out_of_range, milliseconds}
use Rattle.meaning.specs.Faithful.{cell_faithful, head_faithful, block_faithful, words_faithful, faithful}
use Rattle.meaning.specs.Acceptance.{accept_refusal}
use Rattle.meaning.specs.NamedEvents.{names}
use Rattle.meaning.specs.Timeouts.{left_within}

unfoldable in_sets : Unit {0}
unfolding digit has minus union_of set_of those members size lowest last some every some_in every_in
in_sets = tt

unfoldable in_lists : Unit {0}
unfolding flatten row_from is_in place overwritten all_of first_of refused_if first_refusal
in_lists = tt

unfoldable in_sheet : Unit {0}
unfolding word n_of k_of t_of kind parent first offset record_length end_before source target term_count term_kind term_value is_child contains_in contains strictly_contains meeting_from meeting_of meeting
in_sheet = tt

unfoldable in_check : Unit {0}
unfolding head_ok mode_ok modes_ok pair_ok pairs_ok end_ok ends_ok kind_ok term_ok terms_ok shares_ends distinct_ok sheet_refusal
in_check = tt

unfoldable in_hierarchy : Unit {0}
unfolding children member_ok consistent brings completed_in complete child_in child_holding exits enters
in_hierarchy = tt

unfoldable in_gives_way : Unit {0}
unfolding gives_way
in_gives_way = tt

unfoldable in_reaction : Unit {0}
unfolding is_delay delay is_timer running holds in_first alternatives_from alternatives all_hold alternative is_due trigger triggered conflict eligible ambiguous restless exiting entering after_round
in_reaction = tt

unfoldable in_within : Unit {0}
unfolding within within_each masks_of
in_within = tt

unfoldable in_tick : Unit {0}
unfolding five_words begin chosen rounds_from tick
in_tick = tt

unfoldable in_alternatives : Unit {0}
unfolding takes_round round_list tick_rounds numbers_short fired_in fired tick_numbers
in_alternatives = tt

unfoldable in_ages : Unit {0}
unfolding age no_ages next_ages ages_ok sums_ok
in_ages = tt

unfoldable in_run : Unit {0}
unfolding reading power_on is_fresh readings_ok due_timers next_readings next_state entered_in exited_in stops tick_then output_short input_foreign ran tick_refusal ticks run
in_run = tt

unfoldable in_sheet_run : Unit {0}
unfolding timers_ok state_ok tick_from state_after sheet_step numbers_from sheet_numbers with_numbers sheet_run
in_sheet_run = tt

unfoldable in_why : Unit {0}
unfolding refusal_of reason_words ahead_of gave_way_in round_in reason no_transition why_refusal why
in_why = tt

unfoldable in_table : Unit {0}
unfolding word_in k_in t_in b_in source_in delay_in offset_in length_in end_before_in mask_in timers_in cells_in cell_word timer_ok block_ok table_ok
in_table = tt

unfoldable in_table_run : Unit {0}
unfolding due_number table_timers_ok table_state_ok cell_of state_after_cell is_stale table_step table_run
in_table_run = tt

unfoldable in_stations : Unit {0}
unfolding blank has_work some_work next_set turn_refusal turn turns_from pass passes all_passes wrong_number shares parts_fit parts_apart parts_ok call_refused serve_stations
in_stations = tt

unfoldable in_walk : Unit {0}
unfolding due_set work_list_full timers_many cell_count cell_tick listing cells_from walk_from walk taken_by_block taken_by_blocks idle leaves_idle
in_walk = tt

unfoldable in_compile : Unit {0}
unfolding pairs_from timer_word cell_words block_words table_words compile_refusal compile
in_compile = tt

unfoldable in_milliseconds : Unit {0}
unfolding ticks_and_rests results_short ticks_out_of_range milliseconds
in_milliseconds = tt

unfoldable in_faithful : Unit {0}
unfolding cell_faithful head_faithful block_faithful words_faithful faithful accept_refusal
in_faithful = tt

unfoldable in_named_events : Unit {0}
unfolding names
in_named_events = tt

unfoldable in_timeouts : Unit {0}
unfolding left_within
in_timeouts = tt

unfoldable pub opened : Unit {0}
unfolding in_sets in_lists in_sheet in_check in_hierarchy in_gives_way in_reaction in_within in_tick in_alternatives in_ages in_run in_sheet_run in_why in_table in_table_run in_stations in_walk in_compile in_milliseconds in_faithful in_named_events in_timeouts
opened = tt
