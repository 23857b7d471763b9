-- `stations::turn::give_turns` meets its contract: by the batch law, as many turns as the station gets at once are one run on its own
-- sets. Assumes nothing.
use Rattle.std.proofs.Common.{arith, ap, ◌∙◌, ◌-◌}
use native.Mathlib.Nat.{le_of_lt}
use Rattle.rows.proofs.OverLaws.{lent_is}
use Rattle.stations.specs.Stations.{station_of}
use Rattle.stations.specs.Serving.{served_of}
use Rattle.stations.proofs.TurnLaws.{not_at_end, sets_end, words_end, lent_enough, done_within, done_left, given_by_run}
use Rattle.stations.proofs.turn.give_turns.Goals as goal

pub overflow_sub-s : goal.overflow_sub-s
overflow_sub-s c = let p = c.requires in le_of_lt (not_at_end _ _ _ _ _ _ p.0 p.1 p.2)

pub slice_bounds-run_noted-end-2 : goal.slice_bounds-run_noted-end-2
slice_bounds-run_noted-end-2 c =
    let p = c.requires in
    sets_end _ _ _ _ _ _ p.0 p.1 p.2 _ c.ticks_at_once-n.ensures

pub slice_bounds-run_noted-end-3 : goal.slice_bounds-run_noted-end-3
slice_bounds-run_noted-end-3 c =
    let p = c.requires in
    words_end _ _ _ _ _ _ p.0 p.1 p.2 _ c.ticks_at_once-n.ensures

pub run_noted-ran-requires : goal.run_noted-ran-requires
run_noted-ran-requires c =
    let p = c.requires in
    let room = p.0.room in (
      p.0.table,
      rw (lent_is c.args.work.now 256 (omega arith)) (p.0.serves p.1).2,
      lent_enough _ _ _ _ _ _ p.0 p.1 p.2 _ c.ticks_at_once-n.ensures,
    )

pub after_run-station-requires : goal.after_run-station-requires
after_run-station-requires c =
    let p = c.requires in
    let d =
    done_within _ _ _ _ _ _ p.0 p.1 p.2 _ c.ticks_at_once-n.ensures c.run_noted-ran.result _ c.run_noted-ran.ensures in
    omega (arith, d)

pub overflow_sub-left : goal.overflow_sub-left
overflow_sub-left c =
    let p = c.requires in
    done_left _ _ _ _ _ _ p.0 p.1 p.2 _ c.ticks_at_once-n.ensures c.run_noted-ran.result _ c.run_noted-ran.ensures

pub returns : goal.returns
returns c =
    let p = c.requires in
    given_by_run _ _ _ _ _ _ p.0 p.1 p.2 _ c.ticks_at_once-n.ensures c.run_noted-ran.result _ c.run_noted-ran.ensures
    _ _ (ap station_of c.after_run-station.ensures)
    (c.served-schedule.ensures
    ∙ ap (served_of c.args.c (c.args.c.left - c.run_noted-ran.result.done.0)) c.has_work.ensures)
