-- `recorder::notes::run_noted` meets its contract: each way out is a case of `table_run`, where 15 and 12 are not met. Assumes nothing.
use Rattle.std.proofs.Common.{◌≡◌, ◌<◌, List, ℕ, true, length, take, sym, ◌∙◌, arith, rules}
use Rattle.sets.proofs.Tests.{of_true}
use lib.Seq.{length-take-le}
use Rattle.meaning.specs.Table.{table_ok}
use Rattle.meaning.specs.TableRun.{table_run}
use Rattle.run.proofs.LoopLaws.{output_room_lem, stopped_state, goes_on_lem}
use Rattle.recorder.specs.Timers.{Noted}
use Rattle.recorder.proofs.NoteLaws.{noted_long, delays_noted, from_noted, sources_noted, sources_small, blocks_noted}
use Rattle.recorder.proofs.TableStateLaws.{no_refusal}
use Rattle.recorder.proofs.notes.run_noted.Goals as goal

-- the notes have more than 97 words
long : {w notes : List ℕ} → table_ok w ≡ true → Noted w notes → 97 < length notes
long h n = noted_long (of_true h) n

first : {w notes : List ℕ} → table_ok w ≡ true → Noted w notes → length (take 64 notes) ≡ 64
first {notes = notes} h n = length-take-le 64 notes (omega (arith, long h n))

pub slice_bounds-copy_from_slice-end-2 : goal.slice_bounds-copy_from_slice-end-2
slice_bounds-copy_from_slice-end-2 c = omega (arith, first c.requires.0 c.requires.1)

pub copy_from_slice-requires : goal.copy_from_slice-requires
copy_from_slice-requires c = sym (first c.requires.0 c.requires.1)

pub state_ok-requires : goal.state_ok-requires
state_ok-requires c = (c.requires.0, c.copy_from_slice.ensures.after ∙ delays_noted (of_true c.requires.0) c.requires.1)

pub returns-then-not-state_ok : goal.returns-then-not-state_ok
unfolding table_run
returns-then-not-state_ok c =
    c.stops.ensures _ ∙ stopped_state _ _ _ _ _ _ _ _ (no_refusal _ c.requires.0) (sym c.state_ok.ensures ∙ c.if-not-state_ok.true)

pub slice_bounds-copy_from_slice-end-4 : goal.slice_bounds-copy_from_slice-end-4
slice_bounds-copy_from_slice-end-4 c = omega (arith, long c.requires.0 c.requires.1)

pub bounds-notes-96 : goal.bounds-notes-96
bounds-notes-96 c = omega (arith, long c.requires.0 c.requires.1)

pub overflow_cast-timed : goal.overflow_cast-timed
overflow_cast-timed c = let q = sources_small (of_true c.requires.0) c.requires.1 in search rules

pub slice_bounds-ticks_with-count : goal.slice_bounds-ticks_with-count
slice_bounds-ticks_with-count c = omega (arith, long c.requires.0 c.requires.1)

pub slice_bounds-ticks_with-start : goal.slice_bounds-ticks_with-start
slice_bounds-ticks_with-start c = omega (arith, long c.requires.0 c.requires.1)

pub ticks_with-requires : goal.ticks_with-requires
ticks_with-requires c =
    let h = of_true c.requires.0 in
    let n = c.requires.1 in
    let from = c.copy_from_slice-2.ensures.after ∙ from_noted h n in (
      c.requires.0,
      blocks_noted h n,
      c.copy_from_slice.ensures.after ∙ delays_noted h n,
      from,
      sources_noted h n from,
      sym c.state_ok.ensures ∙ c.if-not-state_ok.false,
      c.requires.2,
    )

pub returns : goal.returns
unfolding table_run
returns c =
    c.ticks_with.ensures
    ∙ goes_on_lem _ _ _ _ _ _ _ _ (no_refusal _ c.requires.0) (sym c.state_ok.ensures ∙ c.if-not-state_ok.false) (output_room_lem _ _ c.requires.2)
