-- `recorder::notes::put_notes` meets its contract: each part is put after the one before it. Assumes nothing.
use Rattle.std.proofs.Common.{◌++◌, List, ℕ, length, drop, ap, sym, ◌∙◌, arith}
use lib.Seq.{length-take-le}
use borrow.Rule.Slice.PartMut.{put_mid}
use Rattle.meaning.proofs.ListLaws.{row_from-length}
use Rattle.run.proofs.StateWords.{put_over, put_front}
use Rattle.recorder.proofs.NoteLaws.{notes_put}
use Rattle.recorder.proofs.notes.put_notes.Goals as goal

pub slice_bounds-copy_from_slice-end-2 : goal.slice_bounds-copy_from_slice-end-2
slice_bounds-copy_from_slice-end-2 c = let e = length-take-le 64 c.args.notes.now (omega (arith, c.requires.1)) in omega arith

pub copy_from_slice-requires : goal.copy_from_slice-requires
copy_from_slice-requires c = length-take-le 64 c.args.notes.now (omega (arith, c.requires.1)) ∙ sym (ap length c.delays-delays.ensures ∙ row_from-length _ 0 64)

pub returns : goal.returns
returns c =
    let d = c.delays-delays in
    let f = c.timers_from-from in
    notes_put c.args.table.now c.args.notes.now (omega (arith, c.requires.1)) d.ensures f.ensures
    (ap (λ (l : List ℕ). l ++ drop 64 c.args.notes.now) c.copy_from_slice.ensures.after ∙ put_front c.args.notes.now d.result 64 (ap length d.ensures ∙ row_from-length _ 0 64))
    (ap (put_mid 64 32 _) c.copy_from_slice-2.ensures.after ∙ put_over _ 64 f.result 32 (ap length f.ensures ∙ row_from-length _ 0 32))
    (c.from.ensures ∙ c.sources.ensures) c.put_block_timers.new.timers c.put_block_timers.ensures
