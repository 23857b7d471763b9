-- `printout::texts::answer_read` meets its contract: the numbers counted lie within the words. Assumes nothing.
use Rattle.std.proofs.Common.{sym, arith}
use lib.Seq.{length-take-le}
use Rattle.decimals.specs.Reading.{Fits, reading_of}
use Rattle.decimals.specs.Request.{most_numbers}
use Rattle.decimals.proofs.Counts.{fits_gap}
use Rattle.printout.proofs.TextLaws.{text_answered}
use Rattle.printout.proofs.texts.answer_read.Goals as goal

pub slice_bounds-answer_to-end : goal.slice_bounds-answer_to-end
slice_bounds-answer_to-end c =
    let g = c.read_gap in
    let f : Fits most_numbers (reading_of g.new.self g.new.words) = rw g.ensures (fits_gap most_numbers _ c.requires) in
    omega arith

pub slice_bounds-answer_to-end-2 : goal.slice_bounds-answer_to-end-2
slice_bounds-answer_to-end-2 c =
    let g = c.read_gap in
    let f : Fits most_numbers (reading_of g.new.self g.new.words) = rw g.ensures (fits_gap most_numbers _ c.requires) in
    sym (length-take-le _ _ (omega arith))

pub returns : goal.returns
returns c =
    let g = c.read_gap in
    text_answered _ _ (reading_of g.new.self g.new.words) (record { answer = c.answer_to.result; out = c.answer_to.new.out }) g.ensures c.answer_to.ensures
