-- `printout::texts::after_part` meets its contract. Assumes nothing.
use Rattle.std.proofs.Common.{◌+◌, drop, get_or, sym, ap, ◌∙◌, arith}
use Rattle.decimals.specs.Reading.{Reading, reading_of}
use Rattle.decimals.specs.Request.{most_numbers}
use Rattle.printout.specs.Texts.{after_part}
use Rattle.printout.proofs.TextLaws.{fits_after, part_turn, part_end}
use Rattle.printout.proofs.texts.after_part.Goals as goal

pub loop-byte-preserved : goal.loop-byte-preserved
loop-byte-preserved c =
    let l = c.loop-byte in
    let a = c.args in
    let i = l.byte-index in
    let x = reading_of l.reader l.numbers in
    let byte = get_or a.part.now i 0 in
    let e = c.after_byte.ensures in
    record {
      fits = rw e (fits_after a.end x byte most_numbers l.invariant.fits);
      left = ap (λ (r : Reading). after_part a.end r (drop (i + 1) a.part.now)) e ∙ part_turn a.end x a.part.now i (omega arith) ∙ l.invariant.left;
    }

pub returns : goal.returns
returns c =
    let l = c.loop-byte in
    sym (part_end c.args.end _ c.args.part.now l.byte-index (omega arith)) ∙ l.invariant.left
