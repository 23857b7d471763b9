-- The loop of `printout::texts::after_part`: the bytes that are left, read from here, give what all give from the start. Assumes nothing.
use Rattle.std.proofs.Common.{◌≡◌, drop}
use Rattle.decimals.specs.Reading.{Fits, reading_of}
use Rattle.decimals.specs.Request.{most_numbers}
use Rattle.printout.specs.Texts.{after_part}
use Rattle.printout.proofs.texts.after_part.Given as goal

abbrev pub invariant-loop-byte : goal.invariant-loop-byte
invariant-loop-byte l =
    record {
      fits : Fits most_numbers (reading_of l.reader l.numbers);
      left : after_part l.end (reading_of l.reader l.numbers) (drop l.byte-index l.part) ≡ after_part l.end (reading_of l.initial.reader l.initial.numbers) l.part;
    }
