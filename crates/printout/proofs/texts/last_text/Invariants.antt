-- The loop of `printout::texts::last_text`: what is read is after the input that was got. Assumes nothing.
use Rattle.decimals.specs.Reading.{reading_of}
use Rattle.printout.specs.Texts.{AfterInput}
use Rattle.printout.proofs.texts.last_text.Given as goal

abbrev pub invariant-loop : goal.invariant-loop
invariant-loop l = AfterInput l.end (reading_of l.reader l.numbers)
