-- `printout::texts::answer_texts` is safe and ends: the last text is read into words of the right number. Assumes nothing.
use Rattle.printout.proofs.TextLaws.{after_fits}
use Rattle.printout.proofs.texts.answer_texts.Goals as goal

pub next_text-requires : goal.next_text-requires
next_text-requires c = after_fits _ _ c.last_text-reader.ensures
