-- All that is promised of the answers to texts. Assumes nothing.
use Rattle.printout.specs.Promises.{Promised}
use Rattle.printout.proofs.AnswerLaws.{output_enough_lem}
use Rattle.printout.proofs.TextLaws.{input_parts_lem, answers_text_lem}

pub promised : Promised
promised = record { input_parts = input_parts_lem; answers_text = answers_text_lem; output_enough = output_enough_lem }
