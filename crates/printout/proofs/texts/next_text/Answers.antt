-- `printout::texts::next_text` meets its contract. Assumes nothing.
use Rattle.std.proofs.Common.{ap, ◌∙◌, arith}
use Rattle.decimals.specs.Reading.{begun}
use Rattle.printout.proofs.TextLaws.{read_few, read_words_lem}
use Rattle.printout.proofs.texts.next_text.Goals as goal

pub print_answer-requires : goal.print_answer-requires
print_answer-requires c = let few = read_few _ _ _ c.answer_read-answer.ensures in omega arith

pub returns : goal.returns
returns c = c.new.ensures _ ∙ ap begun (read_words_lem _ _ _ c.answer_read-answer.ensures)
