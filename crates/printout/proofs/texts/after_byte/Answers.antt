-- `printout::texts::after_byte` meets its contract: the byte ends the text, or is one of it. Assumes nothing.
use Rattle.std.proofs.Common.{sym, ◌∙◌}
use Rattle.printout.proofs.TextLaws.{ends_is, byte_ends, byte_read}
use Rattle.printout.proofs.texts.after_byte.Goals as goal

pub returns-then-eq : goal.returns-then-eq
returns-then-eq c = c.next_text.ensures ∙ byte_ends _ _ _ (sym (ends_is c.args.end c.args.byte) ∙ sym c.if-eq.ensures)

pub returns-else-eq : goal.returns-else-eq
returns-else-eq c = c.read_byte.ensures ∙ byte_read _ _ _ (sym (ends_is c.args.end c.args.byte) ∙ sym c.if-eq.ensures)
