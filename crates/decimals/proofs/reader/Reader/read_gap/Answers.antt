-- `decimals::reader::Reader::read_gap` meets its contract: nothing is pending, the number is put, or the words are full. Assumes nothing.
use Rattle.std.proofs.Common.{sym, ◌∙◌, add-one}
use Rattle.decimals.proofs.Steps.{gap_none, gap_put, gap_full}
use Rattle.decimals.proofs.reader.Reader.read_gap.Goals as goal

pub returns-in_default : goal.returns-in_default
returns-in_default c = sym (gap_none _ c.in_default.is)

pub returns-then-self-words : goal.returns-then-self-words
returns-then-self-words c = rw add-one (sym (gap_put _ _ c.in-Some.is c.if-self-words.true))

pub returns-else-self-words : goal.returns-else-self-words
returns-else-self-words c = c.refuse.ensures _ ∙ sym (gap_full _ _ c.in-Some.is c.if-self-words.false)
