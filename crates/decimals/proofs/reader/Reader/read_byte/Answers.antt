-- `decimals::reader::Reader::read_byte` meets its contract: a digit, a gap, or another byte. Assumes nothing.
use Rattle.std.proofs.Common.{sym, ◌∙◌, inl, inr, arith}
use mathlib.Core.Logic.{⊎_elim}
use Rattle.decimals.proofs.Steps.{digit_is, digit_not, gap_is, gap_not, byte_digit, byte_gap, byte_other}
use Rattle.decimals.proofs.reader.Reader.read_byte.Goals as goal

pub returns-then-is_ascii_digit : goal.returns-then-is_ascii_digit
returns-then-is_ascii_digit c =
    let here = c.if-is_ascii_digit.ensures.cases in
    c.read_digit.ensures _ ∙ sym (byte_digit _ _ (digit_is _ (omega (arith, here)) (omega (arith, here))))

pub returns-then-byte-eq32 : goal.returns-then-byte-eq32
returns-then-byte-eq32 c =
    let gap = gap_is c.args.byte (⊎_elim (λ h. inr h) (λ h. inl h.1) c.if-byte-eq32.either) in
    c.read_gap.ensures ∙ sym (byte_gap _ _ (digit_not _ c.if-is_ascii_digit.ensures.cases) gap)

pub returns-else-byte-eq32 : goal.returns-else-byte-eq32
returns-else-byte-eq32 c =
    c.refuse.ensures _ ∙ sym (byte_other _ _ (digit_not _ c.if-is_ascii_digit.ensures.cases) (gap_not _ (λ e. omega arith) (λ e. omega arith)))
