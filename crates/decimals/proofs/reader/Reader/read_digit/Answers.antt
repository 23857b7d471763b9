-- `decimals::reader::Reader::read_digit` meets its contract: the number with the digit is below 2^32, or it refuses. Assumes nothing.
use Rattle.std.proofs.Common.{◌≡◌, ◌<◌, ◌≤◌, ◌^◌, sym, ◌∙◌, arith}
use Rattle.decimals.specs.Numbers.{longer}
use Rattle.decimals.specs.Reading.{reading_of}
use Rattle.decimals.proofs.Steps.{made, digit_fits, digit_large}
use Rattle.decimals.proofs.reader.Reader.read_digit.Goals as goal

pub returns-in-Ok : goal.returns-in-Ok
unfolding longer
returns-in-Ok c = λ words.
    let x = reading_of c.args.self.now words in
    let value : c.in-Ok.value ≡ made x c.args.byte = omega (arith, c.in-Ok.ensures) in
    let small : made x c.args.byte < 2 ^ 32 = omega (arith, c.in-Ok.ensures) in
    rw value (sym (digit_fits x c.args.byte small))

pub returns-in-Err : goal.returns-in-Err
unfolding longer
returns-in-Err c = λ words.
    let x = reading_of c.args.self.now words in
    let large : 2 ^ 32 ≤ made x c.args.byte = omega (arith, c.in-Err.ensures) in
    c.refuse.ensures words ∙ sym (digit_large x c.args.byte large)
