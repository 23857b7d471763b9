-- `decimals::printer::put` meets its contract: a number has at most ten digits, and they are copied to the place. Assumes nothing.
use Rattle.std.proofs.Common.{◌≡◌, ◌<◌, ◌^◌, ◌∙◌, arith}
use Rattle.decimals.specs.Printing.{decimal_of}
use Rattle.decimals.proofs.Digits.{few_digits, decimal_is, decimal_length}
use Rattle.decimals.proofs.Lines.{put_over}
use Rattle.decimals.proofs.printer.put.Goals as goal

pub slice_bounds-copy_from_slice-end : goal.slice_bounds-copy_from_slice-end
slice_bounds-copy_from_slice-end c =
    let few = few_digits c.from.result c.decimal-count.result (omega arith) c.decimal-count.ensures.len.2 in
    omega arith

pub returns : goal.returns
returns c =
    let d = c.decimal-count in
    let n = c.from.result in
    let small : n < 2 ^ 32 = omega arith in
    let few = few_digits n d.result small d.ensures.len.2 in
    let long = decimal_length n d.result small d.ensures.len in
    let digits : c.copy_from_slice.new.self ≡ decimal_of n =
    c.copy_from_slice.ensures.after ∙ d.ensures.digits ∙ decimal_is n d.result small d.ensures.len in
    rw (digits, ← c.from.ensures)
    (put_over c.args.line.now (decimal_of n) c.args.at _ (omega (arith, long)), omega (arith, long), omega arith)
