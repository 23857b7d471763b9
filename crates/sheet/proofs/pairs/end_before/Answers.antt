-- `sheet::pairs::end_before` meets its contract. Assumes nothing.
use Rattle.std.proofs.Common.{◌+◌, ◌*◌, ◌-◌, sym, ap, ◌∙◌, arith}
use Rattle.meaning.specs.Sheet.{n_of, word, offset, record_length, end_before}
use Rattle.sheet.proofs.SheetTestLaws.{end_after}
use Rattle.sheet.proofs.pairs.end_before.Goals as goal

pub returns-then-t-eq0 : goal.returns-then-t-eq0
unfolding end_before
returns-then-t-eq0 c = c.records_start.ensures ∙ ap (end_before _) (sym c.if-t-eq0.true)

pub overflow_add-result : goal.overflow_add-result
unfolding offset record_length word
overflow_add-result c =
    let n = n_of c.args.sheet.now in
    omega (arith, c.type_inv.sheet (3 + 3 * n + 2 * (c.args.t - 1)), c.type_inv.sheet (4 + 3 * n + 2 * (c.args.t - 1)))

pub returns : goal.returns
returns c = rw (c.offset.ensures, c.record_length.ensures) (sym (end_after _ _ c.if-t-eq0.false))
