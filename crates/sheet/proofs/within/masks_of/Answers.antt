-- `sheet::within::masks_of` meets its contract: no masks where the sheet is refused. Assumes nothing.
use Rattle.std.proofs.Common.{sym, refl}
use Rattle.std.proofs.lemmas.Result.{err_from_is_err_and}
use Rattle.meaning.proofs.RefusalLaws.{number_not_0}
use Rattle.meaning.proofs.WithinLaws.{masks_refused, masks_given}
use Rattle.sheet.proofs.Past.{tree_read}
use Rattle.sheet.proofs.within.masks_of.Goals as goal

pub returns-in_err-check : goal.returns-in_err-check
returns-in_err-check c =
    let p = err_from_is_err_and c.from_residual.result c.from_residual.ensures.1 in
    rw (p.1, p.2) (masks_refused _ _ c.in_err-check.ensures (number_not_0 _))

pub within_each-requires : goal.within_each-requires
within_each-requires c = tree_read _ (sym c.in_ok-check.ensures)

pub returns : goal.returns
returns c = masks_given _ _ _ c.in_ok-check.ensures refl c.within_each.ensures
