-- `sheet::pairs::pair_ok` meets its contract. Assumes nothing.
use Rattle.std.proofs.Common.{◌≡◌, refl, Bool, ◌&&◌}
use lib.Dec.{leb}
use borrow.Author.Tests.{eq-eqb, ne_eqb}
use Rattle.sets.proofs.Loops.{and_on, and_off}
use Rattle.meaning.specs.Check.{pair_ok}
use Rattle.sheet.proofs.SheetTestLaws.{pair_ok_is}
use Rattle.sheet.proofs.pairs.pair_ok.Goals as goal
use Rattle.sheet.proofs.pairs.pair_ok.Goals.{Joined-len-eq0, then-offset-end_before, else-offset-end_before, then-len-eq0, else-len-eq0}

-- the result r, once the last test is made
by_last : (c : Joined-len-eq0) (r : Bool) → r ≡ (c.if-len-eq0.value && leb c.record_length-len.result 34) → r ≡ pair_ok c.args.sheet.now c.args.t
by_last c r =
    pair_ok_is _ _ _ _ _ c.if-offset-end_before.value c.if-len-eq0.value r c.offset.ensures c.end_before.ensures c.record_length-len.ensures
    (elim c.if-offset-end_before.branch [
      | then-offset-end_before w ↦ and_on _ _ _ (eq-eqb _ _ w.if-offset-end_before.true) w.value-is
      | else-offset-end_before w ↦ and_off _ _ _ (ne_eqb _ _ w.if-offset-end_before.false) w.value-is
    ])
    (elim c.if-len-eq0.branch [
      | then-len-eq0 w ↦ and_on _ _ _ w.if-len-eq0.true w.value-is
      | else-len-eq0 w ↦ and_off _ _ _ w.if-len-eq0.false w.value-is
    ])

pub returns-then-len-ge4 : goal.returns-then-len-ge4
returns-then-len-ge4 c = by_last (goal.at.returns-then-len-ge4 c).Joined-len-eq0 _ (and_on _ _ _ c.if-len-ge4.true refl)

pub returns-else-len-ge4 : goal.returns-else-len-ge4
returns-else-len-ge4 c = by_last (goal.at.returns-else-len-ge4 c).Joined-len-eq0 _ (and_off _ _ _ c.if-len-ge4.false refl)
