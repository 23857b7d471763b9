-- `sheet::ends::end_ok` meets its contract. Assumes nothing.
use Rattle.std.proofs.Common.{sym, ap, ◌∙◌, not, arith}
use borrow.Author.Tests.{le-ltb}
use Rattle.meaning.specs.Check.{end_ok}
use Rattle.meaning.proofs.ListLaws.{all_of_fails}
use Rattle.sheet.proofs.SheetTestLaws.{end_ok_is}
use Rattle.sheet.proofs.ends.end_ok.Goals as goal
use Rattle.sheet.proofs.ends.end_ok.Goals.{then-n-a-via-then-n-a, then-n-a-via-else-n-a+then-n-b, then-contains-via-then-contains, then-contains-via-else-contains+then-contains-2}

pub returns-then-n-a : goal.returns-then-n-a
unfolding end_ok
returns-then-n-a c =
    let n = c.mode_count-n.ensures in
    elim c.then-n-a.branch [
      | then-n-a-via-then-n-a w ↦ sym (all_of_fails _ 0 (le-ltb _ _ (rw (n, c.source-a.ensures) at w.if-n-a.true)))
      | then-n-a-via-else-n-a+then-n-b w ↦ sym (all_of_fails _ 1 (le-ltb _ _ (rw (n, c.target-b.ensures) at w.if-n-b.true)))
    ]

pub returns-then-contains : goal.returns-then-contains
unfolding end_ok
returns-then-contains c =
    let a = c.source-a.ensures in
    let b = c.target-b.ensures in
    elim c.then-contains.branch [
      | then-contains-via-then-contains w ↦ sym (all_of_fails _ 2 (ap not (sym (rw (a, b) at c.contains.ensures) ∙ w.if-contains.true)))
      | then-contains-via-else-contains+then-contains-2 w ↦ sym (all_of_fails _ 3 (ap not (sym (rw (a, b) at w.contains-else-contains.ensures) ∙ w.if-contains-2.true)))
    ]

pub returns : goal.returns
returns c = rw (end_ok_is c.args.sheet.now c.args.t (omega arith) (omega arith) (cc) (cc)) (rw c.meeting.ensures.0 at c.is_serial.ensures)
