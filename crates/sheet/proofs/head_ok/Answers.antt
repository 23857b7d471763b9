-- `sheet::head_ok` meets its contract. Assumes nothing.
use Rattle.std.proofs.Common.{sym, arith}
use borrow.Author.Tests.{lt-leb}
use Rattle.meaning.specs.Sheet.{word, n_of, k_of, t_of}
use Rattle.meaning.specs.Check.{head_ok}
use Rattle.meaning.proofs.ListLaws.{all_of_fails}
use Rattle.sheet.proofs.SheetTestLaws.{head_ok_is}
use Rattle.sheet.proofs.head_ok.Goals as goal
use Rattle.sheet.proofs.head_ok.Goals.{then-n-lt1-via-then-n-lt1, then-n-lt1-via-else-n-lt1+then-n-gt32, then-n-lt1-via-else-n-lt1+else-n-gt32+then-k-gt6, then-n-lt1-via-else-n-lt1+else-n-gt32+else-k-gt6+then-t-gt64}

pub returns-then-sheet-lt3 : goal.returns-then-sheet-lt3
unfolding head_ok
returns-then-sheet-lt3 c = sym (all_of_fails _ 0 (lt-leb 3 _ c.if-sheet-lt3.true))

pub returns-then-n-lt1 : goal.returns-then-n-lt1
unfolding head_ok n_of k_of t_of word
returns-then-n-lt1 c =
    let s = c.args.sheet.now in
    let n = c.wide-n.ensures in
    let t = c.wide-t.ensures in
    elim c.then-n-lt1.branch [
      | then-n-lt1-via-then-n-lt1 w ↦ sym (all_of_fails _ 1 (lt-leb 1 (n_of s) (rw n at w.if-n-lt1.true)))
      | then-n-lt1-via-else-n-lt1+then-n-gt32 w ↦ sym (all_of_fails _ 2 (lt-leb (n_of s) 32 (rw n at w.if-n-gt32.true)))
      | then-n-lt1-via-else-n-lt1+else-n-gt32+then-k-gt6 w ↦ sym (all_of_fails _ 3 (lt-leb (k_of s) 6 w.if-k-gt6.true))
      | then-n-lt1-via-else-n-lt1+else-n-gt32+else-k-gt6+then-t-gt64 w ↦ sym (all_of_fails _ 4 (lt-leb (t_of s) 64 (rw t at w.if-t-gt64.true)))
    ]

pub returns : goal.returns
unfolding n_of k_of t_of word
returns c = rw (head_ok_is c.args.sheet.now (omega arith) (omega arith) (omega arith) (omega arith) (omega arith), c.wide-n.ensures, c.wide-t.ensures)
