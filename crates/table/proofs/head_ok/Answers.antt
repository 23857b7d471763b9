-- `table::head_ok` meets its contract. Assumes nothing.
use Rattle.std.proofs.Common.{sym, arith}
use Rattle.sets.proofs.Tests.{is_false}
use Rattle.meaning.specs.Table.{word_in, k_in, t_in, b_in}
use Rattle.table.proofs.Places.{head_of, head_is}
use Rattle.table.proofs.head_ok.Goals as goal
use Rattle.table.proofs.head_ok.Goals.{then-table-lt4-via-then-table-lt4, then-table-lt4-via-else-table-lt4+then-table-ne1, then-table-gt6-via-then-table-gt6, then-table-gt6-via-else-table-gt6+then-table-gt64, then-table-gt6-via-else-table-gt6+else-table-gt64+then-table-lt1, then-table-gt6-via-else-table-gt6+else-table-gt64+else-table-lt1+then-table-gt4096}

pub returns-then-table-lt4 : goal.returns-then-table-lt4
unfolding word_in
returns-then-table-lt4 c =
    sym (is_false _ (λ h.
    let r = head_of _ h in
    elim c.then-table-lt4.branch [
      | then-table-lt4-via-then-table-lt4 w ↦ omega arith
      | then-table-lt4-via-else-table-lt4+then-table-ne1 w ↦ w.if-table-ne1.true r.one
    ]))

pub returns-then-table-gt6 : goal.returns-then-table-gt6
unfolding k_in t_in b_in word_in
returns-then-table-gt6 c =
    sym (is_false _ (λ h.
    let r = head_of _ h in
    elim c.then-table-gt6.branch [
      | then-table-gt6-via-then-table-gt6 w ↦ omega arith
      | then-table-gt6-via-else-table-gt6+then-table-gt64 w ↦ omega arith
      | then-table-gt6-via-else-table-gt6+else-table-gt64+then-table-lt1 w ↦ omega arith
      | then-table-gt6-via-else-table-gt6+else-table-gt64+else-table-lt1+then-table-gt4096 w ↦ omega arith
    ]))

pub returns : goal.returns
unfolding k_in t_in b_in word_in
returns c = sym (head_is _ (omega arith) c.if-table-ne1.false (omega arith) (omega arith) (omega arith) (omega arith))
