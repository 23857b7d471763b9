-- `decimals::printer::put_row` meets its contract. Assumes nothing.
use Rattle.std.proofs.Common.{◌≡◌, ◌+◌, [], take, drop, refl, sym, ◌∙◌, arith}
use mathlib.Core.List.{append-nil}
use Rattle.decimals.specs.Printing.{line_of}
use Rattle.decimals.proofs.Lines.{line_rest, mark, rest_all, rest_none, mark_more, mark_last, row-turn, row_rest, line_put_lem}
use Rattle.decimals.proofs.printer.put_row.Goals as goal
use Rattle.decimals.proofs.printer.put_row.Goals.{then-j-row, else-j-row}

pub loop-j-init : goal.loop-j-init
loop-j-init c = record { within = omega arith; front = rest_all c.args.row.now c.requires.0; rest = refl }

pub loop-j-preserved : goal.loop-j-preserved
loop-j-preserved c =
    let p = c.put-at in
    let l = c.loop-j in
    let row = c.args.row.now in
    let byte : c.if-j-row.line ≡ mark (drop (l.j + 1) row) =
    elim c.if-j-row.branch [
      | then-j-row w ↦ w.line-is ∙ sym (mark_more row (l.j + 1) w.if-j-row.true)
      | else-j-row w ↦ w.line-is ∙ sym (mark_last row (l.j + 1) w.if-j-row.false)
    ] in
    let turn = row-turn l.line row l.at l.j p.result c.if-j-row.line (omega arith) p.ensures.1 (omega arith) byte in
    record {
      within = omega arith;
      front = rw p.ensures.0 (turn ∙ l.invariant.front);
      rest = rw p.ensures.0 (row_rest l.line _ l.at _ p.result c.if-j-row.line p.ensures.1 (omega arith) l.invariant.rest);
    }

pub returns : goal.returns
returns c =
    let l = c.loop-j in
    let row = c.args.row.now in
    let left : line_rest (drop l.j row) ≡ [] = rest_none row l.j (omega arith) in
    let bytes : take l.at l.line ≡ line_of row = sym (append-nil (take l.at l.line)) ∙ rw left at l.invariant.front in
    line_put_lem row _ l.line l.at (omega arith) bytes l.invariant.rest
