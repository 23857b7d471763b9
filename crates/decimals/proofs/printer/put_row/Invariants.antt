-- The loop of `decimals::printer::put_row`: the bytes that are put, and then the line of the numbers that are left, are the line; later
-- bytes stay. Assumes nothing.
use Rattle.std.proofs.Common.{◌≡◌, ◌++◌, ◌*◌, ◌≤◌, take, drop}
use Rattle.decimals.specs.Printing.{line_of}
use Rattle.decimals.proofs.Lines.{line_rest}
use Rattle.decimals.proofs.printer.put_row.Given as goal

abbrev pub invariant-loop-j : goal.invariant-loop-j
invariant-loop-j l =
    record {
      within : l.at ≤ 11 * l.j;
      front : take l.at l.line ++ line_rest (drop l.j l.row) ≡ line_of l.row;
      rest : drop l.at l.line ≡ drop l.at l.initial.line;
    }
