-- `table::blocks::cells_ok`: the flag says whether every cell below c has a next block from 1 to B - 1. Assumes nothing.
use Rattle.std.proofs.Common.{◌≡◌}
use Rattle.sets.specs.Sets.{every}
use Rattle.table.specs.Parts.{next_ok}
use Rattle.table.proofs.blocks.cells_ok.Given as goal

abbrev pub invariant-loop-c : goal.invariant-loop-c
invariant-loop-c l = l.ok ≡ every l.c (next_ok l.cells l.blocks)
