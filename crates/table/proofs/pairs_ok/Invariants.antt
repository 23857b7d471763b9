-- `table::pairs_ok`: every block below b begins where the one before ends, and `end` is where block b must begin. Assumes nothing.
use Rattle.std.proofs.Common.{◌≡◌, true}
use Rattle.sets.specs.Sets.{every}
use Rattle.meaning.specs.Table.{end_before_in}
use Rattle.table.proofs.Places.{begins}
use Rattle.table.proofs.pairs_ok.Given as goal

abbrev pub invariant-loop-b : goal.invariant-loop-b
invariant-loop-b l = (l.end ≡ end_before_in l.table l.b) × (every l.b (begins l.table) ≡ true)
