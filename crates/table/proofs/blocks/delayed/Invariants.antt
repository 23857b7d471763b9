-- `table::blocks::delayed`: the transitions with a delay among those passed are found. Assumes nothing.
use Rattle.std.proofs.Common.{◌≡◌}
use lib.Dec.{ltb}
use Rattle.sets.specs.Sets.{set_of}
use Rattle.meaning.specs.Table.{delay_in}
use Rattle.table.proofs.blocks.delayed.Given as goal

abbrev pub invariant-loop-t : goal.invariant-loop-t
invariant-loop-t l = l.r ≡ set_of l.t (λ i. ltb 0 (delay_in l.table i))
