-- `table::words::event_count` meets its contract. Assumes nothing.
use Rattle.std.proofs.Common.{arith, refl}
use Rattle.meaning.specs.Table.{word_in, k_in}
use Rattle.table.proofs.Places.{head_of}
use Rattle.table.proofs.words.event_count.Goals as goal

pub bounds-table-1 : goal.bounds-table-1
bounds-table-1 c = omega (arith, head_of _ c.requires)

pub returns : goal.returns
unfolding k_in word_in
returns c = refl
