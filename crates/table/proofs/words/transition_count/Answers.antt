-- `table::words::transition_count` meets its contract. Assumes nothing.
use Rattle.std.proofs.Common.{arith, refl}
use Rattle.meaning.specs.Table.{word_in, t_in}
use Rattle.table.proofs.Places.{head_of}
use Rattle.table.proofs.words.transition_count.Goals as goal

pub bounds-table-2 : goal.bounds-table-2
bounds-table-2 c = omega (arith, head_of _ c.requires)

pub returns : goal.returns
unfolding t_in word_in
returns c = refl
