-- `table::words::block_count` meets its contract. Assumes nothing.
use Rattle.std.proofs.Common.{arith, refl}
use Rattle.meaning.specs.Table.{word_in, b_in}
use Rattle.table.proofs.Places.{head_of}
use Rattle.table.proofs.words.block_count.Goals as goal

pub bounds-table-3 : goal.bounds-table-3
bounds-table-3 c = omega (arith, head_of _ c.requires)

pub returns : goal.returns
unfolding b_in word_in
returns c = refl
