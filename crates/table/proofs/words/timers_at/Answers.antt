-- `table::words::timers_at` meets its contract. Assumes nothing.
use Rattle.meaning.specs.Table.{word_in}
use Rattle.table.proofs.words.timers_at.Goals as goal

pub returns : goal.returns
unfolding word_in
returns c = c.join.ensures
