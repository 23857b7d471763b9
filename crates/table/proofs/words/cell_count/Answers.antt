-- `table::words::cell_count` meets its contract. Assumes nothing.
use Rattle.std.proofs.Common.{rules}
use Rattle.sets.proofs.Membership.{shl_shl}
use Rattle.table.proofs.words.cell_count.Goals as goal

pub returns : goal.returns
returns c = shl_shl 64 c.args.a c.args.k (search rules)
