-- `sets::transitions::low` meets its contract: the 32 low bits are the remainder, which fits a u32. Assumes nothing.
use lib.Bits.{and_mask, mask_lt}
use Rattle.sets.proofs.transitions.low.Statement.{statement}
use Rattle.sets.proofs.transitions.low.Tie as tie

cast-result : tie.Need-overflow_cast-result
cast-result c = record { fits = mask_lt c.args.set 32 }

returns : tie.Need-returns
returns c = and_mask c.args.set 32

pub low_spec : {M : Type 1} → statement M
low_spec = tie.close (tie.spec cast-result returns)
