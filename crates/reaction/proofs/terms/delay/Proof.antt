-- `reaction::terms::delay` meets its contract. Assumes nothing.

use Rattle.meaning.specs.Reaction.{delay}
use Rattle.sheet.proofs.Past.{first_read}
use Rattle.reaction.proofs.terms.delay.Statement.{statement}
use Rattle.reaction.proofs.terms.delay.Tie as tie

term-value-requires : tie.Need-term_value-requires
term-value-requires c κs = first_read c.args.sheet.now c.requires.0 c.args.t c.requires.1

returns : tie.Need-returns
unfolding delay
returns c = c.term_value.ensures

pub delay_spec : {M : Type 1} → statement M
delay_spec = tie.close (tie.spec term-value-requires returns)
