-- `reaction::terms::is_timer` meets its contract. Assumes nothing.
use mathlib.Core.Path.{ap}
use borrow.Author.Rules.{rules}
use lib.Dec.{ltb}
use Rattle.meaning.specs.Reaction.{is_timer}
use Rattle.reaction.proofs.terms.is_timer.Statement.{statement}
use Rattle.reaction.proofs.terms.is_timer.Tie as tie

is-delay-requires : tie.Need-is_delay-requires
is-delay-requires c κs = search rules

delay-requires : tie.Need-delay-requires
delay-requires c κs = search rules

returns : tie.Need-returns-then-is_delay
unfolding is_timer
returns c = rw (← c.is_delay.ensures, c.if-is_delay.true) (ap (ltb 0) c.delay.ensures)

returns-2 : tie.Need-returns-else-is_delay
unfolding is_timer
returns-2 c = rw (← c.is_delay.ensures, c.if-is_delay.false)

pub is_timer_spec : {M : Type 1} → statement M
is_timer_spec = tie.close (tie.spec is-delay-requires delay-requires returns returns-2)
