-- `reaction::tick::five_words` meets its contract. Assumes nothing.
use Rattle.meaning.specs.Tick.{five_words}
use Rattle.reaction.proofs.tick.five_words.Goals as goal

pub returns : goal.returns
unfolding five_words
returns c = rw (c.low-entered.ensures, c.high.ensures, c.low.ensures, c.high-2.ensures)
