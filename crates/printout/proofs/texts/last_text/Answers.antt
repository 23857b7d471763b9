-- `printout::texts::last_text` meets its contract. Assumes nothing.
use Rattle.printout.proofs.TextLaws.{after_none, after_more, after_fits}
use Rattle.printout.proofs.texts.last_text.Goals as goal

pub loop-init : goal.loop-init
loop-init c = after_none c.args.end _ c.args.numbers.now c.requires (c.new-reader.ensures c.args.numbers.now)

pub after_part-requires : goal.after_part-requires
after_part-requires c = after_fits _ _ c.loop.invariant

pub loop-preserved : goal.loop-preserved
loop-preserved c = after_more _ _ _ _ c.loop.invariant c.after_part.ensures
