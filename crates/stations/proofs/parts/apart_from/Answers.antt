-- `stations::parts::apart_from` meets its contract. Assumes nothing.
use Rattle.std.proofs.Common.{not, sym, ap, ◌∙◌}
use Rattle.stations.proofs.PartLaws.{apart_not_in, apart_out}
use Rattle.stations.proofs.parts.apart_from.Goals as goal

pub returns-then-share : goal.returns-then-share
returns-then-share c = sym (apart_not_in _ _ _ (sym c.share.ensures ∙ c.if-share.true))

pub returns : goal.returns
returns c = ap not c.share-2.ensures ∙ apart_out _ _ _ (sym c.share.ensures ∙ c.if-share.false)
