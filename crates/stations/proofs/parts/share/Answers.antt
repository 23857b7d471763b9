-- `stations::parts::share` meets its contract. Assumes nothing.
use Rattle.std.proofs.Common.{sym, ◌∙◌}
use Rattle.stations.proofs.PartLaws.{shares_empty, shares-nothing, shares_after, shares_both}
use Rattle.stations.proofs.parts.share.Goals as goal

pub returns-then-length-eq0 : goal.returns-then-length-eq0
returns-then-length-eq0 c = sym (shares_empty _ _ _ _ c.if-length-eq0.true)

pub returns-then-length2-eq0 : goal.returns-then-length2-eq0
returns-then-length2-eq0 c = sym (shares-nothing _ _ _ _ c.if-length-eq0.false c.if-length2-eq0.true)

pub returns-then-not-before_end : goal.returns-then-not-before_end
returns-then-not-before_end c =
    sym (shares_after _ _ _ _ c.if-length-eq0.false c.if-length2-eq0.false (sym c.before_end.ensures ∙ c.if-not-before_end.true))

pub returns : goal.returns
returns c =
    c.before_end-2.ensures
    ∙ shares_both _ _ _ _ c.if-length-eq0.false c.if-length2-eq0.false (sym c.before_end.ensures ∙ c.if-not-before_end.false)
