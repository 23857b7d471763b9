-- `sheet::check` meets its contract: each return knows which tests passed. Assumes nothing.
use Rattle.std.proofs.Common.{sym, ◌∙◌}
use Rattle.meaning.specs.Lists.{first_of}
use Rattle.meaning.specs.Check.{sheet_refusal}
use Rattle.sheet.proofs.check.Goals as goal

pub returns-then-not-head_ok : goal.returns-then-not-head_ok
unfolding sheet_refusal first_of
returns-then-not-head_ok c = rw (sym c.head_ok.ensures ∙ c.if-not-head_ok.true)

pub returns-then-not-modes_ok : goal.returns-then-not-modes_ok
unfolding sheet_refusal first_of
returns-then-not-modes_ok c = rw (sym c.head_ok.ensures ∙ c.if-not-head_ok.false, sym c.modes_ok.ensures ∙ c.if-not-modes_ok.true)

pub returns-then-not-pairs_ok : goal.returns-then-not-pairs_ok
unfolding sheet_refusal first_of
returns-then-not-pairs_ok c = rw (sym c.head_ok.ensures ∙ c.if-not-head_ok.false, sym c.modes_ok.ensures ∙ c.if-not-modes_ok.false, sym c.pairs_ok.ensures ∙ c.if-not-pairs_ok.true)

pub returns-then-not-ends_ok : goal.returns-then-not-ends_ok
unfolding sheet_refusal first_of
returns-then-not-ends_ok c = rw (sym c.head_ok.ensures ∙ c.if-not-head_ok.false, sym c.modes_ok.ensures ∙ c.if-not-modes_ok.false, sym c.pairs_ok.ensures ∙ c.if-not-pairs_ok.false, sym c.ends_ok.ensures ∙ c.if-not-ends_ok.true)

pub returns-then-not-terms_ok : goal.returns-then-not-terms_ok
unfolding sheet_refusal first_of
returns-then-not-terms_ok c = rw (sym c.head_ok.ensures ∙ c.if-not-head_ok.false, sym c.modes_ok.ensures ∙ c.if-not-modes_ok.false, sym c.pairs_ok.ensures ∙ c.if-not-pairs_ok.false, sym c.ends_ok.ensures ∙ c.if-not-ends_ok.false, sym c.terms_ok.ensures ∙ c.if-not-terms_ok.true)

pub returns-then-not-distinct_ok : goal.returns-then-not-distinct_ok
unfolding sheet_refusal first_of
returns-then-not-distinct_ok c = rw (sym c.head_ok.ensures ∙ c.if-not-head_ok.false, sym c.modes_ok.ensures ∙ c.if-not-modes_ok.false, sym c.pairs_ok.ensures ∙ c.if-not-pairs_ok.false, sym c.ends_ok.ensures ∙ c.if-not-ends_ok.false, sym c.terms_ok.ensures ∙ c.if-not-terms_ok.false, sym c.distinct_ok.ensures ∙ c.if-not-distinct_ok.true)

pub returns : goal.returns
unfolding sheet_refusal first_of
returns c = rw (sym c.head_ok.ensures ∙ c.if-not-head_ok.false, sym c.modes_ok.ensures ∙ c.if-not-modes_ok.false, sym c.pairs_ok.ensures ∙ c.if-not-pairs_ok.false, sym c.ends_ok.ensures ∙ c.if-not-ends_ok.false, sym c.terms_ok.ensures ∙ c.if-not-terms_ok.false, sym c.distinct_ok.ensures ∙ c.if-not-distinct_ok.false)
