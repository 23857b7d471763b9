-- `reaction::terms::holds` meets its contract. Assumes nothing.
use Rattle.std.proofs.Common.{get_or}
use borrow.Author.Tests.{ne_eqb}
use Rattle.sets.proofs.Membership.{shift_test}
use Rattle.reaction.specs.Facts.{holds_by}
use Rattle.reaction.proofs.terms.holds.Goals as goal

pub returns-then-kind : goal.returns-then-kind
unfolding holds_by
returns-then-kind c = rw (c.if-kind.true, c.from.ensures)

pub returns : goal.returns
unfolding holds_by
returns c = rw (ne_eqb _ _ c.if-kind.false) (shift_test (get_or c.args.f.now c.args.kind 0) c.args.v)
