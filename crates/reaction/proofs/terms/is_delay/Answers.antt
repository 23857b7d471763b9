-- `reaction::terms::is_delay` meets its contract. Assumes nothing.
use Rattle.std.proofs.Common.{ℕ, eqb, ap}
use Rattle.meaning.specs.Reaction.{is_delay}
use Rattle.sheet.proofs.Past.{first_read}
use Rattle.reaction.proofs.terms.is_delay.Goals as goal

pub term_kind-requires : goal.term_kind-requires
term_kind-requires c = first_read _ c.requires.0 _ c.requires.1

pub returns : goal.returns
unfolding is_delay
returns c = ap (λ (x : ℕ). eqb x 0) c.term_kind.ensures
