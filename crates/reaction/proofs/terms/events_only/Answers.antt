-- `reaction::terms::events_only` meets its contract. Assumes nothing.
use Rattle.std.proofs.Common.{ℕ, ◌<◌, rules, ap, ◌∙◌, arith}
use borrow.Author.Tests.{tests}
use Rattle.std.proofs.lemmas.Iterator.{serves_from_Range}
use Rattle.sets.specs.Sets.{every}
use Rattle.sets.proofs.Ranges.{every_all}
use Rattle.meaning.specs.Sheet.{term_kind}
use Rattle.sheet.specs.Reading.{Term}
use Rattle.sheet.proofs.Past.{record_read, term_read}
use Rattle.reaction.specs.Plan.{is_event_kind, events_only}
use Rattle.reaction.proofs.terms.events_only.Goals as goal

pub term_count-requires : goal.term_count-requires
term_count-requires c = record_read _ c.requires.0 _ c.requires.1

pub all-requires-clause-callable : goal.all-requires-clause-callable
all-requires-clause-callable c =
    let there : (j : ℕ) → j < c.term_count.result → Term c.args.sheet.now c.args.t j =
    λ j l. term_read c.args.sheet.now c.requires.0 c.args.t j c.requires.1 (omega arith) in
    serves_from_Range (λ x q k. search (rules, tests)) (λ x a b. search (rules, there))

pub returns : goal.returns
unfolding events_only is_event_kind
returns c =
    every_all _ (λ j. is_event_kind (term_kind c.args.sheet.now c.args.t j)) _ _ c.all.result (cc) c.all.ensures.ran (λ x b q k. search (rules, tests))
    ∙ ap (λ n. every n (λ j. is_event_kind (term_kind c.args.sheet.now c.args.t j))) c.term_count.ensures
