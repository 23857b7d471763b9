-- `sheet::terms::terms_ok` meets its contract. Assumes nothing.
use Rattle.std.proofs.Common.{rules, ap, ◌∙◌}
use borrow.Author.Tests.{tests}
use Rattle.sets.specs.Sets.{every}
use Rattle.sets.proofs.Ranges.{every_all}
use Rattle.meaning.specs.Sheet.{term_count}
use Rattle.meaning.specs.Check.{term_ok, terms_ok}
use Rattle.sheet.proofs.terms.terms_ok.Goals as goal

pub returns : goal.returns
unfolding terms_ok
returns c =
    every_all _ (λ t. every (term_count c.args.sheet.now t) (term_ok c.args.sheet.now t)) _ _ c.all.result (cc) c.all.ensures.ran (λ x b q k. search (rules, tests))
    ∙ ap (λ n. every n (λ t. every (term_count c.args.sheet.now t) (term_ok c.args.sheet.now t))) c.transition_count.ensures
