-- `sheet::terms::record_ok` meets its contract. Assumes nothing.
use Rattle.std.proofs.Common.{rules, ap, ◌∙◌}
use borrow.Author.Tests.{tests}
use Rattle.sets.specs.Sets.{every}
use Rattle.sets.proofs.Ranges.{every_all}
use Rattle.meaning.specs.Check.{term_ok}
use Rattle.sheet.proofs.terms.record_ok.Goals as goal

pub returns : goal.returns
returns c =
    every_all _ (term_ok c.args.sheet.now c.args.t) _ _ c.all.result (cc) c.all.ensures.ran (λ x b q k. search (rules, tests))
    ∙ ap (λ n. every n (term_ok c.args.sheet.now c.args.t)) c.term_count.ensures
