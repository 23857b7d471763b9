-- `sheet::ends::ends_ok` meets its contract. Assumes nothing.
use Rattle.std.proofs.Common.{rules, ap, ◌∙◌}
use borrow.Author.Tests.{tests}
use Rattle.sets.specs.Sets.{every}
use Rattle.sets.proofs.Ranges.{every_all}
use Rattle.meaning.specs.Check.{end_ok, ends_ok}
use Rattle.sheet.proofs.ends.ends_ok.Goals as goal

pub returns : goal.returns
unfolding ends_ok
returns c =
    every_all _ (end_ok c.args.sheet.now) _ _ c.all.result (cc) c.all.ensures.ran (λ x b q k. search (rules, tests))
    ∙ ap (λ n. every n (end_ok c.args.sheet.now)) c.transition_count.ensures
