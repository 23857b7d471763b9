-- `sheet::modes::modes_ok` meets its contract. Assumes nothing.
use Rattle.std.proofs.Common.{rules, ap, ◌∙◌}
use borrow.Author.Tests.{tests}
use Rattle.sets.specs.Sets.{every}
use Rattle.sets.proofs.Ranges.{every_all}
use Rattle.meaning.specs.Check.{mode_ok, modes_ok}
use Rattle.sheet.proofs.modes.modes_ok.Goals as goal

pub returns : goal.returns
unfolding modes_ok
returns c =
    every_all _ (mode_ok c.args.sheet.now) _ _ c.all.result (cc) c.all.ensures.ran (λ x b q k. search (rules, tests))
    ∙ ap (λ n. every n (mode_ok c.args.sheet.now)) c.mode_count.ensures
