-- `table::blocks::blocks_ok` meets its contract. Assumes nothing.
use Rattle.std.proofs.Common.{rules, ap, ◌∙◌}
use borrow.Author.Tests.{tests}
use Rattle.sets.specs.Sets.{every}
use Rattle.sets.proofs.Ranges.{every_all}
use Rattle.meaning.specs.Table.{block_ok}
use Rattle.table.proofs.blocks.blocks_ok.Goals as goal

pub returns : goal.returns
returns c =
    every_all _ (block_ok c.args.table.now) _ _ c.all.result (cc) c.all.ensures.ran (λ x b q k. search (rules, tests))
    ∙ ap (λ n. every n (block_ok c.args.table.now)) c.block_count.ensures
