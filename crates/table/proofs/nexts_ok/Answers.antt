-- `table::nexts_ok` meets its contract. Assumes nothing.
use Rattle.std.proofs.Common.{◌<◌, rules, arith, ap, ◌∙◌}
use borrow.Author.Tests.{tests}
use Rattle.std.proofs.lemmas.Iterator.{serves_from_Range}
use Rattle.sets.specs.Sets.{every}
use Rattle.sets.proofs.Ranges.{every_all}
use Rattle.meaning.specs.Table.{b_in}
use Rattle.table.specs.Parts.{next_blocks_ok, nexts_ok}
use Rattle.table.proofs.LayoutFacts.{head_sound, pairs_sound, block_head_sound}
use Rattle.table.proofs.nexts_ok.Goals as goal

pub block_count-requires : goal.block_count-requires
block_count-requires c = head_sound _ c.requires

pub all-requires-clause-callable : goal.all-requires-clause-callable
all-requires-clause-callable c =
    serves_from_Range (λ x q k. search (rules, tests))
    (λ x h l.
    let w = c.args.table.now in
    let i : x < b_in w = omega arith in
    search (rules, head_sound w c.requires, pairs_sound w c.requires, block_head_sound w c.requires x i))

pub returns : goal.returns
unfolding nexts_ok
returns c =
    every_all _ (next_blocks_ok c.args.table.now) _ _ c.all.result (cc) c.all.ensures.ran (λ x b q k. search (rules, tests))
    ∙ ap (λ n. every n (next_blocks_ok c.args.table.now)) c.block_count.ensures
