-- `table::timers_ok` meets its contract. Assumes nothing.
use Rattle.std.proofs.Common.{◌+◌, ◌<◌, length, rules, arith, ap, ◌∙◌}
use borrow.Author.Tests.{tests}
use Rattle.std.proofs.lemmas.Iterator.{serves_from_Range}
use Rattle.sets.specs.Sets.{every}
use Rattle.sets.proofs.Ranges.{every_all}
use Rattle.meaning.specs.Table.{word_in, source_in, delay_in, timer_ok}
use Rattle.table.proofs.Places.{head_of}
use Rattle.table.proofs.timers_ok.Goals as goal

pub all-requires-clause-callable : goal.all-requires-clause-callable
all-requires-clause-callable c =
    serves_from_Range (λ x q k. search (rules, tests))
    (λ x h l.
    let w = c.args.table.now in
    let room : 4 + x < length w = omega (arith, head_of w c.requires) in
    let small : 4 + x < 68 = omega (arith, head_of w c.requires) in
    search rules)

pub returns : goal.returns
unfolding timer_ok source_in delay_in word_in
returns c =
    every_all _ (timer_ok c.args.table.now) _ _ c.all.result (cc) c.all.ensures.ran (λ x b q k. search (rules, tests))
    ∙ ap (λ n. every n (timer_ok c.args.table.now)) c.transition_count.ensures
