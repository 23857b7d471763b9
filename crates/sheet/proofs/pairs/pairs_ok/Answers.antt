-- `sheet::pairs::pairs_ok` meets its contract. Assumes nothing.
use Rattle.std.proofs.Common.{◌≡◌, rules, ap, sym, ◌∙◌}
use borrow.Author.Tests.{tests}
use Rattle.sets.specs.Sets.{every}
use Rattle.sets.proofs.Ranges.{every_all}
use Rattle.meaning.specs.Sheet.{t_of}
use Rattle.meaning.specs.Check.{pair_ok, pairs_ok}
use Rattle.sheet.proofs.pairs.pairs_ok.Goals as goal

pub returns-then-all : goal.returns-then-all
unfolding pairs_ok
returns-then-all c =
    let s = c.args.sheet.now in
    let all : c.all.result ≡ every (t_of s) (pair_ok s) =
    every_all _ (pair_ok s) _ _ c.all.result (cc) c.all.ensures.ran (λ x b q k. search (rules, tests)) ∙ ap (λ n. every n (pair_ok s)) c.transition_count-count.ensures in
    rw (sym all ∙ c.if-all.true, c.end_before.ensures, c.transition_count-count.ensures)

pub returns-else-all : goal.returns-else-all
unfolding pairs_ok
returns-else-all c =
    let s = c.args.sheet.now in
    let all : c.all.result ≡ every (t_of s) (pair_ok s) =
    every_all _ (pair_ok s) _ _ c.all.result (cc) c.all.ensures.ran (λ x b q k. search (rules, tests)) ∙ ap (λ n. every n (pair_ok s)) c.transition_count-count.ensures in
    rw (sym all ∙ c.if-all.false) c.if-all.false
