-- `run::sums::sum_of` meets its contract. Assumes nothing.
use Rattle.std.proofs.Common.{rules, ◌≡◌, ◌∙◌, sum}
use Rattle.run.proofs.SumLaws.{sum_list}
use Rattle.run.proofs.sums.sum_of.Goals as goal

pub returns : goal.returns
returns c = let e : c.sum.result ≡ sum c.args.values.now = search rules in e ∙ sum_list c.args.values.now
