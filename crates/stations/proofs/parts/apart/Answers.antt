-- `stations::parts::apart` meets its contract. Assumes nothing.
use Rattle.std.proofs.Common.{rules}
use borrow.Author.Tests.{tests}
use Rattle.sets.proofs.Ranges.{every_all}
use Rattle.stations.specs.Serving.{apart_from}
use Rattle.stations.proofs.parts.apart.Goals as goal

pub returns : goal.returns
returns c = every_all _ (apart_from c.args.work.now c.args.s) _ _ c.all.result (cc) c.all.ensures.ran (λ x b q k. search (rules, tests))
