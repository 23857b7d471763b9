-- `stations::serve_all` meets its contract, by the laws of `Serves`.
use mathlib.Core.Path.{sym, ◌∙◌}
use Rattle.stations.proofs.ServingLaws.{serves_start, serves_ready, serves_step, serves_less}
use Rattle.stations.proofs.serve_all.Goals as goal

pub loop-stations-init : goal.loop-stations-init
loop-stations-init c = serves_start c.requires.0 c.requires.1

pub serve_one-c-requires : goal.serve_one-c-requires
serve_one-c-requires c = serves_ready c.loop-stations.invariant (sym c.is_over.ensures ∙ c.loop-stations-test.true)

pub loop-stations-smaller : goal.loop-stations-smaller
loop-stations-smaller c = serves_less c.loop-stations.invariant (sym c.is_over.ensures ∙ c.loop-stations-test.true) c.serve_one-c.ensures

pub loop-stations-preserved : goal.loop-stations-preserved
loop-stations-preserved c = serves_step c.loop-stations.invariant (sym c.is_over.ensures ∙ c.loop-stations-test.true) c.serve_one-c.ensures
