-- What holds before each turn (`Serves`), and the number that falls with every turn (`most`).
use Rattle.stations.specs.Serving.{most}
use Rattle.stations.proofs.Invariant.{Serves}
use Rattle.stations.proofs.serve_all.Given as goal

abbrev pub invariant-loop-stations : goal.invariant-loop-stations
invariant-loop-stations l = Serves l.table l.inputs l.fn.stations l.fn.out l.fn.start.left l.c l.stations l.work l.out

abbrev pub decreases-loop-stations : goal.decreases-loop-stations
decreases-loop-stations l = most l.c
