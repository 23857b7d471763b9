-- Of the loop of `reaction::why::rounds_report`: what is left of the rounds reports what all do.
use Rattle.std.proofs.Common.{◌<◌}
use Rattle.sets.specs.Sets.{has}
use Rattle.reaction.proofs.ReasonLoop.{Asked}
use Rattle.reaction.proofs.why.rounds_report.Given as goal

abbrev pub invariant-loop-r : goal.invariant-loop-r
invariant-loop-r l = (l.t < 64) × Asked l.sheet (has l.o.taken l.t) l.t l.input l.b.begun l.b.entered l.first l.z l.ts l.r
