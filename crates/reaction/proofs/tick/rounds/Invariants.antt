-- Of the loop of `reaction::tick::rounds`: what is left of the rounds gives what all give.
use Rattle.std.proofs.Common.{◌+◌, ◌-◌}
use Rattle.meaning.specs.Sheet.{t_of}
use Rattle.reaction.proofs.RoundLoop.{Left}
use Rattle.reaction.proofs.tick.rounds.Given as goal

abbrev pub invariant-loop-z : goal.invariant-loop-z
invariant-loop-z l = Left l.sheet l.begun l.entered l.first l.input l.z l.ts l.r

abbrev pub decreases-loop-z : goal.decreases-loop-z
decreases-loop-z l = t_of l.sheet + 1 - l.r
