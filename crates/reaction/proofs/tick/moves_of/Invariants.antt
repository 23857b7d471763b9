-- Of the loop of `reaction::tick::moves_of`: the moves of what is left, added from here, are the moves of all.
use Rattle.std.proofs.Common.{◌≡◌, ◌^◌, ◌<◌}
use Rattle.sets.specs.Sets.{members}
use Rattle.sets.proofs.Members.{fold}
use Rattle.reaction.specs.Rounds.{add_move}
use Rattle.reaction.proofs.RoundLaws.{no_moves}
use Rattle.reaction.proofs.tick.moves_of.Given as goal

abbrev pub invariant-loop-t : goal.invariant-loop-t
invariant-loop-t l =
    (l.t-iterator.rest < 2 ^ 64)
    × (fold (add_move l.plan) l.r (members 64 l.t-iterator.rest) ≡ fold (add_move l.plan) no_moves (members 64 l.es))
