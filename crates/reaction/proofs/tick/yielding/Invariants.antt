-- Of the loop of `reaction::tick::yielding`: the union over what is left, from here, is the union over all.
use Rattle.std.proofs.Common.{◌≡◌, ◌^◌, ◌<◌, get_or}
use Rattle.sets.specs.Sets.{union, members}
use Rattle.sets.proofs.Members.{fold}
use Rattle.reaction.proofs.tick.yielding.Given as goal

abbrev pub invariant-loop-t : goal.invariant-loop-t
invariant-loop-t l =
    (l.t-iterator.rest < 2 ^ 64)
    × (fold (λ x t. union x (get_or l.plan.yielders t 0)) l.r (members 64 l.t-iterator.rest)
    ≡ fold (λ x t. union x (get_or l.plan.yielders t 0)) 0 (members 64 l.ts))
