-- Of the loop of `reaction::terms::alternative`: the terms left, from here, give what all give from the start.
use Rattle.std.proofs.Common.{◌≡◌, ◌+◌, ◌-◌, ◌*◌, ◌≤◌, length}
use Rattle.reaction.specs.Facts.{alternative_by_from, alternative_by}
use Rattle.reaction.proofs.terms.alternative.Given as goal

abbrev pub invariant-loop-j : goal.invariant-loop-j
invariant-loop-j l =
    (l.at + 2 * l.j-end ≤ length l.sheet)
    × (l.j-end ≤ 16)
    × (l.a ≤ l.j + 1)
    × (alternative_by_from l.sheet l.f l.t (l.j-end - l.j) l.j l.a l.ok ≡ alternative_by l.sheet l.f l.t)
