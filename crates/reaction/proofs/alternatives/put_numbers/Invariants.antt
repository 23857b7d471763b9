-- Of the loop of `reaction::alternatives::put_numbers`, which counts from 1: the transitions taken so far have their numbers, and what
-- is left of the rounds gives the others.
use Rattle.std.proofs.Common.{◌≡◌, ◌-◌}
use Rattle.rows.specs.Over.{over}
use Rattle.meaning.specs.Lists.{row_from}
use Rattle.reaction.proofs.FiredLoop.{numbered, Numbered}
use Rattle.reaction.proofs.alternatives.put_numbers.Given as goal

abbrev pub invariant-loop : goal.invariant-loop
invariant-loop l =
    Numbered l.sheet l.b.begun l.b.entered l.first l.input l.z l.ts (l.counter - 1)
    × (l.numbers ≡ over l.fn.numbers l.at (row_from 0 64 (numbered l.sheet l.b.begun l.b.entered l.first l.input l.z)))
