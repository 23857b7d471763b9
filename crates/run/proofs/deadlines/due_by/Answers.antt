-- `run::deadlines::due_by` meets its contract. Assumes nothing.
use Rattle.std.proofs.Common.{◌^◌, sym, arith}
use native.Mathlib.Nat.{mul-zero}
use Rattle.sets.specs.Sets.{members}
use Rattle.run.proofs.DueNumberLaws.{number_none}
use Rattle.run.proofs.SoonestLaws.{soon_none}
use Rattle.run.proofs.deadlines.due_by.Goals as goal

pub returns-then-tick-soon : goal.returns-then-tick-soon
returns-then-tick-soon c =
    let a = c.args in
    (soon_none a.timers a.ends.now c.requires.0 (omega arith), sym (rw (number_none (members 64 a.timers)) (mul-zero (2 ^ a.low))))
