-- Of the loop of `planner::ends::put_ends`: the words of the transitions passed are stored.
use Rattle.std.proofs.Common.{◌≤◌}
use Rattle.meaning.specs.Sheet.{t_of}
use Rattle.planner.specs.Parts.{Words, ends_of}
use Rattle.planner.proofs.ends.put_ends.Given as goal

abbrev pub invariant-loop-t : goal.invariant-loop-t
invariant-loop-t l = (t_of l.tree.sheet.now ≤ 64) × Words l.ends l.t (ends_of l.tree.sheet.now)
