-- Of the loop of `planner::classes::classes_of`: of the transitions passed, the timers and the sure ones are found.
use Rattle.std.proofs.Common.{◌≡◌, ◌≤◌}
use Rattle.sets.specs.Sets.{set_of}
use Rattle.meaning.specs.Sheet.{t_of}
use Rattle.meaning.specs.Reaction.{is_timer}
use Rattle.planner.specs.Parts.{is_sure}
use Rattle.planner.proofs.classes.classes_of.Given as goal

abbrev pub invariant-loop-t : goal.invariant-loop-t
invariant-loop-t l = (t_of l.sheet ≤ 64) × (l.timing ≡ set_of l.t (is_timer l.sheet)) × (l.certain ≡ set_of l.t (is_sure l.sheet))
