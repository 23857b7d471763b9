-- Of the loop of `planner::sources::put_from`: the transitions passed are in the words of their sources.
use Rattle.std.proofs.Common.{ℕ, ◌≤◌, ◌<◌}
use Rattle.meaning.specs.Sheet.{t_of, source}
use Rattle.planner.specs.Parts.{Words}
use Rattle.planner.proofs.WordLaws.{below_words}
use Rattle.planner.proofs.SourceLaws.{by_source}
use Rattle.planner.proofs.sources.put_from.Given as goal

abbrev pub invariant-loop-t : goal.invariant-loop-t
invariant-loop-t l = (t_of l.sheet ≤ 64) × ((u : ℕ) → u < t_of l.sheet → source l.sheet u < 32) × Words l.from 32 (below_words (by_source l.sheet) l.t)
