-- Of the loop of `planner::conflicts::by_meeting`: the transitions passed are in the words of their meeting modes.
use Rattle.std.proofs.Common.{◌≡◌, ℕ, ◌≤◌, ◌<◌, length, get_or}
use Rattle.meaning.specs.Sheet.{t_of}
use Rattle.planner.specs.Parts.{Words}
use Rattle.planner.proofs.WordLaws.{below_words}
use Rattle.planner.proofs.ConflictLaws.{by_meeting}
use Rattle.planner.proofs.conflicts.by_meeting.Given as goal

abbrev pub invariant-loop-t : goal.invariant-loop-t
invariant-loop-t l =
    (t_of l.sheet ≤ 64)
    × ((u : ℕ) → u < t_of l.sheet → get_or l.meets u 0 < 32)
    × (length l.r ≡ 32)
    × Words l.r 32 (below_words (by_meeting l.sheet) l.t)
