-- Document 02, Ask 2: what follows from reading "highest level first" as the level of the meeting mode, each as one statement.
-- Assumes nothing.
use Rattle.std.specs.Prelude.{◌≡◌, ◌⊎◌, false, List, ℕ, ◌<◌, T, eqb}
use Rattle.sets.specs.Sets.{has}
use Rattle.meaning.specs.Sheet.{source, meeting}
use Rattle.meaning.specs.Check.{sheet_refusal}
use Rattle.meaning.specs.Hierarchy.{consistent}
use Rattle.meaning.specs.GivesWay.{gives_way}
use Rattle.meaning.specs.Reaction.{TickSets, running, triggered, conflict, eligible, exiting}
use Rattle.meaning.specs.Tick.{chosen}
use Rattle.meaning.specs.Run.{State, reading}
use Rattle.meaning.specs.SheetRun.{state_ok, sheet_step}

-- "of equal meeting modes neither gives way, even where one source contains the other"
unfoldable pub EqualStay : Type 0
EqualStay = (s : List ℕ) (t u : ℕ) → meeting s t ≡ meeting s u → gives_way s t u ≡ false

-- a transition gives way only to one in conflict with it: document 01's "in conflict" need not be asked for
unfoldable pub GivesWayInConflict : Type 0
GivesWayInConflict = (s : List ℕ) (t u : ℕ) → T (gives_way s t u) → T (conflict s t u)

-- two eligible transitions are in conflict exactly if their meeting modes are equal: 8 means just that
unfoldable pub ConflictIsEqual : Type 0
ConflictIsEqual =
    (s : List ℕ) (ts t u : ℕ) → T (has (eligible s ts) t) → T (has (eligible s ts) u) → conflict s t u ≡ eqb (meeting s t) (meeting s u)

-- a triggered transition is eligible or gives way to an eligible one: something is eligible wherever something is triggered
unfoldable pub EligibleOrGivesWay : Type 0
EligibleOrGivesWay =
    (s : List ℕ) → sheet_refusal s ≡ 0 → (d i : ℕ) (z : TickSets) (t : ℕ) → T (has (triggered s d i z) t)
    → T (has (chosen s d i z) t) ⊎ ((u : ℕ) × T (has (chosen s d i z) u) × T (gives_way s t u))

-- the source of a transition that gives way is exited in that round
unfoldable pub GivesWayExited : Type 0
GivesWayExited =
    (s : List ℕ) → sheet_refusal s ≡ 0 → (d i : ℕ) (z : TickSets) → T (consistent s z.modes)
    → (t u : ℕ) → T (has (triggered s d i z) t) → T (has (triggered s d i z) u) → T (gives_way s t u)
    → T (has (exiting s z (chosen s d i z)) (source s t))

-- so no reading 0 remains after a done tick, of a due timer that gave way neither
unfoldable pub NoReadingZero : Type 0
NoReadingZero =
    (s : List ℕ) → sheet_refusal s ≡ 0 → (q : State) (i : ℕ) → T (state_ok s q) → (sheet_step s q i).refusal ≡ 0
    → (t : ℕ) → T (has (running s (sheet_step s q i).state.at) t) → 0 < reading (sheet_step s q i).state.readings t

-- all of them
pub record HighestLevelFirst : Type 0 where
  pub equal_stay : EqualStay
  pub gives_way_in_conflict : GivesWayInConflict
  pub conflict_is_equal : ConflictIsEqual
  pub eligible_or_gives_way : EligibleOrGivesWay
  pub gives_way_exited : GivesWayExited
  pub no_reading_zero : NoReadingZero
