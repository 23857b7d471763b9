-- What is promised of the definitions besides the whole-list theorem, each as one statement. A sheet here is any that passes
-- 1 to 6. Assumes nothing.
use Rattle.std.specs.Prelude.{◌≡◌, ◌⊎◌, false, List, [], ℕ, suc, ◌+◌, ◌*◌, ◌≤◌, ◌<◌, T, length}
use Rattle.sets.specs.Sets.{has}
use Rattle.meaning.specs.Lists.{is_in}
use Rattle.meaning.specs.Sheet.{n_of, t_of, parent, contains, contains_in, meeting_from}
use Rattle.meaning.specs.Check.{sheet_refusal}
use Rattle.meaning.specs.Hierarchy.{consistent, completed_in, child_in}
use Rattle.meaning.specs.Reaction.{ambiguous}
use Rattle.meaning.specs.Tick.{begin, rounds_from, tick}
use Rattle.meaning.specs.RoundList.{RoundsListed}
use Rattle.meaning.specs.Run.{State}
use Rattle.meaning.specs.SheetRun.{state_ok, tick_from, state_after, sheet_step, sheet_ticks, sheet_run}
use Rattle.meaning.specs.TickInWords.{timed_tick, timed_state}
use Rattle.meaning.specs.OneByOne.{Reaction, is_triggered, eligible_in, take_in_order, take_together}
use Rattle.meaning.specs.Walk.{walk_from, walk}
use Rattle.meaning.specs.Acceptance.{AcceptedServes, CompiledAccepted, MasksFixTable, TableStateStays, TableRunsOn, AcceptedNotStale}
use Rattle.meaning.specs.HighestLevelFirst.{HighestLevelFirst}
use Rattle.meaning.specs.NamedEvents.{NamedEvents}
use Rattle.meaning.specs.Within.{MaskExact, MaskNoOther, ConflictByMask, GivesWayByMask}
use Rattle.meaning.specs.Milliseconds.{WholeDelay, RestBelow, TicksFit}
use Rattle.meaning.specs.NoIdleArrows.{IdleRefused, RefusedIdle, IdleLeaves, EveryArrowTaken}
use Rattle.meaning.specs.FiredAlternatives.{FiredTaken, FiredRange, NumbersTaken}
use Rattle.meaning.specs.Reasons.{ReasonHolds, ReasonOnly, SameRefusal, SameTick}
use Rattle.meaning.specs.ModeAges.{AgeSince, AgeStays, SumsInSheet, SumsInAccepted, SumsInCompiled, AgesApartInSheet, AgesApartInTable, AgesApartInWhy}
use Rattle.meaning.specs.Timeouts.{SheetKeepsTimeouts, AcceptedKeepsTimeouts, CompiledKeepsTimeouts}

-- a tick from power-on or from a consistent set leaves a consistent set
unfoldable pub KeepsConsistent : Type 0
KeepsConsistent =
    (s : List ℕ) → sheet_refusal s ≡ 0 → (x d i : ℕ) → (x ≡ 0) ⊎ T (consistent s x)
    → T (consistent s (tick s x d i).sets.modes)

-- at most T rounds a tick, and T times ticks a run
unfoldable pub TickRounds : Type 0
TickRounds = (s : List ℕ) (x d i : ℕ) → (tick s x d i).rounds ≤ t_of s

unfoldable pub RunRounds : Type 0
RunRounds = (s inputs : List ℕ) (q : State) → (sheet_ticks s inputs q).rounds ≤ t_of s * (sheet_ticks s inputs q).done

-- the fuel of a bounded recursion cuts nothing off: with more of it the answer is the same
unfoldable pub RoundsEnough : Type 0
RoundsEnough = (s : List ℕ) (x d i f : ℕ) → rounds_from s (suc (t_of s) + f) d i (begin s x) 0 ≡ tick s x d i

unfoldable pub WalkEnough : Type 0
WalkEnough = (s : List ℕ) (w f : ℕ) → walk_from s w (4096 + f) 0 [] ≡ walk s w

unfoldable pub ContainmentEnough : Type 0
ContainmentEnough = (s : List ℕ) → sheet_refusal s ≡ 0 → (a m f : ℕ) → m < n_of s → contains_in s (m + f) a m ≡ contains s a m

unfoldable pub MeetingEnough : Type 0
MeetingEnough =
    (s : List ℕ) → sheet_refusal s ≡ 0 → (a b f : ℕ) → a < n_of s → b < n_of s
    → meeting_from s (a + f) (parent s a) b ≡ meeting_from s a (parent s a) b

unfoldable pub CompletionEnough : Type 0
CompletionEnough = (s : List ℕ) → sheet_refusal s ≡ 0 → (x m f : ℕ) → m < n_of s → completed_in s (m + f) x m ≡ completed_in s m x m

unfoldable pub ChildEnough : Type 0
ChildEnough = (s : List ℕ) → sheet_refusal s ≡ 0 → (p m f : ℕ) → m < n_of s → child_in s (m + f) p m ≡ child_in s m p m

-- the tick in document 01's words, with readings changed round by round, is the tick on due sets: the same refusal, sets and
-- rounds, and the same state after it
unfoldable pub InWords : Type 0
InWords =
    (s : List ℕ) → sheet_refusal s ≡ 0 → (q : State) (i : ℕ)
    → ((timed_tick s q i).tick ≡ tick_from s q i) × (timed_state s q i ≡ state_after s q (tick_from s q i).sets)

-- "the state after a round is the same for every order of its transitions": the eligible transitions of a round that is not
-- ambiguous, taken one at a time in any order, leave what the round leaves
unfoldable pub AnyOrder : Type 0
AnyOrder =
    (s : List ℕ) → sheet_refusal s ≡ 0 → (y : Reaction) (i : ℕ) → length y.readings ≡ 64
    → ambiguous s (eligible_in s i y) ≡ false
    → (order : List ℕ) → ((t : ℕ) → is_in t order ≡ has (eligible_in s i y) t)
    → take_in_order s y order ≡ take_together s y (eligible_in s i y)

-- and while they are taken, in any order, those not yet taken stay triggered
unfoldable pub StayTriggered : Type 0
StayTriggered =
    (s : List ℕ) → sheet_refusal s ≡ 0 → (y : Reaction) (i : ℕ) → ambiguous s (eligible_in s i y) ≡ false
    → (before : List ℕ) → ((u : ℕ) → T (is_in u before) → T (has (eligible_in s i y) u))
    → (t : ℕ) → T (has (eligible_in s i y) t) → is_in t before ≡ false → T (is_triggered s i (take_in_order s y before) t)

-- ---- states stay good

-- from a state that is not refused 14, a done tick leaves a state that is not refused 14
unfoldable pub SheetStateStays : Type 0
SheetStateStays =
    (s : List ℕ) → sheet_refusal s ≡ 0 → (q : State) (i : ℕ) → T (state_ok s q) → (sheet_step s q i).refusal ≡ 0
    → T (state_ok s (sheet_step s q i).state)

-- so no sheet run is refused 14 on what a run returned that was not refused 14 itself
unfoldable pub SheetRunsOn : Type 0
SheetRunsOn =
    (s : List ℕ) → sheet_refusal s ≡ 0 → (q : State) (inputs out numbers more out' numbers' : List ℕ)
    → ((sheet_run s q inputs out numbers).run.refusal ≡ 14 → ⊥)
    → (sheet_run s (sheet_run s q inputs out numbers).run.state more out' numbers').run.refusal ≡ 14 → ⊥

-- all of them
pub record Promised : Type 0 where
  pub keeps_consistent : KeepsConsistent
  pub tick_rounds : TickRounds
  pub run_rounds : RunRounds
  pub rounds_enough : RoundsEnough
  pub walk_enough : WalkEnough
  pub containment_enough : ContainmentEnough
  pub meeting_enough : MeetingEnough
  pub completion_enough : CompletionEnough
  pub child_enough : ChildEnough
  pub in_words : InWords
  pub any_order : AnyOrder
  pub stay_triggered : StayTriggered
  pub sheet_state_stays : SheetStateStays
  pub table_state_stays : TableStateStays
  pub sheet_runs_on : SheetRunsOn
  pub table_runs_on : TableRunsOn
  pub accepted_not_stale : AcceptedNotStale
  pub compiled_accepted : CompiledAccepted
  pub accepted_serves : AcceptedServes
  pub masks_fix_table : MasksFixTable
  pub highest_level_first : HighestLevelFirst
  pub named_events : NamedEvents
  pub mask_exact : MaskExact
  pub mask_no_other : MaskNoOther
  pub conflict_by_mask : ConflictByMask
  pub gives_way_by_mask : GivesWayByMask
  pub whole_delay : WholeDelay
  pub rest_below : RestBelow
  pub ticks_fit : TicksFit
  pub idle_refused : IdleRefused
  pub refused_idle : RefusedIdle
  pub idle_leaves : IdleLeaves
  pub every_arrow_taken : EveryArrowTaken
  pub rounds_listed : RoundsListed
  pub fired_taken : FiredTaken
  pub fired_range : FiredRange
  pub numbers_taken : NumbersTaken
  pub reason_holds : ReasonHolds
  pub reason_only : ReasonOnly
  pub same_refusal : SameRefusal
  pub same_tick : SameTick
  pub age_since : AgeSince
  pub age_stays : AgeStays
  pub sums_in_sheet : SumsInSheet
  pub sums_in_accepted : SumsInAccepted
  pub sums_in_compiled : SumsInCompiled
  pub ages_apart_in_sheet : AgesApartInSheet
  pub ages_apart_in_table : AgesApartInTable
  pub ages_apart_in_why : AgesApartInWhy
  pub sheet_keeps_timeouts : SheetKeepsTimeouts
  pub accepted_keeps_timeouts : AcceptedKeepsTimeouts
  pub compiled_keeps_timeouts : CompiledKeepsTimeouts
