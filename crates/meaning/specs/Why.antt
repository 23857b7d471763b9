-- Document 02, Ask 1: why a transition stayed put. Assumes nothing.
use Rattle.std.specs.Prelude.{Bool, not, cond, List, [], ◌∷◌, map, ℕ, eqb, leb}
use Rattle.sets.specs.Sets.{has, those, lowest}
use Rattle.meaning.specs.Lists.{first_of, refused_if, first_refusal}
use Rattle.meaning.specs.Sheet.{k_of, t_of, source}
use Rattle.meaning.specs.Check.{sheet_refusal}
use Rattle.meaning.specs.GivesWay.{gives_way}
use Rattle.meaning.specs.Reaction.{TickSets, running, triggered}
use Rattle.meaning.specs.Tick.{chosen, tick}
use Rattle.meaning.specs.RoundList.{tick_rounds}
use Rattle.meaning.specs.Alternatives.{fired}
use Rattle.meaning.specs.Run.{State, due_timers, tick_refusal}
use Rattle.meaning.specs.SheetRun.{state_ok, sheet_step}

-- "report one of": a refusal, or a reason with what it carries
pub data Report : Type 0 where
  -- "A refused tick reports its refusal only."
  refused : ℕ → Report
  -- "source never active in that tick"
  never_active : Report
  -- "active but never triggered"
  never_triggered : Report
  -- "triggered but gave way, with the lowest-numbered transition it gave way to in the first such round"
  gave_way_to : ℕ → Report
  -- "taken, with its round counted from 1", and its alternative: Ask 5's number
  taken_in : ℕ → ℕ → Report

-- the refusal's number, 0 where a reason is reported
unfoldable pub refusal_of : Report → ℕ
refusal_of (refused e) = e
refusal_of never_active = 0
refusal_of never_triggered = 0
refusal_of (gave_way_to u) = 0
refusal_of (taken_in r a) = 0

-- the number of the reason, in the document's order, and its two values, 0 for one that it has not; a refusal has none
unfoldable pub reason_words : Report → List ℕ
reason_words (refused e) = []
reason_words never_active = 0 ∷ 0 ∷ 0 ∷ []
reason_words never_triggered = 1 ∷ 0 ∷ 0 ∷ []
reason_words (gave_way_to u) = 2 ∷ u ∷ 0 ∷ []
reason_words (taken_in r a) = 3 ∷ r ∷ a ∷ []

module _ (s : List ℕ) where
  -- the transitions that t gives way to among the triggered ones ts, if it is one of them: also those that give way themselves
  unfoldable pub ahead_of : ℕ → ℕ → ℕ
  ahead_of ts t = cond (has ts t) (those (t_of s) ts (gives_way s t)) 0

  -- of a transition that none of these rounds takes: what it gave way to "in the first such round"; if it gave way in none, it was
  -- never triggered
  unfoldable pub gave_way_in : ℕ → ℕ → List TickSets → ℕ → Report
  gave_way_in d i [] t = never_triggered
  gave_way_in d i (z ∷ zs) t =
      let ahead = ahead_of (triggered s d i z) t in
      let later = gave_way_in d i zs t in
      cond (eqb ahead 0) later (gave_way_to (lowest (t_of s) ahead))

  -- "its round counted from 1" of a transition that one of these rounds takes
  unfoldable pub round_in : ℕ → ℕ → List TickSets → ℕ → ℕ
  round_in d i zs t = first_of 1 (map (λ z. has (chosen s d i z) t) zs)

  -- the reason in a tick that is not refused, from the mode set x with the due timers d on the input i: "If it both gave way and was
  -- taken, taken is reported."
  unfoldable pub reason : ℕ → ℕ → ℕ → ℕ → Report
  reason x d i t =
      let o = tick s x d i in
      let zs = tick_rounds s x d i in
      cond (not (has o.sets.active (source s t))) never_active
      (cond (has o.sets.taken t) (taken_in (round_in d i zs t) (fired s x d i t))
      (gave_way_in d i zs t))

  -- 16: "A transition number at T or above"
  unfoldable pub no_transition : ℕ → Bool
  no_transition t = leb (t_of s) t

  -- "refused 16, after 14 and before 13"; the tick is refused 13, then 8 or 9
  unfoldable pub why_refusal : State → ℕ → ℕ → ℕ
  why_refusal q i t =
      first_refusal
      (sheet_refusal s ∷ refused_if (not (state_ok s q)) 14 ∷ refused_if (no_transition t) 16 ∷ tick_refusal (k_of s) (sheet_step s) q i ∷ [])

  -- what is reported of transition t in the tick from a state on the input i
  unfoldable pub why : State → ℕ → ℕ → Report
  why q i t =
      let e = why_refusal q i t in
      let r = reason q.at (due_timers (running s q.at) q.readings) i t in
      cond (eqb e 0) r (refused e)
