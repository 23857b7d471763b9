-- What is reported of a transition in a tick, from the triggered transitions on; and the enum that the code reports. Assumes nothing.
use Rattle.std.specs.Prelude.{Result, Ok, Err, Bool, not, ◌&&◌, ◌||◌, cond, List, ℕ, zero, suc, eqb}
use Rattle.sets.specs.Sets.{has, lowest}
use Rattle.meaning.specs.Sheet.{t_of, source}
use Rattle.meaning.specs.Refusal.{number_of}
use Rattle.meaning.specs.declared.refusal.Refusal.{Refusal}
use Rattle.meaning.specs.Reaction.{TickSets, triggered, eligible, ambiguous, restless, after_round}
use Rattle.meaning.specs.Tick.{Tick}
use Rattle.meaning.specs.Why.{Report, refused, never_active, never_triggered, gave_way_to, taken_in, ahead_of}
use Rattle.reaction.specs.Causes.{cause}
use Rattle.reaction.specs.declared.why.Why.{Why}
use Rattle.reaction.specs.declared.why.Why.TheVariants.{NeverActive, NeverTriggered, GaveWay, Taken}

abbrev pub report_of : Why → Report
report_of NeverActive = never_active
report_of NeverTriggered = never_triggered
report_of (GaveWay u) = gave_way_to u
report_of (Taken r a) = taken_in r a

-- of a call that is refused or reports
abbrev pub answer_of : Result Why Refusal → Report
answer_of (Ok why) = report_of why
answer_of (Err e) = refused (number_of e)

module _ (s : List ℕ) where
  -- what the rounds from the triggered transitions ts on, after r rounds, report of transition t: as `reason`, but timers are due in the
  -- first round only. `taken`: some round of the tick takes t
  unfoldable pub rounds_report : Bool → ℕ → ℕ → TickSets → ℕ → ℕ → ℕ → Report
  rounds_report taken zero i z ts r t = never_triggered
  rounds_report taken (suc f) i z ts r t =
      let es = eligible s ts in
      let next = after_round s z es in
      let later = rounds_report taken f i next (triggered s 0 i next) (suc r) t in
      cond (eqb es 0 || ambiguous s es || restless s z es) never_triggered
      (cond (has es t) (taken_in (suc r) (cause s i z t))
      (cond (not taken && has ts t) (gave_way_to (lowest (t_of s) (ahead_of s ts t))) later))

  -- what a tick o reports of transition t, whose rounds began with the sets z and the triggered transitions ts
  unfoldable pub reason_by : Tick → ℕ → TickSets → ℕ → ℕ → Report
  reason_by o i z ts t =
      cond (not (has o.sets.active (source s t))) never_active
      (rounds_report (has o.sets.taken t) (suc (t_of s)) i z ts 0 t)
