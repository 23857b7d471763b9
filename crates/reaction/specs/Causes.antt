-- By which alternative a transition is taken, by the words of a tick and from the triggered transitions on. Assumes nothing.
use Rattle.std.specs.Prelude.{◌||◌, cond, List, ℕ, zero, suc, eqb}
use Rattle.sets.specs.Sets.{has}
use Rattle.meaning.specs.Reaction.{TickSets, is_delay, alternative, triggered, eligible, ambiguous, restless, after_round}
use Rattle.reaction.specs.Facts.{alternative_by}

module _ (s : List ℕ) where
  -- why a triggered transition t is: 9 for a delay, else the lowest alternative that holds; by the words f, and by the sets z
  unfoldable pub cause_by : List ℕ → ℕ → ℕ
  cause_by f t = cond (is_delay s t) 9 (alternative_by s f t)

  unfoldable pub cause : ℕ → TickSets → ℕ → ℕ
  cause i z t = cond (is_delay s t) 9 (alternative s i z t)

  -- the number of transition t in the rounds from the triggered transitions ts on: as `fired_in`, but timers are due in the first round
  -- only
  unfoldable pub fired_by : ℕ → ℕ → TickSets → ℕ → ℕ → ℕ
  fired_by zero i z ts t = 0
  fired_by (suc f) i z ts t =
      let es = eligible s ts in
      let next = after_round s z es in
      let later = fired_by f i next (triggered s 0 i next) t in
      cond (eqb es 0 || ambiguous s es || restless s z es) 0 (cond (has es t) (cause i z t) later)
