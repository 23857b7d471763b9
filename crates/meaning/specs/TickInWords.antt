-- A tick in document 01's own words, with the readings among what a round changes. The promise `InWords` says that it is the
-- tick of `Tick`. Assumes nothing.
use Rattle.std.specs.Prelude.{not, ◌||◌, cond, List, ℕ, zero, suc, ◌-◌, eqb, ltb, get_or}
use Rattle.sets.specs.Sets.{has, set_of}
use Rattle.meaning.specs.Lists.{row_from}
use Rattle.meaning.specs.Sheet.{t_of, source}
use Rattle.meaning.specs.Reaction.{TickSets, is_delay, delay, running, alternative, eligible, ambiguous, restless, entering, after_round}
use Rattle.meaning.specs.Tick.{Tick, begin}
use Rattle.meaning.specs.Ages.{next_ages}
use Rattle.meaning.specs.Run.{State, reading}

-- a tick, and the readings after it
pub record Timed : Type 0 where
  pub tick : Tick
  pub readings : List ℕ

unfoldable pub timed : ℕ → TickSets → List ℕ → ℕ → Timed
timed e z readings r = record { tick = record { refusal = e; sets = z; rounds = r }; readings = readings }

module _ (s : List ℕ) where
  -- "With its source active, a delay transition is triggered at reading 0 (a delay of 0 always is), any other when its terms
  -- hold"
  unfoldable pub trigger_at : ℕ → TickSets → List ℕ → ℕ → ℕ
  trigger_at i z readings t =
      cond (not (has z.modes (source s t))) 0
      (cond (is_delay s t) (cond (eqb (delay s t) 0 || eqb (get_or readings t 0) 0) 9 0) (alternative s i z t))

  unfoldable pub chosen_at : ℕ → TickSets → List ℕ → ℕ
  chosen_at i z readings = eligible s (set_of (t_of s) (λ t. ltb 0 (trigger_at i z readings t)))

  -- "A timer whose source is entered gets its delay again": the readings after the modes x are entered
  unfoldable pub restarted : ℕ → List ℕ → List ℕ
  restarted x readings = row_from 0 64 (λ t. cond (has (running s x) t) (delay s t) (get_or readings t 0))

  unfoldable pub timed_from : ℕ → ℕ → TickSets → List ℕ → ℕ → Timed
  timed_from zero i z readings r = timed 0 z readings r
  timed_from (suc f) i z readings r =
      let es = chosen_at i z readings in
      let on = timed_from f i (after_round s z es) (restarted (entering s es) readings) (suc r) in
      cond (eqb es 0) (timed 0 z readings r)
      (cond (ambiguous s es) (timed 8 z readings r)
      (cond (restless s z es) (timed 9 z readings r) on))

  -- "First tick: .. timers with an active source start at their delay"; "Every other tick: each running reading drops by 1"
  unfoldable pub start_readings : State → List ℕ
  start_readings q =
      row_from 0 64 (λ t. cond (has (running s (begin s q.at).modes) t) (cond (eqb q.at 0) (delay s t) (reading q.readings t - 1)) 0)

  unfoldable pub timed_tick : State → ℕ → Timed
  timed_tick q i = timed_from (suc (t_of s)) i (begin s q.at) (start_readings q) 0

  -- the state after it: a timer "runs while its source is active; every other reading is 0"
  unfoldable pub timed_state : State → ℕ → State
  timed_state q i =
      let o = timed_tick q i in
      record {
        at = o.tick.sets.modes;
        readings = row_from 0 64 (λ t. cond (has (running s o.tick.sets.modes) t) (get_or o.readings t 0) 0);
        ages = next_ages o.tick.sets.modes o.tick.sets.entered q.ages;
      }
