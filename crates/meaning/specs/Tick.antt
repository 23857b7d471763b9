-- A tick: how it begins, its rounds, its five words. Assumes nothing.
use Rattle.std.specs.Prelude.{cond, List, [], ◌∷◌, ℕ, zero, suc, ◌/◌, ◌%◌, ◌^◌, eqb}
use Rattle.sets.specs.Sets.{single}
use Rattle.meaning.specs.Sheet.{t_of}
use Rattle.meaning.specs.Hierarchy.{complete}
use Rattle.meaning.specs.Reaction.{TickSets, triggered, eligible, ambiguous, restless, after_round}

-- refusal 0, 8 or 9; the sets after the tick (as a refused round began); how many rounds it had
pub record Tick : Type 0 where
  pub refusal : ℕ
  pub sets : TickSets
  pub rounds : ℕ

-- the five words of a tick: entered, exited, active, taken low, taken high
unfoldable pub five_words : TickSets → List ℕ
five_words z = z.entered ∷ z.exited ∷ z.active ∷ z.taken % 2 ^ 32 ∷ z.taken / 2 ^ 32 ∷ []

module _ (s : List ℕ) where
  -- the sets before the first round from the mode set x; set 0 is power-on. "First tick: the root is completed, .. all these
  -- modes count as entered and active, none as exited, no transition as taken. Every other tick: .. the entered, exited and
  -- taken sets are empty; the active set is the current modes."
  unfoldable pub begin : ℕ → TickSets
  begin x =
      let y = complete s (single 0) in
      cond (eqb x 0)
      (record { modes = y; entered = y; exited = 0; active = y; taken = 0 })
      (record { modes = x; entered = 0; exited = 0; active = x; taken = 0 })

  -- the eligible transitions of a round with due timers d, input i and sets z as the round began
  unfoldable pub chosen : ℕ → ℕ → TickSets → ℕ
  chosen d i z = eligible s (triggered s d i z)

  -- at most f rounds from the sets z, after r rounds: "Rounds end when none is eligible."
  unfoldable pub rounds_from : ℕ → ℕ → ℕ → TickSets → ℕ → Tick
  rounds_from zero d i z r = record { refusal = 0; sets = z; rounds = r }
  rounds_from (suc f) d i z r =
      let es = chosen d i z in
      let on = rounds_from f d i (after_round s z es) (suc r) in
      cond (eqb es 0) (record { refusal = 0; sets = z; rounds = r })
      (cond (ambiguous s es) (record { refusal = 8; sets = z; rounds = r })
      (cond (restless s z es) (record { refusal = 9; sets = z; rounds = r }) on))

  -- the tick from the mode set x with the due timers d on the input i. Each round takes a transition not taken before: at most T
  -- rounds and one last look
  unfoldable pub tick : ℕ → ℕ → ℕ → Tick
  tick x d i = rounds_from (suc (t_of s)) d i (begin x) 0
