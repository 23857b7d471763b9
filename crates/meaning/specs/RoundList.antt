-- The rounds of a tick as a list, for what is asked of each of them. Assumes nothing.
use Rattle.std.specs.Prelude.{◌≡◌, Bool, not, ◌||◌, cond, List, [], ◌∷◌, ℕ, zero, suc, eqb, length}
use Rattle.meaning.specs.Sheet.{t_of}
use Rattle.meaning.specs.Reaction.{TickSets, ambiguous, restless, after_round}
use Rattle.meaning.specs.Tick.{begin, chosen, tick}

module _ (s : List ℕ) where
  -- a round is taken from the sets z: some transition is eligible, and it is neither ambiguous nor restless
  unfoldable pub takes_round : ℕ → ℕ → TickSets → Bool
  takes_round d i z = let es = chosen s d i z in not (eqb es 0 || ambiguous s es || restless s z es)

  -- the sets as each round began that is taken, of at most f rounds from the sets z: as `rounds_from`
  unfoldable pub round_list : ℕ → ℕ → ℕ → TickSets → List TickSets
  round_list zero d i z = []
  round_list (suc f) d i z =
      let on = z ∷ round_list f d i (after_round s z (chosen s d i z)) in
      cond (takes_round d i z) on []

  -- of the tick from the mode set x with the due timers d on the input i
  unfoldable pub tick_rounds : ℕ → ℕ → ℕ → List TickSets
  tick_rounds x d i = round_list (suc (t_of s)) d i (begin s x)

-- the list has the tick's rounds, none more and none fewer
unfoldable pub RoundsListed : Type 0
RoundsListed = (s : List ℕ) (x d i : ℕ) → length (tick_rounds s x d i) ≡ (tick s x d i).rounds
