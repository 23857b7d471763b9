-- Document 02, Ask 5: name the alternative that fired. Assumes nothing.
use Rattle.std.specs.Prelude.{Bool, cond, List, [], ◌∷◌, ℕ, ◌*◌, ltb, length}
use Rattle.sets.specs.Sets.{has}
use Rattle.meaning.specs.Lists.{row_from}
use Rattle.meaning.specs.Reaction.{TickSets, trigger}
use Rattle.meaning.specs.Tick.{chosen}
use Rattle.meaning.specs.RoundList.{tick_rounds}

-- 12: "fewer than 64 per input set"
unfoldable pub numbers_short : List ℕ → List ℕ → Bool
numbers_short inputs numbers = ltb (length numbers) (64 * length inputs)

module _ (s : List ℕ) where
  -- the number of transition t in a tick with these rounds, due timers d and input i: "0 if not taken, the alternative from 1 to 8 in
  -- the round that took it, or 9 for a delay". `trigger` says which alternative holds, "the lowest if several do".
  unfoldable pub fired_in : ℕ → ℕ → List TickSets → ℕ → ℕ
  fired_in d i [] t = 0
  fired_in d i (z ∷ zs) t =
      let later = fired_in d i zs t in
      cond (has (chosen s d i z) t) (trigger s d i z t) later

  unfoldable pub fired : ℕ → ℕ → ℕ → ℕ → ℕ
  fired x d i t = fired_in d i (tick_rounds s x d i) t

  -- "These 64 numbers, 0 at T and above", "in transition order"
  unfoldable pub tick_numbers : ℕ → ℕ → ℕ → List ℕ
  tick_numbers x d i = row_from 0 64 (fired x d i)
