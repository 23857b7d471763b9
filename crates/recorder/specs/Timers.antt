-- What a table says of its timers, as a run works it out once. Assumes nothing.
use Rattle.std.specs.Prelude.{◌≡◌, not, ◌&&◌, cond, List, ℕ, ◌+◌, ◌<◌, ◌≤◌, eqb, ltb, length, get_or, drop}
use Rattle.sets.specs.Sets.{set_of}
use Rattle.meaning.specs.Table.{t_in, b_in, source_in, delay_in, timers_in}

module _ (w : List ℕ) where
  -- the delay of a timer, 0 for other transitions
  unfoldable pub timer_delay_in : ℕ → ℕ
  timer_delay_in t = cond (ltb t (t_in w)) (delay_in w t) 0

  -- the timers with source m, of the transitions below n
  unfoldable pub timers_below : ℕ → ℕ → ℕ
  timers_below n m = set_of n (λ t. ltb 0 (delay_in w t) && eqb (source_in w t) m)

  -- the timers with source m
  unfoldable pub timers_from : ℕ → ℕ
  timers_from m = timers_below (t_in w) m

  -- the running timers of each block, in as many words or more
  abbrev pub BlockTimers : List ℕ → Type 0
  BlockTimers timers = (b_in w ≤ length timers) × ((b : ℕ) → b < b_in w → get_or timers b 0 ≡ timers_in w b)

  -- what a run works out of the table, in lent words: the delays, the timers of each source, the sources, the timers of each block
  pub record Noted (notes : List ℕ) : Type 0 where
    pub delays : (t : ℕ) → t < 64 → get_or notes t 0 ≡ timer_delay_in t
    pub from : (m : ℕ) → m < 32 → get_or notes (64 + m) 0 ≡ timers_from m
    pub sources : get_or notes 96 0 ≡ set_of 32 (λ m. not (eqb (timers_from m) 0))
    pub blocks : BlockTimers (drop 97 notes)
