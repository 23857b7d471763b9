-- The order in which the code serves turns: several turns of one station after the other, in place of as many passes. Assumes nothing.
use Rattle.std.specs.Prelude.{List, ℕ, zero, suc}
use Rattle.sets.specs.Sets.{digit}
use Rattle.meaning.specs.Lists.{sum_to}
use Rattle.meaning.specs.Stations.{Standing, station_at, has_work, turn}

-- how many of the first m stations have work
unfoldable pub working_below : ℕ → Standing → ℕ
working_below m a = sum_to m (λ i. digit (has_work (station_at a i)))

-- w: the table; inputs: the input list
module _ (w inputs : List ℕ) where
  -- p turns of station m
  unfoldable pub turns_of : ℕ → ℕ → Standing → Standing
  turns_of zero m a = a
  turns_of (suc p) m a = turns_of p m (turn w inputs m a)

  -- a sweep: p turns for each of r stations from m on
  unfoldable pub sweep_from : ℕ → ℕ → ℕ → Standing → Standing
  sweep_from p zero m a = a
  sweep_from p (suc r) m a = sweep_from p r (suc m) (turns_of p m a)
