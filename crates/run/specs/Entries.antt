-- Ages during a run, by the tick, counted from 1 in the call, in which the age of each mode reaches its limit. Assumes nothing.
use Rattle.std.specs.Prelude.{cond, List, ℕ, zero, suc, ◌+◌, ◌-◌, ◌*◌, get_or}
use Rattle.sets.specs.Sets.{has}
use Rattle.meaning.specs.Lists.{row_from}

-- the ages of the active modes after a tick
abbrev pub ages_by : List ℕ → ℕ → ℕ → List ℕ
ages_by limits active tick = row_from 0 32 (λ m. cond (has active m) (65535 - (get_or limits m 0 - tick)) 0)

-- the modes of a set are entered in a tick
abbrev pub entered_at : ℕ → ℕ → List ℕ → List ℕ
entered_at set tick limits = row_from 0 32 (λ m. cond (has set m) (tick + 65535) (get_or limits m 0))

-- mode m by the words of n ticks, those of tick p, counted from 0, at 5p: the last one that enters it
unfoldable pub limit_by : List ℕ → List ℕ → ℕ → ℕ → ℕ
limit_by limits out zero m = get_or limits m 0
limit_by limits out (suc p) m = cond (has (get_or out (5 * p) 0) m) (suc p + 65535) (limit_by limits out p m)

-- the modes of a set by the words of n ticks, the others as they stand
abbrev pub limits_by : List ℕ → List ℕ → ℕ → ℕ → List ℕ
limits_by limits out set n = row_from 0 32 (λ m. cond (has set m) (limit_by limits out n m) (get_or limits m 0))
