-- Document 02, Ask 10: the age of each mode. Assumes nothing.
use Rattle.std.specs.Prelude.{Bool, not, ◌&&◌, cond, List, ℕ, ◌+◌, min, eqb, leb, get_or, replicate}
use Rattle.sets.specs.Sets.{has, every, every_in}
use Rattle.meaning.specs.Lists.{row_from}

-- "Each state .. gains per mode the ticks since its last entry": 32 ages, those at n and above 0; the age of mode m
unfoldable pub age : List ℕ → ℕ → ℕ
age ages m = get_or ages m 0

-- those of the fresh state
unfoldable pub no_ages : List ℕ
no_ages = replicate 32 0

-- the ages after a tick that leaves these modes active (in a table run those of the next block's mask) and entered some: "0 in the
-- tick of entry, stopping at 65,535, and 0 for an inactive mode"; "a mode ages by one unless its cell enters it or the next block
-- lacks it"
unfoldable pub next_ages : ℕ → ℕ → List ℕ → List ℕ
next_ages modes entered ages =
    row_from 0 32 (λ m. cond (has modes m && not (has entered m)) (min 65535 (age ages m + 1)) 0)

-- 14 if not: "for sheet and table, an age above 65,535, or a nonzero one of an inactive mode or in the fresh state", which has no
-- active mode
unfoldable pub ages_ok : ℕ → List ℕ → Bool
ages_ok modes ages = every 32 (λ m. cond (has modes m) (leb (age ages m) 65535) (eqb (age ages m) 0))

-- 14 if not, for a sheet: "for every running timer .., reading plus age of its source is its delay"
unfoldable pub sums_ok : ℕ → (ℕ → ℕ) → (ℕ → ℕ) → (ℕ → ℕ) → List ℕ → Bool
sums_ok timers source_of delay_of reading_of ages = every_in 64 timers (λ t. eqb (reading_of t + age ages (source_of t)) (delay_of t))
