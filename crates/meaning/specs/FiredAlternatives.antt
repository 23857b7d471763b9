-- Document 02, Ask 5: what is promised of the numbers of the alternatives that fired. Assumes nothing.
use Rattle.std.specs.Prelude.{◌≡◌, ◌⊎◌, true, false, List, ℕ, ◌+◌, ◌*◌, ◌^◌, ◌≤◌, ◌<◌, ltb, get_or}
use Rattle.sets.specs.Sets.{has}
use Rattle.meaning.specs.Check.{sheet_refusal}
use Rattle.meaning.specs.Reaction.{is_delay}
use Rattle.meaning.specs.Tick.{tick}
use Rattle.meaning.specs.Alternatives.{fired}
use Rattle.meaning.specs.Run.{State}
use Rattle.meaning.specs.SheetRun.{sheet_run}

-- a number is not 0 exactly for a transition that is taken
unfoldable pub FiredTaken : Type 0
FiredTaken = (s : List ℕ) (x d i t : ℕ) → ltb 0 (fired s x d i t) ≡ has (tick s x d i).sets.taken t

-- "the alternative from 1 to 8 .., or 9 for a delay"
unfoldable pub FiredRange : Type 0
FiredRange =
    (s : List ℕ) → sheet_refusal s ≡ 0 → (x d i t : ℕ)
    → (is_delay s t ≡ true → (fired s x d i t ≡ 0) ⊎ (fired s x d i t ≡ 9)) × (is_delay s t ≡ false → fired s x d i t ≤ 8)

-- of a run, for each done tick p: the number at 64p + t is not 0 exactly where the taken words, at 5p + 3 and 5p + 4, have bit t
unfoldable pub NumbersTaken : Type 0
NumbersTaken =
    (s : List ℕ) (q : State) (inputs out numbers : List ℕ) (p t : ℕ) → t < 64
    → let o = sheet_run s q inputs out numbers in p < o.run.done
    → ltb 0 (get_or o.numbers (64 * p + t) 0)
    ≡ has (get_or o.run.out (5 * p + 3) 0 + 2 ^ 32 * get_or o.run.out (5 * p + 4) 0) t
