-- A sheet's mode tree as masks, one word for each mode. Assumes nothing.
use Rattle.std.specs.Prelude.{◌≡◌, List, ℕ, ◌<◌, get_or}
use Rattle.sets.specs.Sets.{set_of}
use Rattle.meaning.specs.Sheet.{n_of, contains}
use Rattle.meaning.specs.Hierarchy.{children}
use Rattle.meaning.specs.Within.{within}

-- the modes that contain m
unfoldable pub containers : List ℕ → ℕ → ℕ
containers s m = set_of (n_of s) (λ p. contains s p m)

-- word p is the set of the children of p; of the modes strictly within p; of the modes that contain p
unfoldable pub Children : List ℕ → List ℕ → Type 0
Children s words = (p : ℕ) → p < 32 → get_or words p 0 ≡ children s p

unfoldable pub Containers : List ℕ → List ℕ → Type 0
Containers s words = (p : ℕ) → p < n_of s → get_or words p 0 ≡ containers s p

unfoldable pub Withins : List ℕ → List ℕ → Type 0
Withins s words = (p : ℕ) → p < n_of s → get_or words p 0 ≡ within s p
