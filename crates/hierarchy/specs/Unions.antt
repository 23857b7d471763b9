-- A word for each mode, and the unions of these words over the modes within each mode and over those that contain it. Assumes nothing.
use Rattle.std.specs.Prelude.{◌≡◌, ◌&&◌, List, ℕ, ◌<◌, get_or}
use Rattle.sets.specs.Sets.{has, some}
use Rattle.meaning.specs.Sheet.{n_of, contains}

-- bit i of word p is in a word of a mode that p contains
unfoldable pub UnionWithin : List ℕ → List ℕ → List ℕ → Type 0
UnionWithin s words unions =
    (p i : ℕ) → p < n_of s → has (get_or unions p 0) i ≡ some (n_of s) (λ m. contains s p m && has (get_or words m 0) i)

-- bit i of word p is in a word of a mode that contains p
unfoldable pub UnionContainers : List ℕ → List ℕ → List ℕ → Type 0
UnionContainers s words unions =
    (p i : ℕ) → p < n_of s → has (get_or unions p 0) i ≡ some (n_of s) (λ m. contains s m p && has (get_or words m 0) i)
