-- Document 02, Ask 2: which of two triggered transitions gives way. Assumes nothing.
use Rattle.std.specs.Prelude.{Bool, List, ℕ}
use Rattle.meaning.specs.Sheet.{strictly_contains, meeting}

module _ (s : List ℕ) where
  -- "a triggered transition gives way to a triggered one whose meeting mode strictly contains its own": t gives way to u
  unfoldable pub gives_way : ℕ → ℕ → Bool
  gives_way t u = strictly_contains s (meeting s u) (meeting s t)
