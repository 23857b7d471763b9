-- A tree keeps what its masks are as facts that have one proof each. Assumes nothing.
use Rattle.std.specs.Prelude.{List, ℕ}
use native.Mathlib.Nat.{ℕ_set}
use Rattle.sheet.specs.Masks.{Children, Containers, Withins}

module _ (s words : List ℕ) where
  pub Children-prop : IsProp (Children s words)
  unfolding Children
  Children-prop = hlevel ℕ_set

  pub Withins-prop : IsProp (Withins s words)
  unfolding Withins
  Withins-prop = hlevel ℕ_set

  pub Containers-prop : IsProp (Containers s words)
  unfolding Containers
  Containers-prop = hlevel ℕ_set
