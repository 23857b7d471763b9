-- A list with a row of words put over it. Assumes nothing.
use Rattle.std.specs.Prelude.{List, [], ◌∷◌, ◌++◌, ℕ, ◌+◌, length, take, drop, replicate}
use Rattle.rows.specs.declared.Three.{Three}
use Rattle.rows.specs.declared.Five.{Five}
use Rattle.rows.specs.declared.Six.{Six}

-- the list, with `vs` in the place of as many words from `at` on
unfoldable pub over : List ℕ → ℕ → List ℕ → List ℕ
over l at vs = take at l ++ vs ++ drop (at + length vs) l

-- a row of n zeros
unfoldable pub zeros : ℕ → List ℕ
zeros n = replicate n 0

-- the words of a struct, in order
abbrev pub three_of : Three → List ℕ
three_of w = w.mask ∷ w.low ∷ w.high ∷ []

abbrev pub five_of : Five → List ℕ
five_of w = w.entered ∷ w.exited ∷ w.active ∷ w.low ∷ w.high ∷ []

abbrev pub six_of : Six → List ℕ
six_of w = w.next ∷ five_of w.five
