-- What a reader of a sheet's words asks for: that the words it looks at are there. Assumes nothing.
use Rattle.std.specs.Prelude.{List, ℕ, ◌<◌, T}
use Rattle.meaning.specs.Sheet.{n_of, t_of, term_count}
use Rattle.meaning.specs.Check.{head_ok, modes_ok, pairs_ok}

-- the row of mode m
pub record Row (s : List ℕ) (m : ℕ) : Type 0 where
  pub head : T (head_ok s)
  pub mode : m < n_of s

-- the pair of transition t
pub record Pair (s : List ℕ) (t : ℕ) : Type 0 where
  pub head : T (head_ok s)
  pub transition : t < t_of s

-- the record of transition t
pub record Record (s : List ℕ) (t : ℕ) : Type 0 where
  pub head : T (head_ok s)
  pub pairs : T (pairs_ok s)
  pub transition : t < t_of s

-- term j of transition t
pub record Term (s : List ℕ) (t j : ℕ) : Type 0 where
  pub head : T (head_ok s)
  pub pairs : T (pairs_ok s)
  pub transition : t < t_of s
  pub term : j < term_count s t

-- the mode tree
pub record Tree (s : List ℕ) : Type 0 where
  pub head : T (head_ok s)
  pub modes : T (modes_ok s)
