-- The sheet: a list of 32-bit words. Its layout, containment and the meeting mode, in the order of document 01. Assumes nothing.
use Rattle.std.specs.Prelude.{Bool, not, ◌&&◌, ◌||◌, cond, List, ℕ, zero, suc, ◌+◌, ◌-◌, ◌*◌, ◌/◌, eqb, ltb, get_or}

module _ (s : List ℕ) where
  unfoldable pub word : ℕ → ℕ
  word i = get_or s i 0

  -- "Word 0: n, modes. Word 1: k, input events. Word 2: T, transitions."
  unfoldable pub n_of : ℕ
  n_of = word 0

  unfoldable pub k_of : ℕ
  k_of = word 1

  unfoldable pub t_of : ℕ
  t_of = word 2

  -- "Three words per mode follow: kind (0 atomic, 1 serial, 2 parallel), parent, first mode."
  unfoldable pub kind : ℕ → ℕ
  kind m = word (3 + 3 * m)

  unfoldable pub parent : ℕ → ℕ
  parent m = word (4 + 3 * m)

  unfoldable pub first : ℕ → ℕ
  first m = word (5 + 3 * m)

  -- "Then T pairs of offset and length, sorted by offset and counted in words."
  unfoldable pub offset : ℕ → ℕ
  offset t = word (3 + 3 * n_of + 2 * t)

  unfoldable pub record_length : ℕ → ℕ
  record_length t = word (4 + 3 * n_of + 2 * t)

  -- "The first offset is 3 + 3n + 2T, each next one is the previous offset plus length": where record t must begin
  unfoldable pub end_before : ℕ → ℕ
  end_before zero = 3 + 3 * n_of + 2 * t_of
  end_before (suc t) = offset t + record_length t

  -- "A record is source, target, then term pairs (kind, value)": the ends of t, and its term j
  unfoldable pub source : ℕ → ℕ
  source t = word (offset t)

  unfoldable pub target : ℕ → ℕ
  target t = word (offset t + 1)

  unfoldable pub term_count : ℕ → ℕ
  term_count t = record_length t / 2 - 1

  unfoldable pub term_kind : ℕ → ℕ → ℕ
  term_kind t j = word (offset t + 2 + 2 * j)

  unfoldable pub term_value : ℕ → ℕ → ℕ
  term_value t j = word (offset t + 3 + 2 * j)

  -- "Mode 0 is the root, with parent 0, and is nobody's child": m is a child of p
  unfoldable pub is_child : ℕ → ℕ → Bool
  is_child p m = ltb 0 m && eqb (parent m) p

  -- a contains m: a is m, or a contains m's parent; f parents are looked at
  unfoldable pub contains_in : ℕ → ℕ → ℕ → Bool
  contains_in zero a m = eqb a m
  contains_in (suc f) a m = let r = contains_in f a (parent m) in eqb a m || r

  -- a parent has a lower number, so m steps reach the root
  unfoldable pub contains : ℕ → ℕ → Bool
  contains a m = contains_in m a m

  unfoldable pub strictly_contains : ℕ → ℕ → Bool
  strictly_contains a m = not (eqb a m) && contains a m

  -- the first of p, its parent, .. that strictly contains b
  unfoldable pub meeting_from : ℕ → ℕ → ℕ → ℕ
  meeting_from zero p b = p
  meeting_from (suc f) p b = let r = meeting_from f (parent p) b in cond (strictly_contains p b) p r

  -- "The *meeting mode* of two modes is the lowest mode strictly containing both."
  unfoldable pub meeting_of : ℕ → ℕ → ℕ
  meeting_of a b = meeting_from a (parent a) b

  -- a transition's own meeting mode, of its source and target
  unfoldable pub meeting : ℕ → ℕ
  meeting t = meeting_of (source t) (target t)
