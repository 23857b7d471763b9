-- The table's layout, and refusal 15 before a run. Assumes nothing.
use Rattle.std.specs.Prelude.{Bool, not, ◌&&◌, ◌||◌, cond, List, [], ◌∷◌, ℕ, zero, suc, ◌+◌, ◌*◌, ◌/◌, ◌%◌, ◌^◌, eqb, leb, ltb, length, get_or}
use Rattle.sets.specs.Sets.{size, every, every_in}
use Rattle.meaning.specs.Lists.{all_of}

module _ (w : List ℕ) where
  unfoldable pub word_in : ℕ → ℕ
  word_in i = get_or w i 0

  -- "Words: 1, k, T, B (blocks, 1 to 4,096)"
  unfoldable pub k_in : ℕ
  k_in = word_in 1

  unfoldable pub t_in : ℕ
  t_in = word_in 2

  unfoldable pub b_in : ℕ
  b_in = word_in 3

  -- "T words, source times 65,536 plus delay for a timer, else 0"
  unfoldable pub source_in : ℕ → ℕ
  source_in t = word_in (4 + t) / 65536

  unfoldable pub delay_in : ℕ → ℕ
  delay_in t = word_in (4 + t) % 65536

  -- "B pairs of offset and length, sorted by offset, without gaps"
  unfoldable pub offset_in : ℕ → ℕ
  offset_in b = word_in (4 + t_in + 2 * b)

  unfoldable pub length_in : ℕ → ℕ
  length_in b = word_in (5 + t_in + 2 * b)

  -- where block b must begin
  unfoldable pub end_before_in : ℕ → ℕ
  end_before_in zero = 4 + t_in + 2 * b_in
  end_before_in (suc b) = offset_in b + length_in b

  -- "A block is a mode mask, its running timers (low word for transitions 0 to 31, then high word), then cells."
  unfoldable pub mask_in : ℕ → ℕ
  mask_in b = word_in (offset_in b)

  unfoldable pub timers_in : ℕ → ℕ
  timers_in b = word_in (offset_in b + 2) * 2 ^ 32 + word_in (offset_in b + 1)

  -- "With a timers there are 2^(a+k) cells"
  unfoldable pub cells_in : ℕ → ℕ
  cells_in b = 2 ^ (size 64 (timers_in b) + k_in)

  -- "A cell is six words: next block, entered, exited, active, taken low, taken high": word j of cell c of block b
  unfoldable pub cell_word : ℕ → ℕ → ℕ → ℕ
  cell_word b c j = word_in (offset_in b + 3 + 6 * c + j)

  -- "timer words (neither 0 nor a source below 32 with a delay)"
  unfoldable pub timer_ok : ℕ → Bool
  timer_ok t = eqb (word_in (4 + t)) 0 || ltb (source_in t) 32 && ltb 0 (delay_in t)

  -- "a mask of 0 outside block 0, a mask or timers other than 0 in block 0, .. timers (more than 6, at T or above, or without
  -- a delay) or a next block (0, or B and above)"
  unfoldable pub block_ok : ℕ → Bool
  block_ok b =
      all_of
      (cond (eqb b 0) (eqb (mask_in b) 0 && eqb (timers_in b) 0) (not (eqb (mask_in b) 0))
      ∷ leb (size 64 (timers_in b)) 6
      ∷ every_in 64 (timers_in b) (λ t. ltb t t_in && ltb 0 (delay_in t))
      ∷ eqb (length_in b) (3 + 6 * cells_in b)
      ∷ every (cells_in b) (λ c. ltb 0 (cell_word b c 0) && ltb (cell_word b c 0) b_in)
      ∷ [])

  -- 15 if not: word 0, k, T, B, length, timer words, pairs, blocks
  unfoldable pub table_ok : Bool
  table_ok =
      all_of
      (leb 4 (length w)
      ∷ eqb (word_in 0) 1
      ∷ leb k_in 6
      ∷ leb t_in 64
      ∷ leb 1 b_in
      ∷ leb b_in 4096
      ∷ leb (4 + t_in + 2 * b_in) (length w)
      ∷ every t_in timer_ok
      ∷ every b_in (λ b. eqb (offset_in b) (end_before_in b))
      ∷ eqb (end_before_in b_in) (length w)
      ∷ every b_in block_ok
      ∷ [])
