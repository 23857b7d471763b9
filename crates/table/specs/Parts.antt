-- Parts of `table_ok`, in the order in which the code tests them. Assumes nothing.
use Rattle.std.specs.Prelude.{Bool, not, ◌&&◌, cond, List, [], ◌∷◌, ℕ, ◌+◌, ◌*◌, eqb, leb, ltb, length, get_or}
use Rattle.sets.specs.Sets.{size, set_of, every, every_in}
use Rattle.meaning.specs.Lists.{all_of}
use Rattle.meaning.specs.Table.{word_in, k_in, t_in, b_in, delay_in, offset_in, length_in, end_before_in, mask_in, timers_in, cells_in, cell_word, timer_ok}

-- word 0, k, T and B, and as many words as timer words and pairs take
unfoldable pub table_head_ok : List ℕ → Bool
table_head_ok w =
    all_of
    (leb 4 (length w)
    ∷ eqb (word_in w 0) 1
    ∷ leb (k_in w) 6
    ∷ leb (t_in w) 64
    ∷ leb 1 (b_in w)
    ∷ leb (b_in w) 4096
    ∷ leb (4 + t_in w + 2 * b_in w) (length w)
    ∷ [])

-- each block begins where the one before ends, and the last ends the table
unfoldable pub table_pairs_ok : List ℕ → Bool
table_pairs_ok w = every (b_in w) (λ b. eqb (offset_in w b) (end_before_in w b)) && eqb (end_before_in w (b_in w)) (length w)

-- what stands before the blocks: the head, the timer words and the pairs
abbrev pub preamble_ok : List ℕ → Bool
preamble_ok w = table_head_ok w && every (t_in w) (timer_ok w) && table_pairs_ok w

-- the transitions with a delay
unfoldable pub delayed_in : List ℕ → ℕ
delayed_in w = set_of (t_in w) (λ t. ltb 0 (delay_in w t))

-- the next block of cell c of a row of cells is neither 0 nor at B or above
unfoldable pub next_ok : List ℕ → ℕ → ℕ → Bool
next_ok cells blocks c = ltb 0 (get_or cells (6 * c) 0) && ltb (get_or cells (6 * c) 0) blocks

-- block b but for its next blocks: mask, timers and length
unfoldable pub block_head_ok : List ℕ → ℕ → Bool
block_head_ok w b =
    all_of
    (cond (eqb b 0) (eqb (mask_in w b) 0 && eqb (timers_in w b) 0) (not (eqb (mask_in w b) 0))
    ∷ leb (size 64 (timers_in w b)) 6
    ∷ every_in 64 (timers_in w b) (λ t. ltb t (t_in w) && ltb 0 (delay_in w t))
    ∷ eqb (length_in w b) (3 + 6 * cells_in w b)
    ∷ [])

-- the next block of cell c of block b is there
abbrev pub next_there : List ℕ → ℕ → ℕ → Bool
next_there w b c = ltb 0 (cell_word w b c 0) && ltb (cell_word w b c 0) (b_in w)

-- the next blocks of block b
unfoldable pub next_blocks_ok : List ℕ → ℕ → Bool
next_blocks_ok w b = every (cells_in w b) (next_there w b)

-- the layout but for next blocks
unfoldable pub shape_ok : List ℕ → Bool
shape_ok w = preamble_ok w && every (b_in w) (block_head_ok w)

-- the next blocks of all blocks
unfoldable pub nexts_ok : List ℕ → Bool
nexts_ok w = every (b_in w) (next_blocks_ok w)
