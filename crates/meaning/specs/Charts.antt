-- Sheets drawn from mode rows and records, and tables put together from blocks, for the examples. Assumes nothing.
use mathlib.Core.List.{List, [], ◌∷◌, ◌++◌, flatten}
use Rattle.std.specs.Prelude.{ℕ, ◌+◌, ◌*◌, length}
use Rattle.meaning.specs.Lists.{row_from}
use Rattle.meaning.specs.Compile.{pairs_from}

-- mode rows: "kind (0 atomic, 1 serial, 2 parallel), parent, first mode"
abbrev pub atomic : ℕ → List ℕ
atomic parent = 0 ∷ parent ∷ 0 ∷ []

abbrev pub serial : ℕ → ℕ → List ℕ
serial parent first = 1 ∷ parent ∷ first ∷ []

abbrev pub parallel : ℕ → List ℕ
parallel parent = 2 ∷ parent ∷ 0 ∷ []

-- term pairs: a delay of d ticks; event e present, absent; transition t taken
abbrev pub after : ℕ → List ℕ
after d = 0 ∷ d ∷ []

abbrev pub present : ℕ → List ℕ
present e = 1 ∷ e ∷ []

abbrev pub absent : ℕ → List ℕ
absent e = 2 ∷ e ∷ []

abbrev pub taken : ℕ → List ℕ
taken t = 6 ∷ t ∷ []

-- alternatives: the terms a, or the terms b
abbrev pub either : List ℕ → List ℕ → List ℕ
either a b = a ++ 7 ∷ 0 ∷ b

-- "A record is source, target, then term pairs"
abbrev pub transition : ℕ → ℕ → List ℕ → List ℕ
transition source target terms = source ∷ target ∷ terms

-- the sheet with k events, these mode rows and these records
abbrev pub sheet_of : ℕ → List (List ℕ) → List (List ℕ) → List ℕ
sheet_of k modes records =
    length modes ∷ k ∷ length records
    ∷ flatten modes ++ (pairs_from (3 + 3 * length modes + 2 * length records) records ++ flatten records)

-- r parallel regions, each with two modes, a timer of 1 tick from the first to the second and a delay of 0 back
abbrev pub rings : ℕ → List ℕ
rings r =
    sheet_of 0
    (parallel 0 ∷ row_from 0 r (λ i. serial 0 (1 + r + 2 * i)) ++ flatten (row_from 1 r (λ region. atomic region ∷ atomic region ∷ [])))
    (flatten (row_from 0 r (λ i.
    let a = 1 + r + 2 * i in
    transition a (a + 1) (after 1) ∷ transition (a + 1) a (after 0) ∷ [])))

-- the table with k events, these timer words and these blocks
abbrev pub table_of : ℕ → List ℕ → List (List ℕ) → List ℕ
table_of k timers blocks =
    1 ∷ k ∷ length timers ∷ length blocks
    ∷ timers ++ (pairs_from (4 + length timers + 2 * length blocks) blocks ++ flatten blocks)
