-- Refusals 1 to 6, each judged over the whole sheet. Assumes nothing.
use Rattle.std.specs.Prelude.{Bool, false, not, ◌&&◌, ◌||◌, cond, List, [], ◌∷◌, ℕ, suc, ◌+◌, ◌*◌, ◌%◌, ◌^◌, eqb, leb, ltb, length}
use Rattle.sets.specs.Sets.{some, every}
use Rattle.meaning.specs.Lists.{all_of, first_of}
use Rattle.meaning.specs.Sheet.{n_of, k_of, t_of, kind, parent, first, is_child, offset, record_length, end_before, source, target, term_count, term_kind, term_value, contains, meeting}

module _ (s : List ℕ) where
  -- 1: "head missing or out of range, or fewer than 3 + 3n + 2T words"
  unfoldable pub head_ok : Bool
  head_ok =
      all_of
      (leb 3 (length s)
      ∷ leb 1 (n_of s)
      ∷ leb (n_of s) 32
      ∷ leb (k_of s) 6
      ∷ leb (t_of s) 64
      ∷ leb (3 + 3 * n_of s + 2 * t_of s) (length s)
      ∷ [])

  -- 2: "mode row". "Another mode's parent has a lower number and is not atomic. Every serial or parallel mode has a child.
  -- A serial mode's first mode is one of its children; for other kinds that word is 0."
  unfoldable pub mode_ok : ℕ → Bool
  mode_ok m =
      all_of
      (leb (kind s m) 2
      ∷ cond (eqb m 0) (eqb (parent s m) 0) (ltb (parent s m) m && not (eqb (kind s (parent s m)) 0))
      ∷ (eqb (kind s m) 0 || some (n_of s) (is_child s m))
      ∷ cond (eqb (kind s m) 1) (ltb (first s m) (n_of s) && is_child s m (first s m)) (eqb (first s m) 0)
      ∷ [])

  unfoldable pub modes_ok : Bool
  modes_ok = every (n_of s) mode_ok

  -- 3: "pair, or words after the modes with T = 0". "A length is even, 4 to 34"; "the last record ends the sheet".
  unfoldable pub pair_ok : ℕ → Bool
  pair_ok t =
      all_of
      (eqb (offset s t) (end_before s t)
      ∷ eqb (record_length s t % 2) 0
      ∷ leb 4 (record_length s t)
      ∷ leb (record_length s t) 34
      ∷ [])

  unfoldable pub pairs_ok : Bool
  pairs_ok = every (t_of s) pair_ok && eqb (end_before s (t_of s)) (length s)

  -- 4: "transition ends". "Source and target differ, neither contains the other, and their meeting mode is serial."
  unfoldable pub end_ok : ℕ → Bool
  end_ok t =
      all_of
      (ltb (source s t) (n_of s)
      ∷ ltb (target s t) (n_of s)
      ∷ not (contains s (source s t) (target s t))
      ∷ not (contains s (target s t) (source s t))
      ∷ eqb (kind s (meeting s t)) 1
      ∷ [])

  unfoldable pub ends_ok : Bool
  ends_ok = every (t_of s) end_ok

  -- 5: "term": what is asked of term j of transition t if its kind is c
  unfoldable pub kind_ok : ℕ → ℕ → ℕ → Bool
  kind_ok t j c =
      let v = term_value s t j in
      -- 0: "delay in ticks, 0 to 65,535; the only pair of its record"
      cond (eqb c 0) (eqb (term_count s t) 1 && leb v 65535)
      -- 1, 2: "input event present, absent"; "Events are below k"
      (cond (eqb c 1 || eqb c 2) (ltb v (k_of s))
      -- 3: "a mode mask, not 0, no bit at n or above"
      (cond (eqb c 3) (ltb 0 v && ltb v (2 ^ n_of s))
      -- 4, 5: "mode entered, mode exited"; "modes below n"
      (cond (eqb c 4 || eqb c 5) (ltb v (n_of s))
      -- 6: "transition (by number) taken"; "transitions below T"
      (cond (eqb c 6) (ltb v (t_of s))
      -- 7: an "or" has "value 0; never first, last or next to another": of two the first is refused
      (cond (eqb c 7) (eqb v 0 && ltb 0 j && ltb (suc j) (term_count s t) && not (eqb (term_kind s t (suc j)) 7))
      -- there is no other kind
      false)))))

  unfoldable pub term_ok : ℕ → ℕ → Bool
  term_ok t j = kind_ok t j (term_kind s t j)

  unfoldable pub terms_ok : Bool
  terms_ok = every (t_of s) (λ t. every (term_count s t) (term_ok t))

  -- 6: "shared ends". "Two transitions never share both source and target": an earlier one has both ends of t
  unfoldable pub shares_ends : ℕ → Bool
  shares_ends t = some t (λ u. eqb (source s u) (source s t) && eqb (target s u) (target s t))

  unfoldable pub distinct_ok : Bool
  distinct_ok = not (some (t_of s) shares_ends)

  -- "The lowest that applies is given, before anything else"; 0 if none applies
  unfoldable pub sheet_refusal : ℕ
  sheet_refusal = first_of 1 (not head_ok ∷ not modes_ok ∷ not pairs_ok ∷ not ends_ok ∷ not terms_ok ∷ not distinct_ok ∷ [])
