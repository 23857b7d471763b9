-- What a term is judged on, as words: one for each kind of term. Assumes nothing.
use Rattle.std.specs.Prelude.{Bool, true, ◌&&◌, cond, List, [], ◌∷◌, ℕ, zero, suc, ◌-◌, ◌^◌, eqb, get_or}
use Rattle.sets.specs.Sets.{has, meets}
use Rattle.meaning.specs.Sheet.{term_count, term_kind, term_value}
use Rattle.meaning.specs.Reaction.{TickSets}

-- the words at the numbers of the kinds: the input, what is not in it, and the sets as the round began
abbrev pub facts_of : ℕ → TickSets → List ℕ
facts_of i z = 0 ∷ i ∷ (2 ^ 32 - 1 - i) ∷ z.active ∷ z.entered ∷ z.exited ∷ z.taken ∷ 0 ∷ []

-- the most that these words can be before anything is entered, exited or taken: every event and what is not in the input, every mode
abbrev pub open_facts : List ℕ
open_facts = 0 ∷ (2 ^ 64 - 1) ∷ (2 ^ 64 - 1) ∷ (2 ^ 64 - 1) ∷ 0 ∷ 0 ∷ 0 ∷ 0 ∷ []

-- a term of kind c and value v holds by the words f
unfoldable pub holds_by : List ℕ → ℕ → ℕ → Bool
holds_by f c v = cond (eqb c 3) (meets v (get_or f 3 0)) (has (get_or f c 0) v)

-- the lowest alternative of transition t that holds by the words f, 0 if none: as `alternative`
unfoldable pub alternative_by_from : List ℕ → List ℕ → ℕ → ℕ → ℕ → ℕ → Bool → ℕ
alternative_by_from s f t zero j a ok = cond ok a 0
alternative_by_from s f t (suc w) j a ok =
    let next = alternative_by_from s f t w (suc j) (suc a) true in
    let same = alternative_by_from s f t w (suc j) a (ok && holds_by f (term_kind s t j) (term_value s t j)) in
    cond (eqb (term_kind s t j) 7) (cond ok a next) same

unfoldable pub alternative_by : List ℕ → List ℕ → ℕ → ℕ
alternative_by s f t = alternative_by_from s f t (term_count s t) 0 1 true
