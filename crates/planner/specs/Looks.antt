-- What the terms of transitions are about: events, modes entered or active, modes exited, transitions taken; and words of transitions by
-- it. Assumes nothing.
use Rattle.std.specs.Prelude.{◌≡◌, Bool, ◌&&◌, ◌||◌, List, ℕ, ◌<◌, eqb, ltb, get_or}
use Rattle.sets.specs.Sets.{has, single, set_of, some}
use Rattle.meaning.specs.Sheet.{n_of, t_of, source, contains, term_count, term_kind, term_value}
use Rattle.meaning.specs.NamedEvents.{names}
use Rattle.reaction.specs.Plan.{named_in}
use Rattle.planner.specs.Parts.{from_of}

-- a term of kind c and value v is about event e; about mode m, entered or active; about mode m, exited; about transition t, taken
abbrev pub on_event : ℕ → ℕ → ℕ → Bool
on_event c v e = (eqb c 1 || eqb c 2) && eqb v e

abbrev pub on_entry : ℕ → ℕ → ℕ → Bool
on_entry c v m = (eqb c 3 && has v m) || (eqb c 4 && eqb v m)

abbrev pub on_exit : ℕ → ℕ → ℕ → Bool
on_exit c v m = eqb c 5 && eqb v m

abbrev pub on_taken : ℕ → ℕ → ℕ → Bool
on_taken c v t = eqb c 6 && eqb v t

-- transition t is added to the words of the members of a set
abbrev pub AddedTo : List ℕ → List ℕ → ℕ → ℕ → Type 0
AddedTo old new set t = (k i : ℕ) → has (get_or new k 0) i ≡ (has (get_or old k 0) i || (has set k && eqb i t))

-- to each word i of a list are added those of the first n transitions that pass a test of transition and i
abbrev pub Added : (ℕ → ℕ → Bool) → ℕ → List ℕ → List ℕ → Type 0
Added looks n old new = (i u : ℕ) → has (get_or new i 0) u ≡ (has (get_or old i 0) u || (ltb u n && looks u i))

module _ (s : List ℕ) where
  -- one of the first n terms of u passes a test of kind, value and number
  abbrev pub some_term : (ℕ → ℕ → ℕ → Bool) → ℕ → ℕ → ℕ → Bool
  some_term on u n i = some n (λ j. on (term_kind s u j) (term_value s u j) i)

  -- four words are what the first n terms of u are about
  pub record LooksTo (u n es ms xs ts : ℕ) : Type 0 where
    pub events : (e : ℕ) → has es e ≡ some_term on_event u n e
    pub entry : (m : ℕ) → has ms m ≡ some_term on_entry u n m
    pub exit : (m : ℕ) → has xs m ≡ some_term on_exit u n m
    pub taken : (t : ℕ) → has ts t ≡ some_term on_taken u n t

  -- u has a term about the entry of m; about the exit of m; about t taken
  unfoldable pub looks_entry : ℕ → ℕ → Bool
  looks_entry u m = some_term on_entry u (term_count s u) m

  unfoldable pub looks_exit : ℕ → ℕ → Bool
  looks_exit u m = some_term on_exit u (term_count s u) m

  unfoldable pub looks_taken : ℕ → ℕ → Bool
  looks_taken u t = some_term on_taken u (term_count s u) t

  -- the transitions with a term about t taken; the events that transitions with source m name
  unfoldable pub taken_of : ℕ → ℕ
  taken_of t = set_of (t_of s) (λ u. looks_taken u t)

  abbrev pub named_of : ℕ → ℕ
  named_of m = named_in s (single m)

  -- what the first n transitions add: to the words of the events named, which were 0, to those of each mode's entry and exit and of
  -- each transition taken, and which events they name
  pub record LookedTo (n : ℕ) (named entry₀ entry exit₀ exit next₀ next : List ℕ) (all : ℕ) : Type 0 where
    pub names_at : (m e : ℕ) → has (get_or named m 0) e ≡ some n (λ u. has (single m) (source s u) && names s u e)
    pub entries : Added looks_entry n entry₀ entry
    pub exits : Added looks_exit n exit₀ exit
    pub takes : Added looks_taken n next₀ next
    pub events : (e : ℕ) → has all e ≡ some n (λ u. names s u e)

module _ (s : List ℕ) where
  -- word m is the set of the transitions with source m or with a term about its entry; those with a term about the exit of a mode that m
  -- contains
  unfoldable pub EntryWords : List ℕ → Type 0
  EntryWords words = (m u : ℕ) → m < 32 → has (get_or words m 0) u ≡ (has (from_of s m) u || (ltb u (t_of s) && looks_entry s u m))

  unfoldable pub ExitWords : List ℕ → Type 0
  ExitWords words =
      (p u : ℕ) → p < n_of s → has (get_or words p 0) u ≡ (ltb u (t_of s) && some (n_of s) (λ m. contains s p m && looks_exit s u m))
