-- Which events of its input a tick depends on. Assumes nothing.
use Rattle.std.specs.Prelude.{◌≡◌, Bool, ◌&&◌, ◌||◌, List, ℕ, ◌<◌, T, eqb}
use Rattle.sets.specs.Sets.{has, some}
use Rattle.meaning.specs.Sheet.{t_of, source, term_count, term_kind, term_value}
use Rattle.meaning.specs.Tick.{tick}

module _ (s : List ℕ) where
  -- transition t names event e: one of its terms is "input event present, absent" of e
  unfoldable pub names : ℕ → ℕ → Bool
  names t e = some (term_count s t) (λ j. (eqb (term_kind s t j) 1 || eqb (term_kind s t j) 2) && eqb (term_value s t j) e)

-- a tick depends on its input only through the events named by transitions whose source was active in it: on two inputs that agree
-- on these the whole tick is the same, refusal, sets and rounds
unfoldable pub NamedEvents : Type 0
NamedEvents =
    (s : List ℕ) (x d i j : ℕ)
    → ((t e : ℕ) → t < t_of s → T (has (tick s x d i).sets.active (source s t)) → T (names s t e) → has i e ≡ has j e)
    → tick s x d i ≡ tick s x d j
