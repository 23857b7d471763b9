-- Arrays of words that a loop fills: a row changed at one place, a copy, and a row changed at the members of a set. Assumes nothing.
use mathlib.Core.Path.{◌≡◌, sym, ◌∙◌}
use mathlib.Core.Bool.{cond}
use mathlib.Core.List.{List}
use Prim.Native.Nat.{ℕ, ◌+◌, ◌≤◌, ◌<◌}
use native.Mathlib.Decide.{ℕ_discrete}
use native.Mathlib.Numerals.{add-one}
use native.Mathlib.Omega.{arith}
use lib.ListN.{length, get_or, take, set, replicate, length-set, length-replicate, get_or-replicate}
use lib.Seq.{take_all, take-suc, take-suc-set, get_or-set_same, get_or-set_other}
use Rattle.sets.specs.Sets.{has}
use Rattle.sets.proofs.Membership.{has_none}
use Rattle.sets.proofs.Members.{Turn, without_it, without_other}
use Rattle.meaning.specs.Lists.{row_from}
use Rattle.meaning.proofs.ListLaws.{row_at, row_from_ext, row_from-length, row_from-get_or}

-- ---- a list by its words

pub row_of : (r : List ℕ) (n : ℕ) (f : ℕ → ℕ) → length r ≡ n → ((j : ℕ) → j < n → get_or r j 0 ≡ f j) → r ≡ row_from 0 n f
row_of r n f l e = rw l at (row_from-get_or r 0) ∙ row_from_ext (λ j. get_or r j 0) f 0 n (λ j a b. e j (omega arith))

-- a row of zeros
pub row_zeros : (n : ℕ) (f : ℕ → ℕ) → ((j : ℕ) → j < n → f j ≡ 0) → replicate n 0 ≡ row_from 0 n f
row_zeros n f e = row_of (replicate n 0) n f (length-replicate n 0) (λ j k. get_or-replicate n j 0 0 k ∙ sym (e j k))

-- storing g t at t gives the row of g, if f and g agree at the other places
pub row-set : (n : ℕ) (f g : ℕ → ℕ) (t : ℕ) → ((j : ℕ) → j < n → (j ≡ t → ⊥) → f j ≡ g j) → set (row_from 0 n f) t (g t) ≡ row_from 0 n g
row-set n f g t e = row_of (set (row_from 0 n f) t (g t)) n g (simp (length-set, row_from-length)) (λ j l. at j l (ℕ_discrete j t))
  where
    at : (j : ℕ) → j < n → Dec (j ≡ t) → get_or (set (row_from 0 n f) t (g t)) j 0 ≡ g j
    at j l (yes p) = rw p (get_or-set_same (row_from 0 n f) t (g t) 0 (omega (arith, row_from-length f 0 n)))
    at j l (no p) = get_or-set_other (row_from 0 n f) t j (g t) 0 p ∙ row_at n f j l ∙ e j l p

-- a list by its first words: storing the next one
pub words_turn : (r : List ℕ) (f : ℕ → ℕ) (t : ℕ) → t < length r → ((j : ℕ) → j < t → get_or r j 0 ≡ f j)
    → (j : ℕ) → j < t + 1 → get_or (set r t (f t)) j 0 ≡ f j
words_turn r f t l e j k = at (ℕ_discrete j t)
  where
    at : Dec (j ≡ t) → get_or (set r t (f t)) j 0 ≡ f j
    at (yes p) = rw p (get_or-set_same r t (f t) 0 l)
    at (no p) = get_or-set_other r t j (f t) 0 p ∙ e j (omega arith)

-- ---- a list copied word by word

pub copy_turn : (r l : List ℕ) (t : ℕ) → t < length r → t < length l → take t r ≡ take t l → take (t + 1) (set r t (get_or l t 0)) ≡ take (t + 1) l
copy_turn r l t h k e = rw (add-one, take-suc-set r t (get_or l t 0) h, take-suc l t 0 k, e)

pub copy_done : (r l : List ℕ) (t : ℕ) → length r ≤ t → length l ≤ t → take t r ≡ take t l → r ≡ l
copy_done r l t h k e = sym (take_all t r h) ∙ e ∙ take_all t l k

-- ---- a row with words by a rule at the members of a set

module _ (n : ℕ) (f : ℕ → ℕ) where
  -- the list r of n words, with f t at each member t of s
  abbrev pub filled : List ℕ → ℕ → List ℕ
  filled r s = row_from 0 n (λ t. cond (has s t) (f t) (get_or r t 0))

  -- storing it at the lowest member leaves the others to store
  pub filled_turn : {s t s' : ℕ} (r : List ℕ) → Turn n s t s' → length r ≡ n → filled (set r t (f t)) s' ≡ filled r s
  filled_turn {s} {t} {s'} r u e =
      row_from_ext (λ j. cond (has s' j) (f j) (get_or (set r t (f t)) j 0)) (λ j. cond (has s j) (f j) (get_or r j 0)) 0 n (λ j a b. at j (ℕ_discrete j t))
    where
      at : (j : ℕ) → Dec (j ≡ t) → cond (has s' j) (f j) (get_or (set r t (f t)) j 0) ≡ cond (has s j) (f j) (get_or r j 0)
      at j (yes p) =
          rw (p, u.removed, without_it s t, u.lowest.member) (get_or-set_same r t (f t) 0 (omega (arith, u.lowest.small)))
      at j (no p) = rw (u.removed, without_other s t j p, get_or-set_other r t j (f t) 0 p)

  pub filled_done : (r : List ℕ) (s : ℕ) → s ≡ 0 → length r ≡ n → r ≡ filled r s
  filled_done r s z e = row_of r n (λ t. cond (has s t) (f t) (get_or r t 0)) e (λ t l. rw (z, has_none t))

  pub filled_none : (s : ℕ) → filled (replicate n 0) s ≡ row_from 0 n (λ t. cond (has s t) (f t) 0)
  filled_none s =
      row_from_ext (λ t. cond (has s t) (f t) (get_or (replicate n 0) t 0)) (λ t. cond (has s t) (f t) 0) 0 n
      (λ j a b. rw (get_or-replicate {A = ℕ} n j 0 0 (omega arith)))
