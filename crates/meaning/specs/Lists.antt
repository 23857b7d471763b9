-- Lists of words: rows by a rule, places, words laid over a lent slice; which refusal is given; sums. Assumes nothing.
use Rattle.std.specs.Prelude.{◌≡◌, Bool, true, false, ◌&&◌, ◌||◌, cond, List, [], ◌∷◌, ◌++◌, ℕ, zero, suc, ◌+◌, ◌<◌, eqb, length, drop, get_or}

-- f i, f (i + 1), ..: w of them
unfoldable pub row_from : {A : Type 0} → ℕ → ℕ → (ℕ → A) → List A
row_from i zero f = []
row_from i (suc w) f = f i ∷ row_from (suc i) w f

-- x stands in the list
unfoldable pub is_in : ℕ → List ℕ → Bool
is_in x [] = false
is_in x (y ∷ ys) = let r = is_in x ys in eqb x y || r

-- the place of x in a list (the list's length if it is not there)
unfoldable pub place : ℕ → List ℕ → ℕ
place x [] = 0
place x (y ∷ ys) = let r = suc (place x ys) in cond (eqb x y) 0 r

-- the words of a lent slice after its first words are replaced: later words stay
unfoldable pub overwritten : List ℕ → List ℕ → List ℕ
overwritten words lent = words ++ drop (length words) lent

-- every test of a list passes
unfoldable pub all_of : List Bool → Bool
all_of [] = true
all_of (b ∷ bs) = let r = all_of bs in b && r

-- each element's place is its own: no element stands twice
unfoldable pub Distinct : List ℕ → Type 0
Distinct l = (i : ℕ) → i < length l → place (get_or l i 0) l ≡ i

-- the number of the first test that applies, counted from i; 0 if none does
unfoldable pub first_of : ℕ → List Bool → ℕ
first_of i [] = 0
first_of i (b ∷ bs) = let r = first_of (suc i) bs in cond b i r

-- the number of a refusal where its condition holds, else 0
unfoldable pub refused_if : Bool → ℕ → ℕ
refused_if b e = cond b e 0

-- of refusals in their order, 0 for one that is not met, the first that is met; 0 if none is
unfoldable pub first_refusal : List ℕ → ℕ
first_refusal [] = 0
first_refusal (e ∷ es) = let r = first_refusal es in cond (eqb e 0) r e

-- f 0 + .. + f (n - 1)
unfoldable pub sum_to : ℕ → (ℕ → ℕ) → ℕ
sum_to zero f = 0
sum_to (suc n) f = sum_to n f + f n
