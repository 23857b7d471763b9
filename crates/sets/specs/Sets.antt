-- Sets of small numbers as words: bit i of the number s says whether i is in the set s. A width w bounds the numbers that
-- are looked at; no definition fixes it. Assumes nothing.
use Rattle.std.specs.Prelude.{◌≡◌, ◌<◌, Option, MatchOption, ℕ, zero, suc, ◌+◌, ◌-◌, ◌*◌, ◌/◌, ◌%◌, ◌^◌, Bool, true, false, not, ◌&&◌, ◌||◌, cond, List, [], ◌∷◌, eqb, length, get_or}
use Rattle.std.specs.Int.Bits.{bit_and, bit_or}

-- i is in s
unfoldable pub has : ℕ → ℕ → Bool
has s i = eqb (s / 2 ^ i % 2) 1

-- in one of the two; in both; in a and not in b
abbrev pub union : ℕ → ℕ → ℕ
union a b = bit_or a b

abbrev pub meet : ℕ → ℕ → ℕ
meet a b = bit_and a b

unfoldable pub minus : ℕ → ℕ → ℕ
minus a b = a - bit_and a b

-- in one of the list's sets
unfoldable pub union_of : List ℕ → ℕ
union_of [] = 0
union_of (x ∷ xs) = union x (union_of xs)

-- the two have a member in common
abbrev pub meets : ℕ → ℕ → Bool
meets a b = not (eqb (meet a b) 0)

-- the set of m alone; the set of all numbers below n
abbrev pub single : ℕ → ℕ
single m = 2 ^ m

abbrev pub below : ℕ → ℕ
below n = 2 ^ n - 1

-- a truth value as a binary digit
unfoldable pub digit : Bool → ℕ
digit true = 1
digit false = 0

-- the set of all i below n with p i
unfoldable pub set_of : ℕ → (ℕ → Bool) → ℕ
unfolding digit
set_of zero p = 0
set_of (suc n) p = digit (p n) * 2 ^ n + set_of n p

-- the members of s below w that have p
unfoldable pub those : ℕ → ℕ → (ℕ → Bool) → ℕ
unfolding set_of has
those w s p = set_of w (λ i. has s i && p i)

-- i before a list where a test holds
unfoldable pub prepend : Bool → ℕ → List ℕ → List ℕ
prepend true i l = i ∷ l
prepend false i l = l

-- the members of s among the n numbers from i on, in order
unfoldable pub members_from : ℕ → ℕ → ℕ → List ℕ
unfolding prepend has
members_from i zero s = []
members_from i (suc n) s = prepend (has s i) i (members_from (suc i) n s)

-- the members of s below w in order, lowest first
unfoldable pub members : ℕ → ℕ → List ℕ
unfolding members_from
members w s = members_from 0 w s

-- how many members s has below w
unfoldable pub size : ℕ → ℕ → ℕ
unfolding members
size w s = length (members w s)

-- the lowest member of s below w; w if there is none
unfoldable pub lowest : ℕ → ℕ → ℕ
unfolding members
lowest w s = get_or (members w s) 0 w

-- the highest number below n that has p; d if none does
unfoldable pub last : (ℕ → Bool) → ℕ → ℕ → ℕ
last p d zero = d
last p d (suc n) = let r = last p d n in cond (p n) n r

-- the highest member of s below w; 0 if there is none
abbrev pub highest : ℕ → ℕ → ℕ
highest w s = last (has s) 0 w

-- some number below n has p; every number below n has p
unfoldable pub some : ℕ → (ℕ → Bool) → Bool
some zero p = false
some (suc n) p = let r = some n p in p n || r

unfoldable pub every : ℕ → (ℕ → Bool) → Bool
every zero p = true
every (suc n) p = let r = every n p in p n && r

-- some member of s below w has p; every member of s below w has p
unfoldable pub some_in : ℕ → ℕ → (ℕ → Bool) → Bool
unfolding some has
some_in w s p = some w (λ i. has s i && p i)

unfoldable pub every_in : ℕ → ℕ → (ℕ → Bool) → Bool
unfolding every has
every_in w s p = every w (λ i. not (has s i) || p i)

-- the next of the members of s below w, lowest first, and the set t of those that are left: none where s is empty
abbrev pub NextMember : ℕ → ℕ → Option ℕ → ℕ → Type 0
NextMember w s none-or-m t = MatchOption none-or-m ((s ≡ 0) × (t ≡ 0)) (λ m. (0 < s) × (m ≡ lowest w s) × (t ≡ minus s (single m)))
