-- Laws of rows, places, rising numbers and lists of tests. Assumes nothing.
use mathlib.Core.Path.{◌≡◌, refl, sym, ap, ap₂, ◌∙◌, subst}
use mathlib.Core.Logic.{◌⊎◌, inl, inr, ⊎_elim}
use mathlib.Core.Bool.{Bool, true, false, ◌&&◌, ◌||◌, cond, and-false}
use mathlib.Core.List.{List, [], ◌∷◌, ◌++◌, flatten, append_assoc, map}
use Prim.Native.Nat.{ℕ, zero, suc, ◌+◌, ◌-◌, ◌*◌, ◌≤◌, ◌<◌, zero-le}
use native.Mathlib.Nat.{le_refl, le_trans, le_of_eq, not-suc-le-zero, le_of_suc-le-suc, eq-or-lt_of_le, add-zero, zero-add, mul-zero, mul-suc}
use native.Mathlib.Omega.{arith}
use lib.Dec.{T, eqb, eqb→eq, eqb_refl, ltb, lt→ltb}
use lib.ListN.{length, get_or, length-append, take, drop, get_or-append}
use lib.Seq.{ext_get_or, take_at, drop_at, drop-drop, get_or-append-add}
use Rattle.sets.specs.Sets.{has, union_of}
use Rattle.sets.proofs.Unions.{union_of_e, union_of_i}
use Rattle.sets.proofs.Tests.{and_l, and_r, and_i, or_e, or_l, or_r, below_or_not}
use Rattle.meaning.specs.Lists.{row_from, is_in, all_of, first_of}

-- the tests of a list all pass: a product, one part for each
abbrev pub Holds : List Bool → Type 0
Holds [] = Unit {0}
Holds (b ∷ bs) = T b × Holds bs

pub all_of_e : (bs : List Bool) → T (all_of bs) → Holds bs
unfolding all_of
all_of_e [] h = tt
all_of_e (b ∷ bs) h = (and_l b (all_of bs) h, all_of_e bs (and_r b (all_of bs) h))

pub all_of_i : (bs : List Bool) → Holds bs → T (all_of bs)
unfolding all_of
all_of_i [] h = tt
all_of_i (b ∷ bs) h = and_i b (all_of bs) h.0 (all_of_i bs h.1)

-- one of them fails
pub all_of_fails : (bs : List Bool) (i : ℕ) → get_or bs i true ≡ false → all_of bs ≡ false
unfolding all_of
all_of_fails [] zero e = e
all_of_fails [] (suc i) e = e
all_of_fails (b ∷ bs) zero e = ap (λ (c : Bool). c && all_of bs) e
all_of_fails (b ∷ bs) (suc i) e = ap (λ (c : Bool). b && c) (all_of_fails bs i e) ∙ and-false b

-- a place of a list of tests that passes is one of its places
pub get_or-true-lt : (l : List Bool) (c : ℕ) → T (get_or l c false) → c < length l
get_or-true-lt [] c h = absurd h
get_or-true-lt (b ∷ l) zero h = omega arith
get_or-true-lt (b ∷ l) (suc c) h = omega (arith, get_or-true-lt l c h)

-- the parts of a product in a row, for `all_of_i`
infixr 3 ◌▹◌
pub ◌▹◌ : {A B : Type 0} → A → B → A × B
a ▹ b = (a, b)

-- none of the tests of a list applies
abbrev pub Off : List Bool → Type 0
Off [] = Unit {0}
Off (b ∷ bs) = (b ≡ false) × Off bs

pub first_of_off : (i : ℕ) (bs : List Bool) → first_of (suc i) bs ≡ 0 → Off bs
unfolding first_of
first_of_off i [] h = tt
first_of_off i (b ∷ bs) h = go b refl h (first_of_off (suc i) bs)
  where
    go : (c : Bool) → b ≡ c → cond c (suc i) (first_of (suc (suc i)) bs) ≡ 0 → (first_of (suc (suc i)) bs ≡ 0 → Off bs) → (b ≡ false) × Off bs
    go true e k ih = absurd (omega arith)
    go false e k ih = (e, ih k)

-- the number of a test that applies is at most the last one's
pub first_of-le : (i : ℕ) (bs : List Bool) → first_of (suc i) bs ≤ i + length bs
unfolding first_of
first_of-le i [] = zero-le
first_of-le i (b ∷ bs) = go b (first_of-le (suc i) bs)
  where
    go : (c : Bool) → first_of (suc (suc i)) bs ≤ suc i + length bs → cond c (suc i) (first_of (suc (suc i)) bs) ≤ i + suc (length bs)
    go true h = omega arith
    go false h = omega arith

-- where g holds of all of which f holds, the first test that applies may come earlier, and there is one
pub first_of_more : {A : Type 0} (f g : A → Bool) → ((x : A) → T (f x) → T (g x)) → (i : ℕ) (l : List A)
    → T (ltb 0 (first_of (suc i) (map f l))) → T (ltb 0 (first_of (suc i) (map g l)))
unfolding first_of
first_of_more f g h i [] k = k
first_of_more f g h i (x ∷ l) k = go (f x) (g x) refl refl k (first_of_more f g h (suc i) l)
  where
    some_one : T (ltb 0 (suc i))
    some_one = lt→ltb 0 (suc i) (omega arith)

    go : (a b : Bool) → f x ≡ a → g x ≡ b → T (ltb 0 (cond a (suc i) (first_of (suc (suc i)) (map f l))))
        → (T (ltb 0 (first_of (suc (suc i)) (map f l))) → T (ltb 0 (first_of (suc (suc i)) (map g l))))
        → T (ltb 0 (cond b (suc i) (first_of (suc (suc i)) (map g l))))
    go a true ea eb u ih = some_one
    go true false ea eb u ih = absurd (subst T eb (h x (subst T (sym ea) tt)))
    go false false ea eb u ih = ih u

-- numbers that do not fall from one to the next
pub steps_le : (e : ℕ → ℕ) (n : ℕ) → ((i : ℕ) → i < n → e i ≤ e (suc i)) → (i j : ℕ) → i ≤ j → j ≤ n → e i ≤ e j
steps_le e n h i zero k l = le_of_eq (ap e (omega arith))
steps_le e n h i (suc j) k l = go (eq-or-lt_of_le k) (λ m. steps_le e n h i j m (omega arith))
  where
    go : (i ≡ suc j) ⊎ (i < suc j) → (i ≤ j → e i ≤ e j) → e i ≤ e (suc j)
    go (inl q) ih = le_of_eq (ap e q)
    go (inr q) ih = le_trans (ih (le_of_suc-le-suc q)) (h j l)

-- a number that is not below the first of some numbers, but below the last, lies between two neighbours
pub steps_find : (e : ℕ → ℕ) (n i : ℕ) → e 0 ≤ i → i < e n → (b : ℕ) × (b < n) × (e b ≤ i) × (i < e (suc b))
steps_find e zero i k l = absurd (omega arith)
steps_find e (suc n) i k l =
    ⊎_elim (λ m. let r = steps_find e n i k m in (r.0, omega (arith, r.1), r.2, r.3)) (λ m. (n, omega arith, m, l))
    (below_or_not i (e n))

-- place j of a row
pub row_from_at : {A : Type 0} (f : ℕ → A) (a : A) (i w j : ℕ) → j < w → get_or (row_from i w f) j a ≡ f (i + j)
unfolding row_from
row_from_at f a i zero j l = absurd (not-suc-le-zero l)
row_from_at f a i (suc w) zero l = ap f (sym (add-zero i))
row_from_at f a i (suc w) (suc j) l = row_from_at f a (suc i) w j (le_of_suc-le-suc l) ∙ ap f (omega arith)

pub row_at : (w : ℕ) (f : ℕ → ℕ) (j : ℕ) → j < w → get_or (row_from 0 w f) j 0 ≡ f j
row_at w f j l = row_from_at f 0 0 w j l ∙ ap f (zero-add j)

pub row_from_ext : {A : Type 0} (f g : ℕ → A) (i w : ℕ) → ((u : ℕ) → i ≤ u → u < i + w → f u ≡ g u) → row_from i w f ≡ row_from i w g
unfolding row_from
row_from_ext f g i zero h = refl
row_from_ext {A} f g i (suc w) h = ap₂ (λ (x : A) (l : List A). x ∷ l) (h i (le_refl i) (omega arith)) (row_from_ext f g (suc i) w (λ u a b. h u (omega arith) (omega arith)))

pub row_from-length : {A : Type 0} (f : ℕ → A) (i w : ℕ) → length (row_from i w f) ≡ w
unfolding row_from
row_from-length f i zero = refl
row_from-length f i (suc w) = ap suc (row_from-length f (suc i) w)

pub row_from-append : {A : Type 0} (f : ℕ → A) (i m n : ℕ) → row_from i (m + n) f ≡ row_from i m f ++ row_from (i + m) n f
unfolding row_from
row_from-append f i zero n = rw (zero-add n, add-zero i)
row_from-append {A} f i (suc m) n =
    let e : suc m + n ≡ suc (m + n) = omega arith in
    let k : suc i + m ≡ i + suc m = omega arith in
    rw (e, ← k) (ap (λ (r : List A). f i ∷ r) (row_from-append f (suc i) m n))

-- a part of a row is a row
pub row_part : {A : Type 0} (f : ℕ → A) (m n r : ℕ) → take n (drop m (row_from 0 (m + (n + r)) f)) ≡ row_from m n f
row_part f m n r =
    rw (row_from-append f 0 m (n + r), zero-add m, drop_at (row_from 0 m f) (row_from m (n + r) f) m (row_from-length f 0 m), row_from-append f m n r)
    (take_at (row_from m n f) (row_from (m + n) r f) n (row_from-length f m n))

pub row_from_shift : {A : Type 0} (f : ℕ → A) (c i m : ℕ) → row_from (c + i) m f ≡ row_from i m (λ j. f (c + j))
unfolding row_from
row_from_shift f c i zero = refl
row_from_shift {A} f c i (suc m) =
    let e : suc (c + i) ≡ c + suc i = omega arith in
    rw e (ap (λ (r : List A). f (c + i) ∷ r) (row_from_shift f c (suc i) m))

-- rows in a row: two lists of them, and n of w words each
pub flatten-append : (xs ys : List (List ℕ)) → flatten (xs ++ ys) ≡ flatten xs ++ flatten ys
unfolding flatten
flatten-append [] ys = refl
flatten-append (x ∷ xs) ys = ap (λ (r : List ℕ). x ++ r) (flatten-append xs ys) ∙ sym (append_assoc x (flatten xs) (flatten ys))

pub rows_width : (f : ℕ → List ℕ) (w : ℕ) → ((j : ℕ) → length (f j) ≡ w) → (n j : ℕ) → length (flatten (row_from j n f)) ≡ w * n
unfolding flatten row_from
rows_width f w h zero j = sym (mul-zero w)
rows_width f w h (suc n) j =
    omega (arith, length-append (f j) (flatten (row_from (suc j) n f)), h j, rows_width f w h n (suc j), mul-suc w n)

-- a list is the row of its places
pub row_from-get_or : {A : Type 0} (l : List A) (a : A) → l ≡ row_from 0 (length l) (λ j. get_or l j a)
row_from-get_or {A} l a =
    let f : ℕ → A = λ j. get_or l j a in
    ext_get_or a l (row_from 0 (length l) f) (sym (row_from-length f 0 (length l)))
    (λ i h. sym (row_from_at f a 0 (length l) i h ∙ ap f (zero-add i)))

-- the end of a loop that fills an array word by word with f 0, f 1, ..
pub row_done : (f : ℕ → ℕ) (r : List ℕ) (w : ℕ) → length r ≡ w → ((u : ℕ) → u < w → get_or r u 0 ≡ f u) → r ≡ row_from 0 w f
row_done f r w n h = rw n at (row_from-get_or r 0) ∙ row_from_ext (λ u. get_or r u 0) f 0 w (λ u a b. h u (omega arith))

-- places in blocks of w words each: of the first block, and of those after it
pub block_first : (w : ℕ) (a b : List ℕ) (j : ℕ) → length a ≡ w → j < w → get_or (a ++ b) (w * 0 + j) 0 ≡ get_or a j 0
block_first w a b j n l = rw (mul-zero w, zero-add j) (get_or-append a b 0 j (omega arith))

pub block-later : (w : ℕ) (a b : List ℕ) (p j : ℕ) → length a ≡ w → get_or (a ++ b) (w * suc p + j) 0 ≡ get_or b (w * p + j) 0
block-later w a b p j n = let e : w * suc p + j ≡ length a + (w * p + j) = omega (arith, mul-suc w p) in rw e (get_or-append-add a b (w * p + j) 0)

-- what two lists share from g on they share from any later place on
pub drop-later : (l l' : List ℕ) (g h : ℕ) → g ≤ h → drop g l ≡ drop g l' → drop h l ≡ drop h l'
drop-later l l' g h k e = let n : g + (h - g) ≡ h = omega arith in rw (← n, ← drop-drop (h - g) g l, e) (drop-drop (h - g) g l')

-- the union of a row of sets
pub row-union_e : (f : ℕ → ℕ) (n i : ℕ) → T (has (union_of (row_from 0 n f)) i) → (j : ℕ) × (j < n) × T (has (f j) i)
row-union_e f n i h =
    let r = union_of_e (row_from 0 n f) i h in
    let k : r.0 < n = rw (row_from-length f 0 n) at r.1 in
    (r.0, k, rw (row_at n f r.0 k) at r.2)

pub row-union_i : (f : ℕ → ℕ) (n j i : ℕ) → j < n → T (has (f j) i) → T (has (union_of (row_from 0 n f)) i)
row-union_i f n j i h k = union_of_i (row_from 0 n f) j i (rw (row_from-length f 0 n) h) (rw (row_at n f j h) k)

-- a member of the list has p
unfoldable pub any_of : (ℕ → Bool) → List ℕ → Bool
any_of p [] = false
any_of p (t ∷ ts) = let r = any_of p ts in p t || r

pub any_of_e : (p : ℕ → Bool) (l : List ℕ) → T (any_of p l) → (t : ℕ) × T (is_in t l) × T (p t)
unfolding any_of is_in
any_of_e p [] h = absurd h
any_of_e p (t ∷ ts) h = go (or_e (p t) (any_of p ts) h) (any_of_e p ts)
  where
    go : T (p t) ⊎ T (any_of p ts) → (T (any_of p ts) → (u : ℕ) × T (is_in u ts) × T (p u)) → (u : ℕ) × T (eqb u t || is_in u ts) × T (p u)
    go (inl k) ih = (t, or_l (eqb t t) (is_in t ts) (eqb_refl t), k)
    go (inr k) ih = let r = ih k in (r.0, or_r (eqb r.0 t) (is_in r.0 ts) r.1, r.2)

pub any_of_i : (p : ℕ → Bool) (l : List ℕ) (t : ℕ) → T (is_in t l) → T (p t) → T (any_of p l)
unfolding any_of is_in
any_of_i p [] t h k = absurd h
any_of_i p (u ∷ us) t h k = go (or_e (eqb t u) (is_in t us) h) (λ g. any_of_i p us t g k)
  where
    go : T (eqb t u) ⊎ T (is_in t us) → (T (is_in t us) → T (any_of p us)) → T (p u || any_of p us)
    go (inl e) ih = or_l (p u) (any_of p us) (subst (λ (i : ℕ). T (p i)) (eqb→eq t u e) k)
    go (inr g) ih = or_r (p u) (any_of p us) (ih g)
