-- What a set or a bounded test says of a number, and how it is shown, as facts: a name that ends in -e takes a fact apart, one in -i shows it.
-- Each is over the width w. Assumes nothing.
use mathlib.Core.Path.{◌≡◌, sym, ap, ◌∙◌, subst}
use mathlib.Core.Logic.{◌⊎◌, inl, inr}
use mathlib.Core.Bool.{Bool, true, false, not, ◌&&◌, ◌||◌, or-false}
use mathlib.Core.List.{List}
use Prim.Native.Nat.{ℕ, zero, suc, ◌+◌, ◌-◌, ◌*◌, ◌%◌, ◌^◌, ◌≤◌, ◌<◌, zero-le}
use native.Mathlib.Nat.{le_refl, not-suc-le-zero, le_of_suc-le-suc, eq-or-lt_of_le, lt_of_not-le, mod-lt, add-zero}
use native.Mathlib.Decide.{dec_le}
use native.Mathlib.Omega.{arith}
use lib.Dec.{T, eqb→eq, eqb_refl}
use lib.Bits.{or_disjoint}
use lib.Pow.{pow_pos}
use lib.ListN.{length}
use borrow.Author.Tests.{lt-ltb}
use Rattle.sets.specs.Sets.{has, union, meet, minus, single, set_of, those, members_from, members, prepend, size, some, every, some_in, every_in, below}
use Rattle.sets.proofs.Tests.{is_true, is_false, of_false, and_l, and_r, and_i, or_e, or_l, or_r, implied, implies, of_true}
use Rattle.sets.proofs.Membership.{has_none, has_above, same_members, has-union, has_meet, has-minus, meet-le, has-join_low, has-join-high, has_low, has-single, has-set_of, set_of-lt, has-those, those-lt, has_below}

-- a member of a set of w bits is below w
pub has-lt : (w s i : ℕ) → s < 2 ^ w → T (has s i) → i < w
has-lt w s i h k = go (dec_le w i)
  where
    go : Dec (w ≤ i) → i < w
    go (yes q) = absurd (of_false (has_above w s i h q) k)
    go (no q) = lt_of_not-le q

-- ---- a union, and one number alone

pub union_e : (a b i : ℕ) → T (has (union a b) i) → T (has a i) ⊎ T (has b i)
union_e a b i h = or_e (has a i) (has b i) (subst T (has-union a b i) h)

pub union_l : (a b i : ℕ) → T (has a i) → T (has (union a b) i)
union_l a b i h = subst T (sym (has-union a b i)) (or_l (has a i) (has b i) h)

pub union_r : (a b i : ℕ) → T (has b i) → T (has (union a b) i)
union_r a b i h = subst T (sym (has-union a b i)) (or_r (has a i) (has b i) h)

pub union-absent : (a b i : ℕ) → (T (has b i) → ⊥) → has (union a b) i ≡ has a i
union-absent a b i n = has-union a b i ∙ rw (is_false (has b i) n) (or-false (has a i))

pub single_e : (m i : ℕ) → T (has (single m) i) → i ≡ m
single_e m i h = eqb→eq i m (subst T (has-single m i) h)

pub single_i : (m : ℕ) → T (has (single m) m)
single_i m = subst T (sym (has-single m m)) (eqb_refl m)

-- ---- what is in both, and what is in the one and not in the other

pub meet_e : (a b i : ℕ) → T (has (meet a b) i) → T (has a i) × T (has b i)
meet_e a b i h = let k = subst T (has_meet a b i) h in (and_l (has a i) (has b i) k, and_r (has a i) (has b i) k)

pub meet_i : (a b i : ℕ) → T (has a i) → T (has b i) → T (has (meet a b) i)
meet_i a b i h k = subst T (sym (has_meet a b i)) (and_i (has a i) (has b i) h k)

pub minus_e : (a b i : ℕ) → T (has (minus a b) i) → T (has a i) × (T (has b i) → ⊥)
minus_e a b i h =
    let k = subst T (has-minus a b i) h in
    (and_l (has a i) (not (has b i)) k, λ m. subst (λ (x : Bool). T (not x)) (is_true (has b i) m) (and_r (has a i) (not (has b i)) k))

pub minus_i : (a b i : ℕ) → T (has a i) → (T (has b i) → ⊥) → T (has (minus a b) i)
minus_i a b i h n =
    subst T (sym (has-minus a b i)) (and_i (has a i) (not (has b i)) h (subst (λ (x : Bool). T (not x)) (sym (is_false (has b i) n)) tt))

-- less where they have a member in common
pub minus_less : (a b i : ℕ) → T (has a i) → T (has b i) → minus a b < a
unfolding minus
minus_less a b i h k =
    let some : meet a b ≡ 0 → ⊥ = λ e. of_false (has_none i) (subst (λ (x : ℕ). T (has x i)) e (meet_i a b i h k)) in
    omega (arith, meet-le a b)

-- a union is the sum where they have none in common
pub union-sum : (a b : ℕ) → ((i : ℕ) → T (has a i) → T (has b i) → ⊥) → union a b ≡ a + b
union-sum a b n =
    or_disjoint a b (same_members (λ i. is_false (has (meet a b) i) (λ h. let k = meet_e a b i h in n i k.0 k.1) ∙ sym (has_none i)))

-- ---- a set of w bits moved up by k

pub shl_e : (w s k i : ℕ) → T (has (s * 2 ^ k % 2 ^ w) i) → (i < w) × (k ≤ i) × T (has s (i - k))
shl_e w s k i h =
    let l = has-lt w (s * 2 ^ k % 2 ^ w) i (mod-lt (s * 2 ^ k) (pow_pos w)) h in
    let m : T (has (s * 2 ^ k + 0) i) = subst T (has_low w (s * 2 ^ k) i l ∙ ap (λ (x : ℕ). has x i) (sym (add-zero (s * 2 ^ k)))) h in
    let up = above m (dec_le k i) in
    let e : i ≡ k + (i - k) = omega arith in
    (l, up, subst T (has-join-high k s 0 (i - k) (pow_pos k)) (subst (λ (x : ℕ). T (has (s * 2 ^ k + 0) x)) e m))
  where
    above : T (has (s * 2 ^ k + 0) i) → Dec (k ≤ i) → k ≤ i
    above m (yes q) = q
    above m (no q) = absurd (of_false (has-join_low k s 0 i (lt_of_not-le q) ∙ has_none i) m)

pub shl_i : (w s k i : ℕ) → k + i < w → T (has s i) → T (has (s * 2 ^ k % 2 ^ w) (k + i))
shl_i w s k i l h =
    subst T (sym (has_low w (s * 2 ^ k) (k + i) l ∙ ap (λ (x : ℕ). has x (k + i)) (sym (add-zero (s * 2 ^ k))) ∙ has-join-high k s 0 i (pow_pos k))) h

-- ---- sets by a test

pub set_of_e : (w : ℕ) (p : ℕ → Bool) (i : ℕ) → T (has (set_of w p) i) → (i < w) × T (p i)
set_of_e w p i h =
    let l = has-lt w (set_of w p) i (set_of-lt w p) h in
    (l, subst T (has-set_of w p i l) h)

pub set_of_i : (w : ℕ) (p : ℕ → Bool) (i : ℕ) → i < w → T (p i) → T (has (set_of w p) i)
set_of_i w p i l h = subst T (sym (has-set_of w p i l)) h

pub those_e : (w s : ℕ) (p : ℕ → Bool) (i : ℕ) → T (has (those w s p) i) → (i < w) × T (has s i) × T (p i)
those_e w s p i h =
    let l = has-lt w (those w s p) i (those-lt w s p) h in
    let b = subst T (has-those w s p i l) h in
    (l, and_l (has s i) (p i) b, and_r (has s i) (p i) b)

pub those_i : (w s : ℕ) (p : ℕ → Bool) (i : ℕ) → i < w → T (has s i) → T (p i) → T (has (those w s p) i)
those_i w s p i l h k = subst T (sym (has-those w s p i l)) (and_i (has s i) (p i) h k)

-- the set of all numbers below n has each of them
pub below_i : (n i : ℕ) → i < n → T (has (below n) i)
below_i n i l = of_true (has_below n i ∙ lt-ltb i n l)

-- ---- bounded tests

pub some_e : (w : ℕ) (p : ℕ → Bool) → T (some w p) → (i : ℕ) × (i < w) × T (p i)
unfolding some
some_e zero p h = absurd h
some_e (suc w) p h = go (or_e (p w) (some w p) h) (some_e w p)
  where
    go : T (p w) ⊎ T (some w p) → (T (some w p) → (i : ℕ) × (i < w) × T (p i)) → (i : ℕ) × (i < suc w) × T (p i)
    go (inl x) ih = (w, le_refl (suc w), x)
    go (inr x) ih = let r = ih x in (r.0, omega (arith, r.1), r.2)

pub some_i : (w : ℕ) (p : ℕ → Bool) (i : ℕ) → i < w → T (p i) → T (some w p)
unfolding some
some_i zero p i l x = absurd (not-suc-le-zero l)
some_i (suc w) p i l x = go (eq-or-lt_of_le (le_of_suc-le-suc l)) (λ k. some_i w p i k x)
  where
    go : (i ≡ w) ⊎ (i < w) → (i < w → T (some w p)) → T (p w || some w p)
    go (inl e) ih = or_l (p w) (some w p) (subst (λ (j : ℕ). T (p j)) e x)
    go (inr k) ih = or_r (p w) (some w p) (ih k)

pub every_e : (w : ℕ) (p : ℕ → Bool) → T (every w p) → (i : ℕ) → i < w → T (p i)
unfolding every
every_e zero p h i l = absurd (not-suc-le-zero l)
every_e (suc w) p h i l = go (eq-or-lt_of_le (le_of_suc-le-suc l)) (every_e w p (and_r (p w) (every w p) h) i)
  where
    go : (i ≡ w) ⊎ (i < w) → (i < w → T (p i)) → T (p i)
    go (inl e) ih = subst (λ (j : ℕ). T (p j)) (sym e) (and_l (p w) (every w p) h)
    go (inr k) ih = ih k

pub every_i : (w : ℕ) (p : ℕ → Bool) → ((i : ℕ) → i < w → T (p i)) → T (every w p)
unfolding every
every_i zero p h = tt
every_i (suc w) p h = and_i (p w) (every w p) (h w (le_refl (suc w))) (every_i w p (λ i l. h i (omega arith)))

pub some_in_e : (w s : ℕ) (p : ℕ → Bool) → T (some_in w s p) → (i : ℕ) × (i < w) × T (has s i) × T (p i)
unfolding some_in
some_in_e w s p h =
    let r = some_e w (λ i. has s i && p i) h in
    (r.0, r.1, and_l (has s r.0) (p r.0) r.2, and_r (has s r.0) (p r.0) r.2)

pub some_in_i : (w s : ℕ) (p : ℕ → Bool) (i : ℕ) → i < w → T (has s i) → T (p i) → T (some_in w s p)
unfolding some_in
some_in_i w s p i l h k = some_i w (λ j. has s j && p j) i l (and_i (has s i) (p i) h k)

pub every_in_e : (w s : ℕ) (p : ℕ → Bool) → T (every_in w s p) → (i : ℕ) → i < w → T (has s i) → T (p i)
unfolding every_in
every_in_e w s p h i l k = implied (has s i) (p i) (every_e w (λ j. not (has s j) || p j) h i l) k

pub every_in_i : (w s : ℕ) (p : ℕ → Bool) → ((i : ℕ) → i < w → T (has s i) → T (p i)) → T (every_in w s p)
unfolding every_in
every_in_i w s p h = every_i w (λ j. not (has s j) || p j) (λ i l. implies (has s i) (p i) (h i l))

-- ---- sizes

prepend-length-le : (b : Bool) (i w : ℕ) (l : List ℕ) → length l ≤ w → length (prepend b i l) ≤ suc w
unfolding prepend
prepend-length-le true i w l h = omega arith
prepend-length-le false i w l h = omega arith

members_from-le : (w k s : ℕ) → length (members_from k w s) ≤ w
unfolding members_from
members_from-le zero k s = zero-le
members_from-le (suc w) k s = prepend-length-le (has s k) k w (members_from (suc k) w s) (members_from-le w (suc k) s)

pub size-le : (w s : ℕ) → size w s ≤ w
unfolding size members
size-le w s = members_from-le w 0 s

prepend_mono : (a b : Bool) (i : ℕ) (l m : List ℕ) → (T a → T b) → length l ≤ length m → length (prepend a i l) ≤ length (prepend b i m)
unfolding prepend
prepend_mono true true i l m f h = omega arith
prepend_mono true false i l m f h = absurd (f tt)
prepend_mono false true i l m f h = omega arith
prepend_mono false false i l m f h = h

from_mono : (w k a b : ℕ) → ((i : ℕ) → k ≤ i → i < k + w → T (has a i) → T (has b i)) → length (members_from k w a) ≤ length (members_from k w b)
unfolding members_from
from_mono zero k a b f = zero-le
from_mono (suc w) k a b f =
    prepend_mono (has a k) (has b k) k (members_from (suc k) w a) (members_from (suc k) w b) (f k (le_refl k) (omega arith))
    (from_mono w (suc k) a b (λ i p q. f i (omega arith) (omega arith)))

-- a larger set has no fewer members, and more where it has one more
pub size_mono : (w a b : ℕ) → ((i : ℕ) → i < w → T (has a i) → T (has b i)) → size w a ≤ size w b
unfolding size members
size_mono w a b f = from_mono w 0 a b (λ i p q. f i (omega arith))

prepend_more : (a b : Bool) (i : ℕ) (l m : List ℕ) → (T a → ⊥) → T b → length l ≤ length m → length (prepend a i l) < length (prepend b i m)
unfolding prepend
prepend_more true b i l m f g h = absurd (f tt)
prepend_more false true i l m f g h = omega arith
prepend_more false false i l m f g h = absurd g

prepend-lt : (a b : Bool) (i : ℕ) (l m : List ℕ) → (T a → T b) → length l < length m → length (prepend a i l) < length (prepend b i m)
unfolding prepend
prepend-lt true true i l m f h = omega arith
prepend-lt true false i l m f h = absurd (f tt)
prepend-lt false true i l m f h = omega arith
prepend-lt false false i l m f h = h

from_lt : (w k a b : ℕ) → ((i : ℕ) → k ≤ i → i < k + w → T (has a i) → T (has b i)) → (j : ℕ) → k ≤ j → j < k + w → (T (has a j) → ⊥) → T (has b j)
    → length (members_from k w a) < length (members_from k w b)
unfolding members_from
from_lt zero k a b f j p q x y = absurd (omega arith)
from_lt (suc w) k a b f j p q x y = go (eq-or-lt_of_le p) (λ l. from_lt w (suc k) a b (λ i u v. f i (omega arith) (omega arith)) j l (omega arith) x y)
  where
    go : (k ≡ j) ⊎ (k < j) → (k < j → length (members_from (suc k) w a) < length (members_from (suc k) w b))
        → length (prepend (has a k) k (members_from (suc k) w a)) < length (prepend (has b k) k (members_from (suc k) w b))
    go (inl e) ih =
        prepend_more (has a k) (has b k) k (members_from (suc k) w a) (members_from (suc k) w b)
        (subst (λ (i : ℕ). T (has a i) → ⊥) (sym e) x) (subst (λ (i : ℕ). T (has b i)) (sym e) y)
        (from_mono w (suc k) a b (λ i u v. f i (omega arith) (omega arith)))
    go (inr l) ih = prepend-lt (has a k) (has b k) k (members_from (suc k) w a) (members_from (suc k) w b) (f k (le_refl k) (omega arith)) (ih l)

pub size-lt : (w a b : ℕ) → ((i : ℕ) → i < w → T (has a i) → T (has b i)) → (j : ℕ) → j < w → (T (has a j) → ⊥) → T (has b j) → size w a < size w b
unfolding size members
size-lt w a b f j l x y = from_lt w 0 a b (λ i p q. f i (omega arith)) j zero-le (omega arith) x y
