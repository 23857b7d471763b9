-- Membership of each set operation, and equality by membership. Each law is over the width w. Assumes nothing.
use mathlib.Core.Path.{◌≡◌, refl, sym, ap, ap₂, ◌∙◌, subst}
use mathlib.Core.Bool.{Bool, true, false, not, ◌&&◌, ◌||◌, or_assoc}
use Prim.Native.Nat.{ℕ, zero, suc, ◌+◌, ◌-◌, ◌*◌, ◌/◌, ◌%◌, ◌^◌, ◌≤◌, ◌<◌, suc-le-suc, min, max}
use native.Mathlib.Nat.{lt_of_lt_of_le, mod-lt, mod-le, lt_of_not-le, zero-add, zero-mul, mod-eq_of_lt, one-mul, lt_of_le_of_lt, eq-or-lt_of_le, zero-lt-suc, not-suc-le-zero, le_of_suc-le-suc, div-div-eq-div-mul, div-one, pow-succ', pow-suc, zero-div}
use native.Mathlib.Numerals.{add-one}
use native.Mathlib.Decide.{dec_le}
use native.Mathlib.Omega.{arith}
use mathlib.Core.Logic.{◌⊎◌, inl, inr, ⊎_elim}
use lib.Dec.{eqb, ltb, eqb-zero-suc, eqb-suc-zero, eqb-suc-suc, leb-zero, leb-suc-zero, leb-suc-suc}
use lib.Arith.{lt-one, digits_lt}
use lib.Pow.{pow_pos, pow-add, pow_mono, pow-lt, ones_lt, ones_split, high, split, shr-shr}
use lib.Bits.{bit_and, bit_or, and_step, or_step, and_le_l, or_lt, or_shifted_r, and_mask, block_half, block_odd}
use mir.Val.{bool_byte}
use borrow.Author.Tests.{lt-ltb, le-ltb}
use Rattle.sets.specs.Sets.{has, union, meet, minus, single, below, digit, set_of, those}
use Rattle.sets.proofs.Tests.{below_or_not}

two_pos : 0 < 2
two_pos = zero-lt-suc 1

-- ---- a set by its lowest bit and the rest

pub has_0 : (s : ℕ) → has s 0 ≡ eqb (s % 2) 1
unfolding has
has_0 s = ap (λ (x : ℕ). eqb (x % 2) 1) (div-one s)

pub has-suc : (s i : ℕ) → has s (suc i) ≡ has (s / 2) i
unfolding has
has-suc s i = ap (λ (x : ℕ). eqb (x % 2) 1) (ap (λ (x : ℕ). s / x) (pow-succ' 2 i) ∙ sym (div-div-eq-div-mul s 2 (2 ^ i)))

pub half_lt : {a : ℕ} (k : ℕ) → a < 2 ^ suc k → a / 2 < 2 ^ k
half_lt k h = omega (arith, pow-suc 2 k)

-- nothing is in the empty set
pub has_none : (i : ℕ) → has 0 i ≡ false
unfolding has
has_none i = ap (λ (x : ℕ). eqb (x % 2) 1) (zero-div (2 ^ i))

-- a set of w bits has no member from w on
pub has_above : (w s i : ℕ) → s < 2 ^ w → w ≤ i → has s i ≡ false
has_above zero s i h l = ap (λ (x : ℕ). has x i) (lt-one h) ∙ has_none i
has_above (suc w) s zero h l = absurd (not-suc-le-zero l)
has_above (suc w) s (suc i) h l = has-suc s i ∙ has_above w (s / 2) i (half_lt w h) (le_of_suc-le-suc l)

-- a digit is 0 or 1
bin : (P : ℕ → Type 0) → P 0 → P 1 → (x : ℕ) → x < 2 → P x
bin P p q zero h = p
bin P p q (suc zero) h = q
bin P p q (suc (suc x)) h = absurd (not-suc-le-zero (le_of_suc-le-suc (le_of_suc-le-suc h)))

same_digit : (x y : ℕ) → x < 2 → y < 2 → eqb x 1 ≡ eqb y 1 → x ≡ y
same_digit x y hx hy =
    bin (λ (x : ℕ). eqb x 1 ≡ eqb y 1 → x ≡ y)
    (bin (λ (y : ℕ). eqb 0 1 ≡ eqb y 1 → 0 ≡ y) (λ e. refl) (λ e. cc) y hy)
    (bin (λ (y : ℕ). eqb 1 1 ≡ eqb y 1 → 1 ≡ y) (λ e. cc) (λ e. refl) y hy)
    x
    hx

-- two sets of w bits with the same members are equal
pub ext : (w : ℕ) {a b : ℕ} → a < 2 ^ w → b < 2 ^ w → ((i : ℕ) → i < w → has a i ≡ has b i) → a ≡ b
ext zero ha hb e = lt-one ha ∙ sym (lt-one hb)
ext (suc w) {a} {b} ha hb e =
    let high : a / 2 ≡ b / 2 = ext w (half_lt w ha) (half_lt w hb) (λ i l. sym (has-suc a i) ∙ e (suc i) (suc-le-suc l) ∙ has-suc b i) in
    let low : a % 2 ≡ b % 2 = same_digit (a % 2) (b % 2) (mod-lt a two_pos) (mod-lt b two_pos) (sym (has_0 a) ∙ e 0 (zero-lt-suc w) ∙ has_0 b) in
    omega arith

pub lt-two-pow : (x : ℕ) → x < 2 ^ x
lt-two-pow zero = omega arith
lt-two-pow (suc x) = omega (arith, pow-suc 2 x, lt-two-pow x)

-- two sets with the same members are equal, however large
pub same_members : {a b : ℕ} → ((i : ℕ) → has a i ≡ has b i) → a ≡ b
same_members {a} {b} h =
    ext (a + b) (lt_of_lt_of_le (lt-two-pow a) (pow_mono (omega arith))) (lt_of_lt_of_le (lt-two-pow b) (pow_mono (omega arith))) (λ i l. h i)

-- ---- union, intersection, difference: an operation that goes digit by digit has its members by the same table
module _ (op f : ℕ → ℕ → ℕ) (g : Bool → Bool → Bool)
    (step : (a b : ℕ) → op a b ≡ op (a / 2) (b / 2) * 2 + f (a % 2) (b % 2))
    (bound : (x y : ℕ) → x < 2 → y < 2 → f x y < 2)
    (table : (x y : ℕ) → x < 2 → y < 2 → eqb (f x y) 1 ≡ g (eqb x 1) (eqb y 1)) where
  has_op : (a b i : ℕ) → has (op a b) i ≡ g (has a i) (has b i)
  has_op a b zero =
      let low : op a b % 2 ≡ f (a % 2) (b % 2) = omega (arith, step a b, bound (a % 2) (b % 2) (mod-lt a two_pos) (mod-lt b two_pos)) in
      has_0 (op a b) ∙ ap (λ (x : ℕ). eqb x 1) low ∙ table (a % 2) (b % 2) (mod-lt a two_pos) (mod-lt b two_pos)
      ∙ ap₂ g (sym (has_0 a)) (sym (has_0 b))
  has_op a b (suc i) =
      let high : op a b / 2 ≡ op (a / 2) (b / 2) = omega (arith, step a b, bound (a % 2) (b % 2) (mod-lt a two_pos) (mod-lt b two_pos)) in
      has-suc (op a b) i ∙ ap (λ (x : ℕ). has x i) high ∙ has_op (a / 2) (b / 2) i ∙ ap₂ g (sym (has-suc a i)) (sym (has-suc b i))

-- a table of two digits, by its four cases
table : (f : ℕ → ℕ → ℕ) (g : Bool → Bool → Bool) → eqb (f 0 0) 1 ≡ g false false → eqb (f 0 1) 1 ≡ g false true → eqb (f 1 0) 1 ≡ g true false → eqb (f 1 1) 1 ≡ g true true
    → (x y : ℕ) → x < 2 → y < 2 → eqb (f x y) 1 ≡ g (eqb x 1) (eqb y 1)
table f g p q r s x y hx hy =
    bin (λ (x : ℕ). eqb (f x y) 1 ≡ g (eqb x 1) (eqb y 1))
    (bin (λ (y : ℕ). eqb (f 0 y) 1 ≡ g false (eqb y 1)) p q y hy)
    (bin (λ (y : ℕ). eqb (f 1 y) 1 ≡ g true (eqb y 1)) r s y hy)
    x
    hx

pub has-union : (a b i : ℕ) → has (union a b) i ≡ (has a i || has b i)
has-union = has_op union max ◌||◌ or_step (λ x y hx hy. omega arith) (table max ◌||◌ refl refl refl refl)

pub union_assoc : (a b c : ℕ) → union (union a b) c ≡ union a (union b c)
union_assoc a b c = same_members (λ i. simp (has-union, or_assoc))

pub has_meet : (a b i : ℕ) → has (meet a b) i ≡ (has a i && has b i)
has_meet = has_op meet min ◌&&◌ and_step (λ x y hx hy. omega arith) (table min ◌&&◌ refl refl refl refl)

but_not : Bool → Bool → Bool
but_not a b = a && not b

minus_step : (a b : ℕ) → minus a b ≡ minus (a / 2) (b / 2) * 2 + (a % 2 - min (a % 2) (b % 2))
unfolding minus
minus_step a b = omega (arith, and_step a b, and_le_l (a / 2) (b / 2))

pub has-minus : (a b i : ℕ) → has (minus a b) i ≡ (has a i && not (has b i))
unfolding but_not
has-minus = has_op minus (λ x y. x - min x y) but_not minus_step (λ x y hx hy. omega arith) (table (λ x y. x - min x y) but_not refl refl refl refl)

-- taking out what is not in a changes nothing
pub minus-meet : (a b : ℕ) → minus a (meet a b) ≡ minus a b
minus-meet a b =
    same_members (λ i.
    has-minus a (meet a b) i ∙ ap (λ (x : Bool). has a i && not x) (has_meet a b i) ∙ at (has a i) (has b i) ∙ sym (has-minus a b i))
  where
    at : (x y : Bool) → (x && not (x && y)) ≡ (x && not y)
    at true y = refl
    at false y = refl

-- the complement at width w, `!b`
pub has-not : (w b i : ℕ) → b < 2 ^ w → i < w → has (2 ^ w - 1 - b) i ≡ not (has b i)
has-not zero b i h l = absurd (not-suc-le-zero l)
has-not (suc w) b zero h l =
    let low : (2 ^ suc w - 1 - b) % 2 ≡ 1 - b % 2 = omega (arith, pow-suc 2 w) in
    has_0 (2 ^ suc w - 1 - b) ∙ ap (λ (x : ℕ). eqb x 1) low
    ∙ bin (λ (x : ℕ). eqb (1 - x) 1 ≡ not (eqb x 1)) refl refl (b % 2) (mod-lt b two_pos)
    ∙ ap not (sym (has_0 b))
has-not (suc w) b (suc i) h l =
    let high : (2 ^ suc w - 1 - b) / 2 ≡ 2 ^ w - 1 - b / 2 = omega (arith, pow-suc 2 w) in
    has-suc (2 ^ suc w - 1 - b) i ∙ ap (λ (x : ℕ). has x i) high ∙ has-not w (b / 2) i (half_lt w h) (le_of_suc-le-suc l)
    ∙ ap not (sym (has-suc b i))

-- they stay within the width
pub union-lt : (w : ℕ) {a b : ℕ} → a < 2 ^ w → b < 2 ^ w → union a b < 2 ^ w
union-lt w {a} {b} ha hb = or_lt w a b ha hb

pub meet-le : (a b : ℕ) → meet a b ≤ a
meet-le = and_le_l

pub minus-le : (a b : ℕ) → minus a b ≤ a
unfolding minus
minus-le a b = omega arith

-- `a & !b` at width w
pub and-not : (w : ℕ) {a b : ℕ} → a < 2 ^ w → b < 2 ^ w → bit_and a (2 ^ w - 1 - b) ≡ minus a b
and-not w {a} {b} ha hb =
    ext w (lt_of_le_of_lt (meet-le a (2 ^ w - 1 - b)) ha) (lt_of_le_of_lt (minus-le a b) ha)
    (λ i l. has_meet a (2 ^ w - 1 - b) i ∙ ap (λ (t : Bool). has a i && t) (has-not w b i hb l) ∙ sym (has-minus a b i))

-- ---- one number, and all below a number

-- `s >> m & 1 == 1`
pub shift_test : (s m : ℕ) → eqb (bit_and (s / 2 ^ m) 1) 1 ≡ has s m
unfolding has
shift_test s m = ap (λ (x : ℕ). eqb x 1) (and_mask (s / 2 ^ m) 1)

pub has-single : (m i : ℕ) → has (single m) i ≡ eqb i m
has-single zero zero = has_0 1
has-single zero (suc i) = has-suc 1 i ∙ has_none i ∙ sym (eqb-suc-zero i)
has-single (suc m) zero =
    let low : 2 ^ suc m % 2 ≡ 0 = omega (arith, pow-suc 2 m) in
    has_0 (2 ^ suc m) ∙ ap (λ (x : ℕ). eqb x 1) low ∙ sym (eqb-zero-suc m)
has-single (suc m) (suc i) =
    let high : 2 ^ suc m / 2 ≡ 2 ^ m = omega (arith, pow-suc 2 m) in
    has-suc (2 ^ suc m) i ∙ ap (λ (x : ℕ). has x i) high ∙ has-single m i ∙ sym (eqb-suc-suc i m)

pub single-lt : (w m : ℕ) → m < w → single m < 2 ^ w
single-lt w m h = pow-lt h

-- `1 << m` at width w
pub one_shl : (w m : ℕ) → m < w → 1 * 2 ^ m % 2 ^ w ≡ single m
one_shl w m h = ap (λ (x : ℕ). x % 2 ^ w) (one-mul (2 ^ m)) ∙ mod-eq_of_lt (single-lt w m h)

-- a truth value moved to place m
pub placed : (w : ℕ) (b : Bool) (m : ℕ) → m < w → bool_byte b * 2 ^ m % 2 ^ w ≡ digit b * 2 ^ m
unfolding digit
placed w true m h = one_shl w m h ∙ sym (one-mul (2 ^ m))
placed w false m h = ap (λ (x : ℕ). x % 2 ^ w) (zero-mul (2 ^ m)) ∙ mod-eq_of_lt (pow_pos w) ∙ sym (zero-mul (2 ^ m))

-- `(1 << a) << k`
pub shl_shl : (w a k : ℕ) → a + k < w → 1 * 2 ^ a % 2 ^ w * 2 ^ k % 2 ^ w ≡ 2 ^ (a + k)
shl_shl w a k h =
    ap (λ (x : ℕ). x * 2 ^ k % 2 ^ w) (one_shl w a (omega arith))
    ∙ ap (λ (x : ℕ). x % 2 ^ w) (sym (pow-add 2 a k))
    ∙ mod-eq_of_lt (pow-lt {j = w} h)

pub has_below : (n i : ℕ) → has (below n) i ≡ ltb i n
has_below zero i = has_none i ∙ sym (leb-suc-zero i)
has_below (suc n) zero =
    let low : (2 ^ suc n - 1) % 2 ≡ 1 = omega (arith, pow-suc 2 n, pow_pos n) in
    has_0 (2 ^ suc n - 1) ∙ ap (λ (x : ℕ). eqb x 1) low ∙ sym (leb-suc-suc 0 n ∙ leb-zero n)
has_below (suc n) (suc i) =
    let high : (2 ^ suc n - 1) / 2 ≡ 2 ^ n - 1 = omega (arith, pow-suc 2 n, pow_pos n) in
    has-suc (2 ^ suc n - 1) i ∙ ap (λ (x : ℕ). has x i) high ∙ has_below n i ∙ sym (leb-suc-suc (suc i) n)

pub below_lt : (n : ℕ) → below n < 2 ^ n
below_lt n = ones_lt n

-- `MAX >> (w - n)` at width w
pub ones_shr : (w n : ℕ) → n ≤ w → (2 ^ w - 1) / 2 ^ (w - n) ≡ below n
ones_shr w n h =
    let e : n + (w - n) ≡ w = omega arith in
    ap (λ (k : ℕ). (2 ^ k - 1) / 2 ^ (w - n)) (sym e) ∙ ap (λ (x : ℕ). x / 2 ^ (w - n)) (ones_split n (w - n)) ∙ high (2 ^ n - 1) (w - n) (ones_lt (w - n))

-- ---- a set in parts: the k low places, and the places from k on

pub has-join_low : (k hi lo i : ℕ) → i < k → has (hi * 2 ^ k + lo) i ≡ has lo i
has-join_low zero hi lo i l = absurd (not-suc-le-zero l)
has-join_low (suc k) hi lo zero l = has_0 (hi * 2 ^ suc k + lo) ∙ ap (λ (x : ℕ). eqb x 1) (block_odd hi k lo) ∙ sym (has_0 lo)
has-join_low (suc k) hi lo (suc i) l =
    has-suc (hi * 2 ^ suc k + lo) i ∙ ap (λ (x : ℕ). has x i) (block_half hi k lo) ∙ has-join_low k hi (lo / 2) i (le_of_suc-le-suc l) ∙ sym (has-suc lo i)

pub has_low : (k s i : ℕ) → i < k → has (s % 2 ^ k) i ≡ has s i
has_low k s i l = sym (has-join_low k (s / 2 ^ k) (s % 2 ^ k) i l) ∙ ap (λ (x : ℕ). has x i) (split s k)

pub has_shr : (k s i : ℕ) → has (s / 2 ^ k) i ≡ has s (k + i)
unfolding has
has_shr k s i = ap (λ (x : ℕ). eqb (x % 2) 1) (shr-shr s k i)

pub has-join-high : (k hi lo i : ℕ) → lo < 2 ^ k → has (hi * 2 ^ k + lo) (k + i) ≡ has hi i
has-join-high k hi lo i h = sym (has_shr k (hi * 2 ^ k + lo) i) ∙ ap (λ (x : ℕ). has x i) (high hi k h)

-- a set with no member at k or above is below 2 ^ k
pub lt_of_members : (w k s : ℕ) → s < 2 ^ w → ((i : ℕ) → k ≤ i → i < w → has s i ≡ false) → s < 2 ^ k
lt_of_members w k s h e =
    let low : s % 2 ^ k < 2 ^ k = mod-lt s (pow_pos k) in
    let same : s % 2 ^ k ≡ s = ext w (lt_of_le_of_lt (mod-le s (2 ^ k)) h) h (λ i l. at i l (dec_le k i)) in
    omega arith
  where
    at : (i : ℕ) → i < w → Dec (k ≤ i) → has (s % 2 ^ k) i ≡ has s i
    at i l (yes q) = has_above k (s % 2 ^ k) i (mod-lt s (pow_pos k)) q ∙ sym (e i q l)
    at i l (no q) = has_low k s i (lt_of_not-le q)

-- ---- the set of a test

digit_lt : (t : Bool) → digit t < 2
unfolding digit
digit_lt true = omega arith
digit_lt false = omega arith

pub set_of-lt : (n : ℕ) (p : ℕ → Bool) → set_of n p < 2 ^ n
unfolding set_of
set_of-lt zero p = zero-lt-suc 0
set_of-lt (suc n) p = subst (λ (x : ℕ). digit (p n) * 2 ^ n + set_of n p < x) (sym (pow-succ' 2 n)) (digits_lt (digit_lt (p n)) (set_of-lt n p))

-- a digit above n places is the truth value at place n
has-digit : (n r : ℕ) (t : Bool) → r < 2 ^ n → has (digit t * 2 ^ n + r) n ≡ t
unfolding has digit
has-digit n r true h = ap (λ (x : ℕ). eqb (x % 2) 1) (high 1 n h)
has-digit n r false h = ap (λ (x : ℕ). eqb (x % 2) 1) (high 0 n h)

pub has-set_of : (n : ℕ) (p : ℕ → Bool) (i : ℕ) → i < n → has (set_of n p) i ≡ p i
unfolding set_of
has-set_of zero p i l = absurd (not-suc-le-zero l)
has-set_of (suc n) p i l =
    ⊎_elim
    (λ (e : i ≡ n). ap (has (digit (p n) * 2 ^ n + set_of n p)) e ∙ has-digit n (set_of n p) (p n) (set_of-lt n p) ∙ ap p (sym e))
    (λ (h : i < n). has-join_low n (digit (p n)) (set_of n p) i h ∙ has-set_of n p i h)
    (eq-or-lt_of_le (le_of_suc-le-suc l))

-- a set of n bits that has what the test says is the set of the test
pub set_of_ext : (n : ℕ) (p : ℕ → Bool) {s : ℕ} → s < 2 ^ n → ((i : ℕ) → i < n → has s i ≡ p i) → s ≡ set_of n p
set_of_ext n p h e = ext n h (set_of-lt n p) (λ i l. e i l ∙ sym (has-set_of n p i l))

-- of every number
pub set_of-has : (n : ℕ) (p : ℕ → Bool) (i : ℕ) → has (set_of n p) i ≡ (ltb i n && p i)
set_of-has n p i = at (below_or_not i n)
  where
    at : (i < n) ⊎ (n ≤ i) → has (set_of n p) i ≡ (ltb i n && p i)
    at (inl l) = rw (lt-ltb i n l) (has-set_of n p i l)
    at (inr l) = rw (le-ltb i n l) (has_above n (set_of n p) i (set_of-lt n p) l)

-- tests that agree below n have one set
pub set_of_same : (n : ℕ) (p q : ℕ → Bool) → ((i : ℕ) → i < n → p i ≡ q i) → set_of n p ≡ set_of n q
set_of_same n p q e = set_of_ext n q (set_of-lt n p) (λ i l. has-set_of n p i l ∙ e i l)

-- a loop over all places that builds the set: n is added where the test holds, and left out where not
pub set_of-add : (n : ℕ) (p : ℕ → Bool) → p n ≡ true → union (set_of n p) (single n) ≡ set_of (n + 1) p
unfolding set_of digit
set_of-add n p e =
    ap (λ (x : ℕ). bit_or (set_of n p) x) (sym (one-mul (2 ^ n)))
    ∙ or_shifted_r 1 n (set_of n p) (set_of-lt n p)
    ∙ ap (λ (t : Bool). digit t * 2 ^ n + set_of n p) (sym e)
    ∙ ap (λ (k : ℕ). set_of k p) (sym (add-one n))

pub set_of_skip : (n : ℕ) (p : ℕ → Bool) → p n ≡ false → set_of n p ≡ set_of (n + 1) p
unfolding set_of digit
set_of_skip n p e =
    sym (zero-add (set_of n p)) ∙ ap (λ (x : ℕ). x + set_of n p) (sym (zero-mul (2 ^ n)))
    ∙ ap (λ (t : Bool). digit t * 2 ^ n + set_of n p) (sym e)
    ∙ ap (λ (k : ℕ). set_of k p) (sym (add-one n))

-- ---- the members of a set that have p

pub those-lt : (w s : ℕ) (p : ℕ → Bool) → those w s p < 2 ^ w
unfolding those
those-lt w s p = set_of-lt w (λ i. has s i && p i)

pub has-those : (w s : ℕ) (p : ℕ → Bool) (i : ℕ) → i < w → has (those w s p) i ≡ (has s i && p i)
unfolding those
has-those w s p = has-set_of w (λ i. has s i && p i)

-- tests that agree on the members of s pick the same
pub those_same : (w s : ℕ) (p q : ℕ → Bool) → ((i : ℕ) → i < w → has s i ≡ true → p i ≡ q i) → those w s p ≡ those w s q
unfolding those
those_same w s p q h = set_of_same w (λ i. has s i && p i) (λ i. has s i && q i) (λ i l. at (has s i) (p i) (q i) (h i l))
  where
    at : (a b c : Bool) → (a ≡ true → b ≡ c) → (a && b) ≡ (a && c)
    at true b c e = e refl
    at false b c e = refl
