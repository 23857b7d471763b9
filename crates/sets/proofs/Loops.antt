-- Loops that try a test on 0, 1, .. and leave at the first number that decides, or add to a set the numbers that pass: the start,
-- one turn, where it leaves and the end. And how the code tests a call's result. Assumes nothing.
use mathlib.Core.Path.{◌≡◌, refl, sym, ap, ap₂, ◌∙◌}
use mathlib.Core.Logic.{◌⊎◌, inl, inr}
use mathlib.Core.Bool.{Bool, true, false, not, ◌&&◌, ◌||◌, and-true, and-false, and_assoc, and_comm, or-false, or_comm}
use mathlib.Core.List.{List}
use Prim.Native.Nat.{ℕ, zero, suc, ◌+◌, ◌*◌, ◌^◌, ◌≤◌, ◌<◌}
use native.Mathlib.Nat.{le_antisymm, one-mul, zero-mul}
use native.Mathlib.Numerals.{add-one}
use native.Mathlib.Decide.{ℕ_discrete}
use native.Mathlib.Omega.{arith}
use lib.Bits.{or_zero_r}
use lib.Dec.{eqb, ltb, ltb→lt}
use lib.ListN.{length, get_or, set, replicate}
use lib.Seq.{get_or-set_same, get_or-set_other}
use borrow.Author.Tests.{eq-eqb, ne_eqb, lt-ltb, le-ltb, not-true, not-false}
use Rattle.sets.specs.Sets.{has, union, single, digit, set_of, some, every}
use Rattle.sets.proofs.Tests.{is_true, is_false, of_true, of_false, and_r, below_or_not}
use Rattle.sets.proofs.Membership.{set_of-add, set_of_skip}
use Rattle.sets.proofs.Facts.{some_i, every_e}

module _ (p : ℕ → Bool) where
  -- every number below n has p: so far, those below m
  pub every_start : every 0 p ≡ true
  unfolding every
  every_start = refl

  pub every_next : (m : ℕ) → every m p ≡ true → p m ≡ true → every (m + 1) p ≡ true
  unfolding every
  every_next m h k = rw (add-one, k) h

  pub every_fails : (n m : ℕ) → m < n → p m ≡ false → every n p ≡ false
  every_fails n m l k = is_false (every n p) (λ h. of_false k (every_e n p h m l))

  pub every_done : (n m : ℕ) → m ≤ n → n ≤ m → every m p ≡ true → every n p ≡ true
  every_done n m h k e = ap (λ (i : ℕ). every i p) (le_antisymm k h) ∙ e

  -- without leaving: the flag so far, with the test of the next number, or with its two tests
  pub every_test : (m : ℕ) {ok a : Bool} → ok ≡ every m p → a ≡ p m → (ok && a) ≡ every (m + 1) p
  unfolding every
  every_test m h e = rw add-one (ap₂ ◌&&◌ h e ∙ and_comm (every m p) (p m))

  pub every_and : (m : ℕ) (ok a b : Bool) → ok ≡ every m p → p m ≡ (a && b) → (ok && a && b) ≡ every (m + 1) p
  every_and m ok a b h e = and_assoc ok a b ∙ every_test m h (sym e)

  -- some number below n has p: so far, none below m
  pub some_start : some 0 p ≡ false
  unfolding some
  some_start = refl

  pub some_next : (m : ℕ) → some m p ≡ false → p m ≡ false → some (m + 1) p ≡ false
  unfolding some
  some_next m h k = rw (add-one, k) h

  pub some_found : (n m : ℕ) → m < n → p m ≡ true → some n p ≡ true
  some_found n m l k = is_true (some n p) (some_i n p m l (of_true k))

  pub some_done : (n m : ℕ) → m ≤ n → n ≤ m → some m p ≡ false → some n p ≡ false
  some_done n m h k e = ap (λ (i : ℕ). some i p) (le_antisymm k h) ∙ e

  -- without leaving: the flag so far, with the test of the next number
  pub some_or : (m : ℕ) {ok a : Bool} → ok ≡ some m p → a ≡ p m → (ok || a) ≡ some (m + 1) p
  unfolding some
  some_or m {ok} {a} h e = rw (add-one, h, e) (or_comm (some m p) (p m))

  -- of the numbers below m, and of m, those that have p are those below m + 1 that do
  pub below_next : (m i : ℕ) → ((ltb i m && p i) || (p m && eqb i m)) ≡ (ltb i (m + 1) && p i)
  below_next m i = go (ℕ_discrete i m) (below_or_not i m)
    where
      go : Dec (i ≡ m) → (i < m) ⊎ (m ≤ i) → ((ltb i m && p i) || (p m && eqb i m)) ≡ (ltb i (m + 1) && p i)
      go (yes e) b = rw (eq-eqb i m e, le-ltb i m (omega arith), lt-ltb i (m + 1) (omega arith), e) (and-true (p m))
      go (no n) (inl l) = rw (ne_eqb i m n, lt-ltb i m l, lt-ltb i (m + 1) (omega arith), and-false (p m)) (or-false (p i))
      go (no n) (inr l) = rw (ne_eqb i m n, le-ltb i m l, le-ltb i (m + 1) (omega arith)) (and-false (p m))

  -- the numbers below n that have p: so far, those below t; the next is tested by b, and added or passed over
  pub set_of_none : 0 ≡ set_of 0 p
  unfolding set_of
  set_of_none = refl

  pub set_of_added : (t : ℕ) {b : Bool} {r x y : ℕ} → r ≡ set_of t p → x ≡ single t → b ≡ p t → b ≡ true → y ≡ union r x → y ≡ set_of (t + 1) p
  set_of_added t e k h w a = a ∙ ap₂ union e k ∙ set_of-add t p (sym h ∙ w)

  pub set_of_passed : (t : ℕ) {b : Bool} {r y : ℕ} → r ≡ set_of t p → b ≡ p t → b ≡ false → y ≡ r → y ≡ set_of (t + 1) p
  set_of_passed t e h w a = a ∙ e ∙ set_of_skip t p (sym h ∙ w)

  -- or added as the test's digit at its place
  pub set_of_tested : (t : ℕ) {b : Bool} {r x : ℕ} → r ≡ set_of t p → x ≡ digit b * 2 ^ t → b ≡ p t → union r x ≡ set_of (t + 1) p
  unfolding digit
  set_of_tested t {b} e k h = ap₂ union e k ∙ at b (sym h)
    where
      at : (c : Bool) → p t ≡ c → union (set_of t p) (digit c * 2 ^ t) ≡ set_of (t + 1) p
      at true q = ap (union (set_of t p)) (one-mul (2 ^ t)) ∙ set_of-add t p q
      at false q = ap (union (set_of t p)) (zero-mul (2 ^ t)) ∙ or_zero_r (set_of t p) ∙ set_of_skip t p q

  pub set_of_width : {t n r : ℕ} → r ≡ set_of t p → t ≡ n → r ≡ set_of n p
  set_of_width e k = rw k at e

-- ---- a call's result b, which its contract says is c, tested by `if !b`
pub passed : {b c : Bool} → b ≡ c → not b ≡ false → c ≡ true
passed {b} e h = sym e ∙ not-false b h

pub failed : {b c : Bool} → b ≡ c → not b ≡ true → c ≡ false
failed {b} e h = sym e ∙ not-true b h

-- ---- the code's `a && b`, f: it is b where a is true, else a
module _ (a b f : Bool) where
  pub and_on : a ≡ true → f ≡ b → f ≡ (a && b)
  and_on h k = rw h k

  pub and_off : a ≡ false → f ≡ a → f ≡ (a && b)
  and_off h k = rw h (k ∙ h)

-- what its last test says where all passed
pub and_last : (a f : Bool) (i n : ℕ) → f ≡ (a && ltb i n) → f ≡ true → i < n
and_last a f i n h k = ltb→lt i n (and_r a (ltb i n) (of_true (sym h ∙ k)))

-- ---- a list of zeros
pub get_or_zeros : (n i : ℕ) → get_or {A = ℕ} (replicate n 0) i 0 ≡ 0
get_or_zeros zero i = refl
get_or_zeros (suc n) zero = refl
get_or_zeros (suc n) (suc i) = get_or_zeros n i

-- ---- a list with word i stored: its word u is the stored one, or the one that was there
pub set_word : (l : List ℕ) (i v u : ℕ) {x : ℕ} → i < length l → (u ≡ i → v ≡ x) → ((u ≡ i → ⊥) → get_or l u 0 ≡ x) → get_or (set l i v) u 0 ≡ x
set_word l i v u {x} b f g = go (ℕ_discrete u i)
  where
    go : Dec (u ≡ i) → get_or (set l i v) u 0 ≡ x
    go (yes e) = ap (λ (j : ℕ). get_or (set l i v) j 0) e ∙ get_or-set_same l i v 0 b ∙ f e
    go (no e) = get_or-set_other l i u v 0 e ∙ g e

-- the same of bit b of word u
pub set_word_has : (l : List ℕ) (i v u b : ℕ) {x : Bool} → i < length l → (u ≡ i → has v b ≡ x) → ((u ≡ i → ⊥) → has (get_or l u 0) b ≡ x) → has (get_or (set l i v) u 0) b ≡ x
set_word_has l i v u b {x} room f g = go (ℕ_discrete u i)
  where
    go : Dec (u ≡ i) → has (get_or (set l i v) u 0) b ≡ x
    go (yes e) = ap (λ (j : ℕ). has (get_or (set l i v) j 0) b) e ∙ ap (λ (w : ℕ). has w b) (get_or-set_same l i v 0 room) ∙ f e
    go (no e) = ap (λ (w : ℕ). has w b) (get_or-set_other l i u v 0 e) ∙ g e

-- one turn of a loop that fills a list word by word with f 0, f 1, ..
pub row-turn : (f : ℕ → ℕ) (r : List ℕ) (t : ℕ) {v : ℕ} → t < length r → ((u : ℕ) → u < t → get_or r u 0 ≡ f u) → v ≡ f t
    → (u : ℕ) → u < t + 1 → get_or (set r t v) u 0 ≡ f u
row-turn f r t {v} l h e u k = set_word r t v u l (λ i. e ∙ ap f (sym i)) (λ i. h u (omega arith))
