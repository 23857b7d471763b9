-- A loop over the members of a set that builds the set of those with p, and the number of a member in the order. Assumes nothing.
use mathlib.Core.Path.{◌≡◌, refl, sym, ap, ap₂, ◌∙◌, subst}
use mathlib.Core.Bool.{Bool, true, false, not, ◌&&◌, ◌||◌, and-true, and-false, or-false, or-true}
use Prim.Native.Nat.{ℕ, zero, suc, ◌+◌, ◌-◌, ◌*◌, ◌^◌, ◌≤◌, ◌<◌, zero-le, suc-le-suc}
use native.Mathlib.Nat.{not-suc-le-zero, le_of_suc-le-suc, le_refl, lt_of_le_of_lt, add-zero, sub-zero, zero-add, sub_self, one-mul, zero-mul}
use native.Mathlib.Decide.{ℕ_discrete}
use native.Mathlib.Omega.{arith}
use lib.Bits.{or_zero_r}
use lib.Dec.{T}
use lib.ListN.{length, get_or}
use borrow.Author.Tests.{eq-eqb, ne_eqb}
use Rattle.sets.specs.Sets.{has, union, minus, single, digit, those, members, members_from, prepend, size}
use Rattle.sets.proofs.Tests.{is_true, of_true, of_false, and_l}
use Rattle.sets.proofs.Membership.{has_none, has_above, has-union, has-minus, has-single, union-lt, single-lt, minus-le, lt_of_members, ext}
pub use Rattle.sets.proofs.Membership.{has-those, those-lt, those_same}
use Rattle.sets.proofs.Members.{Turn, empty, without_it, without_other}

-- the members with p are no more than the set
pub those_part_lt : (w k s : ℕ) (p : ℕ → Bool) → s < 2 ^ k → those w s p < 2 ^ k
those_part_lt w k s p h =
    lt_of_members w k (those w s p) (those-lt w s p) (λ i l m. has-those w s p i m ∙ ap (λ (b : Bool). b && p i) (has_above k s i h l))

pub those_none : (w s : ℕ) (p : ℕ → Bool) → s ≡ 0 → those w s p ≡ 0
those_none w s p e =
    empty w (those-lt w s p) (λ i l. has-those w s p i l ∙ ap (λ (b : Bool). b && p i) (ap (λ (x : ℕ). has x i) e ∙ has_none i))

-- ---- the loop: the set built so far is `minus (those w all p) s`, where s is what is left of all

-- each member of s is one of all
abbrev pub Subset : ℕ → ℕ → Type 0
Subset s all = (i : ℕ) → T (has s i) → T (has all i)

pub subset_turn : {w s t r : ℕ} (all : ℕ) → Turn w s t r → Subset s all → Subset r all
subset_turn {s = s} {t = t} all u h i k =
    h i (and_l (has s i) (not (has (single t) i)) (subst T (ap (λ (x : ℕ). has x i) u.removed ∙ has-minus s (single t) i) k))

-- nothing is built at the start
pub those_start : (w all : ℕ) (p : ℕ → Bool) → minus (those w all p) all ≡ 0
those_start w all p =
    empty w (lt_of_le_of_lt (minus-le (those w all p) all) (those-lt w all p))
    (λ i l. has-minus (those w all p) all i ∙ ap (λ (x : Bool). x && not (has all i)) (has-those w all p i l) ∙ gone (has all i) (p i))
  where
    gone : (a b : Bool) → ((a && b) && not a) ≡ false
    gone true b = and-false b
    gone false b = refl

-- and all of it at the end
pub those_done : (w all s : ℕ) (p : ℕ → Bool) → s ≡ 0 → minus (those w all p) s ≡ those w all p
those_done w all s p e =
    ext w (lt_of_le_of_lt (minus-le (those w all p) s) (those-lt w all p)) (those-lt w all p)
    (λ i l. has-minus (those w all p) s i
    ∙ ap (λ (x : Bool). has (those w all p) i && not x) (ap (λ (x : ℕ). has x i) e ∙ has_none i)
    ∙ and-true (has (those w all p) i))

module _ {w s t r : ℕ} (d : ℕ) (u : Turn w s t r) where
  gone : has r t ≡ false
  gone = ap (λ (x : ℕ). has x t) u.removed ∙ without_it s t

  -- a turn changes what is left at t alone
  built_other : (i : ℕ) → (i ≡ t → ⊥) → has (minus d s) i ≡ has (minus d r) i
  built_other i n =
      has-minus d s i
      ∙ ap (λ (x : Bool). has d i && not x) (sym (ap (λ (x : ℕ). has x i) u.removed ∙ without_other s t i n))
      ∙ sym (has-minus d r i)

  built_skip : d < 2 ^ w → has d t ≡ false → minus d s ≡ minus d r
  built_skip h e =
      ext w (lt_of_le_of_lt (minus-le d s) h) (lt_of_le_of_lt (minus-le d r) h) (λ i l. at i (ℕ_discrete i t))
    where
      none : (x : ℕ) → has (minus d x) t ≡ false
      none x = has-minus d x t ∙ ap (λ (b : Bool). b && not (has x t)) e

      at : (i : ℕ) → Dec (i ≡ t) → has (minus d s) i ≡ has (minus d r) i
      at i (yes q) = ap (has (minus d s)) q ∙ none s ∙ sym (ap (has (minus d r)) q ∙ none r)
      at i (no q) = built_other i q

  pub built_add : d < 2 ^ w → has d t ≡ true → union (minus d s) (single t) ≡ minus d r
  built_add h e =
      ext w (union-lt w (lt_of_le_of_lt (minus-le d s) h) (single-lt w t u.lowest.small)) (lt_of_le_of_lt (minus-le d r) h) (λ i l. at i (ℕ_discrete i t))
    where
      at : (i : ℕ) → Dec (i ≡ t) → has (union (minus d s) (single t)) i ≡ has (minus d r) i
      at i (yes q) =
          has-union (minus d s) (single t) i
          ∙ ap (λ (b : Bool). has (minus d s) i || b) (has-single t i ∙ eq-eqb i t q) ∙ or-true (has (minus d s) i)
          ∙ sym (ap (has (minus d r)) q ∙ has-minus d r t ∙ ap₂ (λ (a b : Bool). a && not b) e gone)
      at i (no q) =
          has-union (minus d s) (single t) i
          ∙ ap (λ (b : Bool). has (minus d s) i || b) (has-single t i ∙ ne_eqb i t q) ∙ or-false (has (minus d s) i) ∙ built_other i q

-- t leaves what is left: it is added where it has p, and else nothing changes
pub those-add : {w s t r : ℕ} (all : ℕ) (p : ℕ → Bool) → Turn w s t r → Subset s all → p t ≡ true
    → union (minus (those w all p) s) (single t) ≡ minus (those w all p) r
those-add {w} {s} {t} {r} all p u h e =
    built_add (those w all p) u (those-lt w all p)
    (has-those w all p t u.lowest.small ∙ ap₂ ◌&&◌ (is_true (has all t) (h t (of_true u.lowest.member))) e)

pub those_skip : {w s t r : ℕ} (all : ℕ) (p : ℕ → Bool) → Turn w s t r → p t ≡ false → minus (those w all p) s ≡ minus (those w all p) r
those_skip {w} {s} {t} {r} all p u e =
    built_skip (those w all p) u (those-lt w all p)
    (has-those w all p t u.lowest.small ∙ ap (λ (b : Bool). has all t && b) e ∙ and-false (has all t))

-- the same as the code makes it: t tested by b, and x the set of t alone
module _ {w s t r : ℕ} (all : ℕ) (p : ℕ → Bool) (u : Turn w s t r) where
  pub those_added : {b : Bool} {a x y : ℕ} → Subset s all → a ≡ minus (those w all p) s → x ≡ single t → b ≡ p t → b ≡ true → y ≡ union a x
      → y ≡ minus (those w all p) r
  those_added i e k h v c = c ∙ ap₂ union e k ∙ those-add all p u i (sym h ∙ v)

  pub those_passed : {b : Bool} {a y : ℕ} → a ≡ minus (those w all p) s → b ≡ p t → b ≡ false → y ≡ a → y ≡ minus (those w all p) r
  those_passed e h v c = c ∙ e ∙ those_skip all p u (sym h ∙ v)

  -- or added as the test's digit at its place
  pub those_tested : {b : Bool} {a x : ℕ} → Subset s all → a ≡ minus (those w all p) s → x ≡ digit b * 2 ^ t → b ≡ p t
      → union a x ≡ minus (those w all p) r
  unfolding digit
  those_tested {b} i e k h = ap₂ union e k ∙ at b (sym h)
    where
      at : (c : Bool) → p t ≡ c → union (minus (those w all p) s) (digit c * 2 ^ t) ≡ minus (those w all p) r
      at true q = ap (union (minus (those w all p) s)) (one-mul (2 ^ t)) ∙ those-add all p u i q
      at false q =
          ap (union (minus (those w all p) s)) (zero-mul (2 ^ t)) ∙ or_zero_r (minus (those w all p) s) ∙ those_skip all p u q

-- ---- the member of number i, counted from 0, is the one with i members below it

record Nth (k n s i t : ℕ) : Type 0 where
  from : k ≤ t
  upto : t < k + n
  member : has s t ≡ true
  rank : length (members_from k (t - k) s) ≡ i

nth_from : (n k s i : ℕ) → i < length (members_from k n s) → Nth k n s i (get_or (members_from k n s) i 0)
unfolding members_from
nth_from zero k s i l = absurd (not-suc-le-zero l)
nth_from (suc n) k s i l = pick (λ j. nth_from n (suc k) s j) (has s k) refl i l
  where
    later : (b : Bool) → has s k ≡ b → (j t : ℕ) → Nth (suc k) n s j t → (m : ℕ) → length (prepend b k (members_from (suc k) (t - suc k) s)) ≡ m → Nth k (suc n) s m t
    later b q j t h m e =
        let z : t - k ≡ suc (t - suc k) = omega (arith, h.from) in
        record {
          from = omega (arith, h.from);
          upto = omega (arith, h.upto);
          member = h.member;
          rank =
              ap (λ (x : ℕ). length (members_from k x s)) z
              ∙ ap (λ (x : Bool). length (prepend x k (members_from (suc k) (t - suc k) s))) q ∙ e;
        }

    pick : ((j : ℕ) → j < length (members_from (suc k) n s) → Nth (suc k) n s j (get_or (members_from (suc k) n s) j 0))
        → (b : Bool) → has s k ≡ b → (j : ℕ) → j < length (prepend b k (members_from (suc k) n s)) → Nth k (suc n) s j (get_or (prepend b k (members_from (suc k) n s)) j 0)
    pick ih true q zero h = record { from = le_refl k; upto = omega arith; member = q; rank = ap (λ (x : ℕ). length (members_from k x s)) (sub_self k) }
    pick ih true q (suc j) h = let r = ih j (le_of_suc-le-suc h) in later true q j _ r (suc j) (ap suc r.rank)
    pick ih false q j h = let r = ih j h in later false q j _ r j r.rank

pub nth_member : (w s i : ℕ) → i < size w s → let t = get_or (members w s) i 0 in (t < w) × (has s t ≡ true) × (size t s ≡ i)
unfolding size members
nth_member w s i l =
    let r = nth_from w 0 s i l in
    let t = get_or (members_from 0 w s) i 0 in
    (omega (arith, r.upto), r.member, ap (λ (x : ℕ). length (members_from 0 x s)) (sym (sub-zero t)) ∙ r.rank)

-- and the member t has the number of the members below it
below_rank : (d n k s : ℕ) → d < n → has s (k + d) ≡ true
    → (length (members_from k d s) < length (members_from k n s)) × (get_or (members_from k n s) (length (members_from k d s)) 0 ≡ k + d)
unfolding members_from
below_rank d zero k s l e = absurd (not-suc-le-zero l)
below_rank zero (suc n) k s l e = at (has s k) (ap (has s) (sym (add-zero k)) ∙ e)
  where
    at : (b : Bool) → b ≡ true → (0 < length (prepend b k (members_from (suc k) n s))) × (get_or (prepend b k (members_from (suc k) n s)) 0 0 ≡ k + 0)
    at true q = (suc-le-suc zero-le, sym (add-zero k))
    at false q = absurd (of_false (sym q) tt)
below_rank (suc d) (suc n) k s l e =
    let z : suc k + d ≡ k + suc d = omega arith in
    let ih = below_rank d n (suc k) s (le_of_suc-le-suc l) (ap (has s) z ∙ e) in
    at (has s k) ih.0 (ih.1 ∙ z)
  where
    at : (b : Bool) → length (members_from (suc k) d s) < length (members_from (suc k) n s) → get_or (members_from (suc k) n s) (length (members_from (suc k) d s)) 0 ≡ k + suc d
        → (length (prepend b k (members_from (suc k) d s)) < length (prepend b k (members_from (suc k) n s)))
        × (get_or (prepend b k (members_from (suc k) n s)) (length (prepend b k (members_from (suc k) d s))) 0 ≡ k + suc d)
    at true p q = (suc-le-suc p, q)
    at false p q = (p, q)

pub member_nth : (w s t : ℕ) → t < w → has s t ≡ true → (size t s < size w s) × (get_or (members w s) (size t s) 0 ≡ t)
unfolding size members
member_nth w s t l e = let r = below_rank t w 0 s l (ap (has s) (zero-add t) ∙ e) in (r.0, r.1 ∙ zero-add t)
