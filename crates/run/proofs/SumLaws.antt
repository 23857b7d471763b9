-- Sums over the numbers below n and over the members of a set; and a row that is 0 outside a set: its sum is the one over the set.
-- Assumes nothing.
use mathlib.Core.Path.{◌≡◌, refl, sym, ap, ap₂, ◌∙◌}
use mathlib.Core.Logic.{◌⊎◌, inl, inr}
use mathlib.Core.Bool.{Bool, true, false, ◌&&◌, cond}
use Prim.Native.Nat.{ℕ, zero, suc, ◌+◌, ◌*◌, ◌^◌, ◌≤◌, ◌<◌, zero-le}
use native.Mathlib.Nat.{le_refl, not-suc-le-zero, zero-add, eq-or-lt_of_le, le_of_suc-le-suc}
use mathlib.Core.List.{List, [], ◌∷◌}
use Rattle.std.specs.List.{sum}
use Rattle.std.proofs.lemmas.List.Sums.{sum_by-cons}
use native.Mathlib.Omega.{arith}
use lib.Dec.{T, eqb, eqb→eq}
use lib.ListN.{length, get_or}
use borrow.Author.Tests.{eq-eqb}
use Rattle.sets.specs.Sets.{has, size, every, every_in}
use Rattle.sets.proofs.Tests.{of_true, and_l, and_r, and_i, bool_ext}
use Rattle.sets.proofs.Facts.{every_e, every_i, every_in_e, every_in_i, size-le}
use Rattle.sets.proofs.Membership.{has_none}
use Rattle.sets.proofs.Members.{Turn, without_it, without_other, members-turn}
use Rattle.sets.proofs.Widths.{every_in-turn, every_in_fails, every_in_none}
use Rattle.meaning.specs.Lists.{sum_to}

-- ---- the numbers below n

-- the first number apart from the others
sum_front : (n : ℕ) (f : ℕ → ℕ) → f 0 + sum_to n (λ i. f (suc i)) ≡ sum_to (suc n) f
unfolding sum_to
sum_front zero f = omega arith
sum_front (suc n) f = omega (arith, sum_front n f)

pub sum_list : (l : List ℕ) → sum l ≡ sum_to (length l) (λ i. get_or l i 0)
unfolding sum_to
sum_list [] = refl
sum_list (x ∷ xs) = sum_by-cons (λ n. n) x xs ∙ ap (λ (n : ℕ). x + n) (sum_list xs) ∙ sum_front (length xs) (λ i. get_or (x ∷ xs) i 0)

-- of words
pub sum-le : (f : ℕ → ℕ) (n : ℕ) → ((i : ℕ) → i < n → f i < 2 ^ 32) → sum_to n f ≤ n * 2 ^ 32
unfolding sum_to
sum-le f zero h = zero-le
sum-le f (suc n) h = omega (arith, sum-le f n (λ i l. h i (omega arith)), h n (le_refl (suc n)))

sum_same : (n : ℕ) (f g : ℕ → ℕ) → ((i : ℕ) → i < n → f i ≡ g i) → sum_to n f ≡ sum_to n g
unfolding sum_to
sum_same zero f g e = refl
sum_same (suc n) f g e = ap₂ ◌+◌ (sum_same n f g (λ i l. e i (omega arith))) (e n (le_refl (suc n)))

-- one summand apart
sum_apart : (n t : ℕ) (f g : ℕ → ℕ) → t < n → g t ≡ 0 → ((i : ℕ) → (i ≡ t → ⊥) → g i ≡ f i) → f t + sum_to n g ≡ sum_to n f
unfolding sum_to
sum_apart zero t f g l z e = absurd (not-suc-le-zero l)
sum_apart (suc n) t f g l z e = at (eq-or-lt_of_le (le_of_suc-le-suc l)) (λ k. sum_apart n t f g k z e)
  where
    at : (t ≡ n) ⊎ (t < n) → (t < n → f t + sum_to n g ≡ sum_to n f) → f t + (sum_to n g + g n) ≡ sum_to n f + f n
    at (inl q) on = omega (arith, z, sum_same n g f (λ i k. e i (λ x. omega arith)), ap f q, ap g q)
    at (inr k) on = omega (arith, on k, e n (λ x. omega arith))

-- ---- the members of a set below w

abbrev pub sum_in : ℕ → ℕ → (ℕ → ℕ) → ℕ
sum_in w s f = sum_to w (λ i. cond (has s i) (f i) 0)

part_le : (b : Bool) (x : ℕ) → cond b x 0 ≤ x
part_le true x = le_refl x
part_le false x = zero-le

module _ (f : ℕ → ℕ) where
  -- the lowest member, and then the set without it
  sum_in_turn : {w s t r : ℕ} → Turn w s t r → f t + sum_in w r f ≡ sum_in w s f
  sum_in_turn {w} {s} {t} {r} u =
      let e : f t ≡ cond (has s t) (f t) 0 = rw u.lowest.member in
      ap (λ (x : ℕ). x + sum_in w r f) e
      ∙ sum_apart w t (λ i. cond (has s i) (f i) 0) (λ i. cond (has r i) (f i) 0) u.lowest.small
      (rw (u.removed, without_it s t)) (λ i n. rw (u.removed, without_other s t i n))

  sum_in_none : (w s : ℕ) → s ≡ 0 → sum_in w s f ≡ 0
  unfolding sum_to
  sum_in_none zero s z = refl
  sum_in_none (suc w) s z = rw (sum_in_none w s z, z, has_none w)

  -- no more than all
  sum_in_le : (w s : ℕ) → sum_in w s f ≤ sum_to w f
  unfolding sum_to
  sum_in_le zero s = zero-le
  sum_in_le (suc w) s = omega (arith, sum_in_le w s, part_le (has s w) (f w))

  -- and all only where the rest is 0
  sum_in_all : (w s : ℕ) → sum_in w s f ≡ sum_to w f → (i : ℕ) → i < w → has s i ≡ false → f i ≡ 0
  unfolding sum_to
  sum_in_all zero s e i l n = absurd (not-suc-le-zero l)
  sum_in_all (suc w) s e i l n =
      at (eq-or-lt_of_le (le_of_suc-le-suc l))
      (λ k. sum_in_all w s (omega (arith, e, sum_in_le w s, part_le (has s w) (f w))) i k n)
    where
      at : (i ≡ w) ⊎ (i < w) → (i < w → f i ≡ 0) → f i ≡ 0
      at (inl q) on =
          let z : cond (has s w) (f w) 0 ≡ 0 = rw (sym q, n) in
          omega (arith, e, sum_in_le w s, z, ap f q)
      at (inr k) on = on k

size-turn : {w s t r : ℕ} → Turn w s t r → size w s ≡ suc (size w r)
unfolding size
size-turn u = ap length (members-turn u)

-- ---- a test of each member, and 0 for the others

module _ (w all : ℕ) (p : ℕ → Bool) (f : ℕ → ℕ) where
  abbrev pub member_fits : ℕ → Bool
  member_fits i = cond (has all i) (p i) (eqb (f i) 0)

  -- the members make the whole sum
  abbrev whole : Bool
  whole = eqb (sum_in w all f) (sum_to w f)

  fits_by_sums : every w member_fits ≡ (every_in w all p && whole)
  fits_by_sums = bool_ext (every w member_fits) (every_in w all p && whole) forth back
    where
      member : (b c d : Bool) → T (cond b c d) → T b → T c
      member true c d h k = h
      member false c d h k = absurd k

      other : (b c : Bool) (x : ℕ) → T (cond b c (eqb x 0)) → cond b x 0 ≡ x
      other true c x h = refl
      other false c x h = sym (eqb→eq x 0 h)

      forth : T (every w member_fits) → T (every_in w all p && whole)
      forth h =
          let each = every_e w member_fits h in
          and_i (every_in w all p) whole
          (every_in_i w all p (λ i l m. member (has all i) (p i) (eqb (f i) 0) (each i l) m))
          (of_true (eq-eqb (sum_in w all f) (sum_to w f)
          (sum_same w (λ i. cond (has all i) (f i) 0) f (λ i l. other (has all i) (p i) (f i) (each i l)))))

      back : T (every_in w all p && whole) → T (every w member_fits)
      back h =
          let ok = and_l (every_in w all p) whole h in
          let e = eqb→eq (sum_in w all f) (sum_to w f) (and_r (every_in w all p) whole h) in
          every_i w member_fits (λ i l. at i l ok e (has all i) refl)
        where
          at : (i : ℕ) → i < w → T (every_in w all p) → sum_in w all f ≡ sum_to w f
              → (b : Bool) → has all i ≡ b → T (cond b (p i) (eqb (f i) 0))
          at i l ok e true m = every_in_e w all p ok i l (of_true m)
          at i l ok e false m = of_true (eq-eqb (f i) 0 (sum_in_all f w all e i l m))

  -- the loop over the members, whose f are words: those passed have p, and f of them is added up
  pub record Adding (sum rest : ℕ) : Type 0 where
    pub fits : rest < 2 ^ w
    pub tested : every_in w rest p ≡ every_in w all p
    pub added : sum + sum_in w rest f ≡ sum_in w all f
    pub room : sum + size w rest * 2 ^ 32 ≤ w * 2 ^ 32

  pub adding_start : all < 2 ^ w → Adding 0 all
  adding_start h = record { fits = h; tested = refl; added = zero-add (sum_in w all f); room = omega (arith, size-le w all) }

  module _ {sum rest : ℕ} (a : Adding sum rest) where
    module _ {t r : ℕ} (u : Turn w rest t r) where
      pub adding_fails : p t ≡ false → false ≡ every w member_fits
      adding_fails e =
          sym (fits_by_sums ∙ ap (λ (b : Bool). b && whole) (sym a.tested ∙ every_in_fails p u e))

      module _ (h : f t < 2 ^ 32) where
        pub adding_room : sum + f t ≤ w * 2 ^ 32
        adding_room = omega (arith, h, a.room, size-turn u)

        pub adding_turn : p t ≡ true → Adding (sum + f t) r
        adding_turn e =
            record {
              fits = u.fits;
              tested = every_in-turn p u e ∙ a.tested;
              added = omega (arith, a.added, sum_in_turn f u);
              room = omega (arith, h, a.room, size-turn u);
            }

    pub adding_done : rest ≡ 0 → {total : ℕ} → total ≡ sum_to w f → eqb sum total ≡ every w member_fits
    adding_done z e =
        let s : sum ≡ sum_in w all f = omega (arith, a.added, sum_in_none f w rest z) in
        ap₂ eqb s e
        ∙ sym (fits_by_sums ∙ ap (λ (b : Bool). b && whole) (sym a.tested ∙ every_in_none w rest p z))
