-- Tests on the numbers below n and on the members of a set as equations, and the union of sets over the members of a set. Assumes nothing.
use mathlib.Core.Path.{◌≡◌, refl, sym, ap, ap₂, ◌∙◌, subst}
use mathlib.Core.Bool.{Bool, true, false, not, ◌&&◌, ◌||◌, or_assoc, or-false, or-true, and-false}
use mathlib.Core.Logic.{◌⊎◌, inl, inr, ⊎_elim}
use mathlib.Core.List.{List}
use Prim.Native.Nat.{ℕ, zero, suc, ◌+◌, ◌*◌, ◌/◌, ◌%◌, ◌^◌, ◌<◌}
use native.Mathlib.Nat.{pos_of_ne-zero, eq-zero-or-pos, le_refl, le_step, lt_of_le_of_lt, add-zero, add-suc, suc-add, zero-add, not-suc-le-zero, mul-zero, mod-lt, div-add-mod', div-lt_iff_lt-mul}
use native.Mathlib.Decide.{ℕ_discrete}
use native.Mathlib.Omega.{arith}
use lib.Arith.{digits_lt}
use lib.Dec.{T, T_not, not_T, eqb, eqb→eq, eqb_refl}
use lib.ListN.{length}
use borrow.Author.Tests.{eq-eqb, ne_eqb}
use Rattle.sets.specs.Sets.{has, union, meet, minus, single, meets, set_of, some, every, some_in, every_in, members, members_from, prepend, size, lowest, below}
use Rattle.sets.proofs.Tests.{is_true, is_false, of_true, of_false, and_l, and_r, and_i, bool_ext}
use Rattle.sets.proofs.Membership.{ext, lt-two-pow, has_none, has_meet, has-union, has-single, has-minus, has-set_of, set_of-lt, single-lt, meet-le, minus-le}
use Rattle.sets.proofs.Facts.{union_e, union_l, set_of_i, some_e, some_i, some_in_e, some_in_i, every_e, every_i, every_in_e, every_in_i, below_i}
use Rattle.sets.proofs.Members.{Turn, Lowest, fold, lowest_member, empty, without_other, members_lowest, members_none, minus_member}

-- ---- some number below n has p

pub some_none : (n : ℕ) (p : ℕ → Bool) → some n p ≡ false → (i : ℕ) → i < n → p i ≡ false
some_none n p e i l = is_false (p i) (λ h. of_false e (some_i n p i l h))

pub some-false : (n : ℕ) (p : ℕ → Bool) → ((i : ℕ) → i < n → p i ≡ false) → some n p ≡ false
some-false n p e = is_false (some n p) (λ h. let r = some_e n p h in of_false (e r.0 r.1) r.2)

-- a set by a test is not empty
pub set_of-some : (n : ℕ) (p : ℕ → Bool) → not (eqb (set_of n p) 0) ≡ some n p
set_of-some n p = go (some n p) refl
  where
    go : (b : Bool) → some n p ≡ b → not (eqb (set_of n p) 0) ≡ b
    go true e =
        let r = some_e n p (of_true e) in
        is_true (not (eqb (set_of n p) 0)) (not_T (eqb (set_of n p) 0) (λ z. of_false (has_none r.0) (subst (λ (x : ℕ). T (has x r.0)) (eqb→eq (set_of n p) 0 z) (set_of_i n p r.0 r.1 r.2))))
    go false e = ap not (eq-eqb (set_of n p) 0 (empty n (set_of-lt n p) (λ i l. has-set_of n p i l ∙ some_none n p e i l)))

-- the number k below n has p
pub some_at : (n k : ℕ) (p : ℕ → Bool) → k < n → some n (λ i. p i && eqb k i) ≡ p k
some_at n k p l =
    bool_ext (some n (λ i. p i && eqb k i)) (p k)
    (λ h.
    let r = some_e n (λ i. p i && eqb k i) h in
    subst (λ (i : ℕ). T (p i)) (sym (eqb→eq k r.0 (and_r (p r.0) (eqb k r.0) r.2))) (and_l (p r.0) (eqb k r.0) r.2))
    (λ h. some_i n (λ i. p i && eqb k i) k l (and_i (p k) (eqb k k) h (eqb_refl k)))

pub some_same : (n : ℕ) (p q : ℕ → Bool) → ((i : ℕ) → i < n → p i ≡ q i) → some n p ≡ some n q
unfolding some
some_same zero p q e = refl
some_same (suc n) p q e = ap₂ ◌||◌ (e n (le_refl (suc n))) (some_same n p q (λ i l. e i (le_step l)))

-- tests that agree below w say the same of the members
pub some_in_same : (w a : ℕ) (p q : ℕ → Bool) → ((i : ℕ) → i < w → p i ≡ q i) → some_in w a p ≡ some_in w a q
unfolding some_in
some_in_same w a p q e = some_same w (λ i. has a i && p i) (λ i. has a i && q i) (λ i l. ap (λ (b : Bool). has a i && b) (e i l))

-- tests that agree at the members say the same of them
pub every_in_same : (w a : ℕ) (p q : ℕ → Bool) → ((i : ℕ) → i < w → T (has a i) → p i ≡ q i) → every_in w a p ≡ every_in w a q
every_in_same w a p q e =
    bool_ext (every_in w a p) (every_in w a q)
    (λ h. every_in_i w a q (λ i l m. subst T (e i l m) (every_in_e w a p h i l m)))
    (λ h. every_in_i w a p (λ i l m. subst T (sym (e i l m)) (every_in_e w a q h i l m)))

-- two members, one of each set, in either order
pub some_in_swap : (v w a b : ℕ) (r : ℕ → ℕ → Bool) → some_in v a (λ t. some_in w b (r t)) ≡ some_in w b (λ u. some_in v a (λ t. r t u))
some_in_swap v w a b r = bool_ext (some_in v a (λ t. some_in w b (r t))) (some_in w b (λ u. some_in v a (λ t. r t u))) (go v w a b r) (go w v b a (λ u t. r t u))
  where
    go : (v w a b : ℕ) (r : ℕ → ℕ → Bool) → T (some_in v a (λ t. some_in w b (r t))) → T (some_in w b (λ u. some_in v a (λ t. r t u)))
    go v w a b r h =
        let f = some_in_e v a (λ t. some_in w b (r t)) h in
        let g = some_in_e w b (r f.0) f.3 in
        some_in_i w b (λ u. some_in v a (λ t. r t u)) g.0 g.1 g.2 (some_in_i v a (λ t. r t g.0) f.0 f.1 f.2 g.3)

-- ---- every number below n has p

pub every_same : (n : ℕ) (p q : ℕ → Bool) → ((i : ℕ) → i < n → p i ≡ q i) → every n p ≡ every n q
every_same n p q e =
    bool_ext (every n p) (every n q)
    (λ h. every_i n q (λ i l. subst T (e i l) (every_e n p h i l)))
    (λ h. every_i n p (λ i l. subst T (sym (e i l)) (every_e n q h i l)))

pub every_both : (n : ℕ) (p q : ℕ → Bool) → every n (λ i. p i && q i) ≡ (every n p && every n q)
every_both n p q =
    bool_ext (every n (λ i. p i && q i)) (every n p && every n q)
    (λ h.
    let k = every_e n (λ i. p i && q i) h in
    and_i (every n p) (every n q) (every_i n p (λ i l. and_l (p i) (q i) (k i l))) (every_i n q (λ i l. and_r (p i) (q i) (k i l))))
    (λ h. every_i n (λ i. p i && q i) (λ i l.
    and_i (p i) (q i) (every_e n p (and_l (every n p) (every n q) h) i l) (every_e n q (and_r (every n p) (every n q) h) i l)))

-- one of them has not
pub every_false : (w : ℕ) (p : ℕ → Bool) → every w p ≡ false → (i : ℕ) × (i < w) × (p i ≡ false)
unfolding every
every_false zero p e = absurd (of_false e tt)
every_false (suc w) p e = go (p w) refl e (every_false w p)
  where
    go : (b : Bool) → p w ≡ b → (b && every w p) ≡ false → (every w p ≡ false → (i : ℕ) × (i < w) × (p i ≡ false))
        → (i : ℕ) × (i < suc w) × (p i ≡ false)
    go true q e on = let (i, l, f) = on e in (i, omega arith, f)
    go false q e on = (w, omega arith, q)

pub every_in-false : (w s : ℕ) (p : ℕ → Bool) → every_in w s p ≡ false → (i : ℕ) × (i < w) × T (has s i) × (p i ≡ false)
unfolding every_in
every_in-false w s p e =
    let (i, l, f) = every_false w (λ i. not (has s i) || p i) e in
    let (m, g) = go (has s i) (p i) f in (i, l, m, g)
  where
    go : (a b : Bool) → (not a || b) ≡ false → T a × (b ≡ false)
    go true b f = (tt, f)
    go false b f = absurd (of_false f tt)

-- the members of the set of all numbers below n
pub every_in_all : (n : ℕ) (p : ℕ → Bool) → every_in n (below n) p ≡ every n p
every_in_all n p =
    bool_ext (every_in n (below n) p) (every n p)
    (λ h. every_i n p (λ i l. every_in_e n (below n) p h i l (below_i n i l)))
    (λ h. every_in_i n (below n) p (λ i l m. every_e n p h i l))

-- m rows of n numbers
pub every_rows : (m n : ℕ) (p : ℕ → Bool) → every m (λ d. every n (λ i. p (d * n + i))) ≡ every (m * n) p
every_rows m n p = bool_ext (every m (λ d. every n (λ i. p (d * n + i)))) (every (m * n) p) forth back
  where
    filled : (c : ℕ) → c < m * n → (n ≡ 0) ⊎ (0 < n) → 0 < n
    filled c l (inl e) = absurd (not-suc-le-zero (rw (e, mul-zero m) at l))
    filled c l (inr h) = h

    forth : T (every m (λ d. every n (λ i. p (d * n + i)))) → T (every (m * n) p)
    forth h =
        every_i (m * n) p (λ c l.
        let some = filled c l (eq-zero-or-pos n) in
        let row = every_e m (λ d. every n (λ i. p (d * n + i))) h (c / n) ((div-lt_iff_lt-mul some).1 l) in
        subst (λ (x : ℕ). T (p x)) (div-add-mod' c n) (every_e n (λ i. p (c / n * n + i)) row (c % n) (mod-lt c some)))

    back : T (every (m * n) p) → T (every m (λ d. every n (λ i. p (d * n + i))))
    back h =
        every_i m (λ d. every n (λ i. p (d * n + i))) (λ d l.
        every_i n (λ i. p (d * n + i)) (λ i k. every_e (m * n) p h (d * n + i) (digits_lt l k)))

-- ---- two sets meet where some number is in both

pub meets-some : (w a b : ℕ) → a < 2 ^ w → meets a b ≡ some w (λ i. has a i && has b i)
meets-some w a b h = bool_ext (meets a b) (some w (λ i. has a i && has b i)) forth back
  where
    forth : T (meets a b) → T (some w (λ i. has a i && has b i))
    forth m =
        let t = lowest w (meet a b) in
        let filled : 0 < meet a b = pos_of_ne-zero (λ e. T_not (eqb (meet a b) 0) m (of_true (eq-eqb (meet a b) 0 e))) in
        let l = lowest_member w (meet a b) (lt_of_le_of_lt (meet-le a b) h) filled in
        some_i w (λ i. has a i && has b i) t l.small (of_true (sym (has_meet a b t) ∙ l.member))

    back : T (some w (λ i. has a i && has b i)) → T (meets a b)
    back s =
        let r = some_e w (λ i. has a i && has b i) s in
        not_T (eqb (meet a b) 0)
        (λ e. of_false (sym (has_meet a b r.0) ∙ ap (λ (x : ℕ). has x r.0) (eqb→eq (meet a b) 0 e) ∙ has_none r.0) r.2)

pub meets_e : (a b : ℕ) → T (meets a b) → (i : ℕ) × T (has a i) × T (has b i)
meets_e a b h =
    let r = some_e a (λ i. has a i && has b i) (subst T (meets-some a a b (lt-two-pow a)) h) in
    (r.0, and_l (has a r.0) (has b r.0) r.2, and_r (has a r.0) (has b r.0) r.2)

pub meets_i : (a b i : ℕ) → T (has a i) → T (has b i) → T (meets a b)
meets_i a b i h k =
    not_T (eqb (meet a b) 0)
    (λ e. of_false (sym (has_meet a b i) ∙ ap (λ (x : ℕ). has x i) (eqb→eq (meet a b) 0 e) ∙ has_none i) (and_i (has a i) (has b i) h k))

-- what v does not meet adds nothing
pub meets-union : (v a b : ℕ) → (T (meets v b) → ⊥) → meets v (union a b) ≡ meets v a
meets-union v a b n =
    bool_ext (meets v (union a b)) (meets v a)
    (λ h.
    let r = meets_e v (union a b) h in
    ⊎_elim (λ k. meets_i v a r.0 r.1 k) (λ k. absurd (n (meets_i v b r.0 r.1 k))) (union_e a b r.0 r.2))
    (λ h. let r = meets_e v a h in meets_i v (union a b) r.0 r.1 (union_l a b r.0 r.2))

-- ---- a less b is empty where every member of a is in b

pub minus_every : (w a b : ℕ) → a < 2 ^ w → eqb (minus a b) 0 ≡ every_in w a (has b)
minus_every w a b h = bool_ext (eqb (minus a b) 0) (every_in w a (has b)) forth back
  where
    in_both : (x y : Bool) → (x && not y) ≡ false → T x → T y
    in_both true true e k = tt
    in_both true false e k = absurd (of_false e tt)
    in_both false y e k = absurd k

    forth : T (eqb (minus a b) 0) → T (every_in w a (has b))
    forth e =
        every_in_i w a (has b)
        (λ i l. in_both (has a i) (has b i) (sym (has-minus a b i) ∙ ap (λ (x : ℕ). has x i) (eqb→eq (minus a b) 0 e) ∙ has_none i))

    outside : T (every_in w a (has b)) → (i : ℕ) → i < w → T (has a i && not (has b i)) → ⊥
    outside e i l k = T_not (has b i) (and_r (has a i) (not (has b i)) k) (every_in_e w a (has b) e i l (and_l (has a i) (not (has b i)) k))

    back : T (every_in w a (has b)) → T (eqb (minus a b) 0)
    back e =
        of_true (eq-eqb (minus a b) 0
        (empty w (lt_of_le_of_lt (minus-le a b) h) (λ i l. has-minus a b i ∙ is_false (has a i && not (has b i)) (outside e i l))))

-- ---- a loop over the members that looks for one with p: it is at hand, or the set without a member that has no p says the same

pub some_in-turn : {w s t r : ℕ} (p : ℕ → Bool) → Turn w s t r → p t ≡ false → some_in w r p ≡ some_in w s p
unfolding some_in
some_in-turn {w} {s} {t} {r} p u e = some_same w (λ i. has r i && p i) (λ i. has s i && p i) (λ i l. at i (ℕ_discrete i t))
  where
    at : (i : ℕ) → Dec (i ≡ t) → (has r i && p i) ≡ (has s i && p i)
    at i (yes q) =
        ap (λ (x : Bool). has r i && x) (ap p q ∙ e) ∙ and-false (has r i)
        ∙ sym (ap (λ (x : Bool). has s i && x) (ap p q ∙ e) ∙ and-false (has s i))
    at i (no q) = ap (λ (x : Bool). x && p i) (ap (λ (x : ℕ). has x i) u.removed ∙ without_other s t i q)

pub some_in_found : {w s t r : ℕ} (p : ℕ → Bool) → Turn w s t r → p t ≡ true → some_in w s p ≡ true
some_in_found {w} {s} {t} p u e = is_true (some_in w s p) (some_in_i w s p t u.lowest.small (of_true u.lowest.member) (of_true e))

pub some_in_none : (w s : ℕ) (p : ℕ → Bool) → s ≡ 0 → some_in w s p ≡ false
unfolding some_in
some_in_none w s p e = some-false w (λ i. has s i && p i) (λ i l. ap (λ (x : Bool). x && p i) (ap (λ (x : ℕ). has x i) e ∙ has_none i))

-- ---- the union of g t over the members t of s

or_swap : (a b c : Bool) → (a || (b || c)) ≡ (b || (a || c))
or_swap true b c = sym (or-true b)
or_swap false b c = refl

some_head : (n : ℕ) (p : ℕ → Bool) → some (suc n) p ≡ (p 0 || some n (λ i. p (suc i)))
unfolding some
some_head zero p = refl
some_head (suc n) p = ap (λ (x : Bool). p (suc n) || x) (some_head n p) ∙ or_swap (p (suc n)) (p 0) (some n (λ i. p (suc i)))

module _ (g : ℕ → ℕ) (i : ℕ) where
  union-prepend : (b : Bool) (k z : ℕ) (l : List ℕ) (r : Bool) → ((y : ℕ) → has (fold (λ a t. union a (g t)) y l) i ≡ (has y i || r))
      → has (fold (λ a t. union a (g t)) z (prepend b k l)) i ≡ (has z i || ((b && has (g k) i) || r))
  unfolding prepend fold
  union-prepend true k z l r h = h (union z (g k)) ∙ ap (λ (x : Bool). x || r) (has-union z (g k) i) ∙ or_assoc (has z i) (has (g k) i) r
  union-prepend false k z l r h = h z

  union_from : (s n k z : ℕ) → has (fold (λ a t. union a (g t)) z (members_from k n s)) i ≡ (has z i || some n (λ j. has s (k + j) && has (g (k + j)) i))
  unfolding members_from fold
  union_from s zero k z = unfold some in sym (or-false (has z i))
  union_from s (suc n) k z =
      let q : ℕ → Bool = λ j. has s j && has (g j) i in
      union-prepend (has s k) k z (members_from (suc k) n s) (some n (λ j. q (suc k + j))) (union_from s n (suc k))
      ∙ ap (λ (x : Bool). has z i || x)
      (sym (some_head n (λ j. q (k + j))
      ∙ ap₂ ◌||◌ (ap q (add-zero k)) (some_same n (λ j. q (k + suc j)) (λ j. q (suc k + j)) (λ j l. ap q (add-suc k j ∙ sym (suc-add k j))))))

  -- i is in the union where it is in z, or in g t for some member t of s
  pub has-union_over : (w s z : ℕ) → has (fold (λ a t. union a (g t)) z (members w s)) i ≡ (has z i || some_in w s (λ t. has (g t) i))
  unfolding members some_in
  has-union_over w s z =
      union_from s w 0 z
      ∙ ap (λ (x : Bool). has z i || x)
      (some_same w (λ j. has s (0 + j) && has (g (0 + j)) i) (λ j. has s j && has (g j) i) (λ j l. ap (λ (k : ℕ). has s k && has (g k) i) (zero-add j)))

-- ---- one member alone

size_none : (w s : ℕ) → s < 2 ^ w → size w s ≡ 0 → s ≡ 0
unfolding size
size_none w s h e =
    ⊎_elim (λ z. z)
    (λ p. absurd (let m = ap length (members_lowest (lowest_member w s h p)) in omega arith))
    (eq-zero-or-pos s)

-- a set of one member is the single set of that member
pub one_member_lem : (w s : ℕ) → s < 2 ^ w → size w s ≡ 1 → (t : ℕ) × (t < w) × (s ≡ single t)
unfolding size
one_member_lem w s h e =
    ⊎_elim
    (λ z. absurd (let m = ap (λ (x : ℕ). length (members w x)) z in let n = ap length (members_none w) in omega arith))
    (λ p.
    let t = lowest w s in
    let l = lowest_member w s h p in
    let m = ap length (members_lowest l) in
    let z : minus s (single t) ≡ 0 = size_none w (minus s (single t)) (lt_of_le_of_lt (minus-le s (single t)) h) (omega arith) in
    (t, l.small, omega (arith, minus_member s t l.member)))
    (eq-zero-or-pos s)

pub size-single : (w t : ℕ) → t < w → size w (single t) ≡ 1
unfolding size
size-single w t h =
    let l : Lowest w (single t) t = record { small = h; member = has-single t t ∙ eq-eqb t t refl; least = λ j k. has-single t j ∙ ne_eqb j t (λ q. omega arith) } in
    let z : minus (single t) (single t) ≡ 0 = omega (arith, minus_member (single t) t l.member) in
    ap length (members_lowest l) ∙ ap (λ (x : ℕ). suc (length (members w x))) z ∙ ap (λ (m : List ℕ). suc (length m)) (members_none w)

-- the size is 1 exactly where one number alone is in the set
pub size_one_e : (w a : ℕ) → a < 2 ^ w → size w a ≡ 1 → (j : ℕ) × (j < w) × T (has a j) × ((i : ℕ) → T (has a i) → i ≡ j)
size_one_e w a l e =
    let r = one_member_lem w a l e in
    let t = r.0 in
    let at : (i : ℕ) → has a i ≡ eqb i t = λ i. ap (λ (b : ℕ). has b i) r.2 ∙ has-single t i in
    (t, r.1, subst T (sym (at t)) (eqb_refl t), λ i h. eqb→eq i t (subst T (at i) h))

pub size_one_i : (w a j : ℕ) → a < 2 ^ w → j < w → T (has a j) → ((i : ℕ) → T (has a i) → i ≡ j) → size w a ≡ 1
size_one_i w a j l k h u =
    let at : (i : ℕ) → i < w → has a i ≡ has (single j) i = λ i m.
    bool_ext (has a i) (eqb i j) (λ g. of_true (eq-eqb i j (u i g))) (λ g. subst (λ (x : ℕ). T (has a x)) (sym (eqb→eq i j g)) h) ∙ sym (has-single j i) in
    ap (size w) (ext w l (single-lt w j k) at) ∙ size-single w j k
