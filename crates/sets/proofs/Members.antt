-- The members of a set in increasing order: their count, the lowest of them, and the set without it. Assumes nothing.
use mathlib.Core.Path.{◌≡◌, refl, sym, ap, ap₂, ◌∙◌, subst}
use mathlib.Core.Bool.{Bool, true, false, not, ◌&&◌, and-true, and-false}
use mathlib.Core.List.{List, [], ◌∷◌}
use mathlib.Core.Logic.{⊎_elim}
use Prim.Native.Nat.{ℕ, zero, suc, ◌+◌, ◌-◌, ◌/◌, ◌%◌, ◌^◌, ◌≤◌, ◌<◌, zero-le, suc-le-suc}
use native.Mathlib.Nat.{mod-lt, zero-lt-suc, not-suc-le-zero, le_of_suc-le-suc, le_refl, lt_of_le_of_lt, lt_trans, pos_of_ne-zero, eq-zero-or-pos, pow-suc, add-zero, zero-add}
use native.Mathlib.Numerals.{add-one}
use native.Mathlib.Decide.{ℕ_discrete}
use native.Mathlib.Omega.{arith}
use lib.Dec.{eqb}
use lib.Arith.{lt-one}
use lib.Pow.{pow_pos}
use lib.Bits.{bit_and, and_step, and_le_l, and_le_r, and_self}
use lib.ListN.{length, drop, get_or}
use lib.Count.{ones, ones_step, count_trailing_zeros, trailing_of_zero, under}
use borrow.Author.Tests.{eq-eqb, ne_eqb}
use Rattle.sets.specs.Sets.{has, meet, minus, single, members, members_from, prepend, size, lowest}
use Rattle.sets.proofs.Membership.{has_0, has-suc, half_lt, has_none, has-minus, has-single, has_meet, ext, single-lt}

-- t is the lowest member of s, and below w
pub record Lowest (w s t : ℕ) : Type 0 where
  pub small : t < w
  pub member : has s t ≡ true
  pub least : (j : ℕ) → j < t → has s j ≡ false

-- f at each element of the list in turn, from z on
unfoldable pub fold : {A : Type 0} → (A → ℕ → A) → A → List ℕ → A
fold f z [] = z
fold f z (i ∷ l) = fold f (f z i) l

-- a part of a fold that goes by its own step is a fold
pub fold_part : {A B : Type 0} (f : A → ℕ → A) (g : B → ℕ → B) (part : A → B) → ((z : A) (t : ℕ) → part (f z t) ≡ g (part z) t)
    → (z : A) (l : List ℕ) → part (fold f z l) ≡ fold g (part z) l
unfolding fold
fold_part f g part e z [] = refl
fold_part f g part e z (t ∷ l) = fold_part f g part e (f z t) l ∙ ap (λ y. fold g y l) (e z t)

-- ---- the count

length-prepend : (t : Bool) (i : ℕ) (l m : List ℕ) → length l ≡ length m → (j : ℕ) → length (prepend t i l) ≡ length (prepend t j m)
unfolding prepend
length-prepend true i l m e j = ap suc e
length-prepend false i l m e j = e

-- the places from i + 1 on of s are those from i on of s / 2
length_half : (n i s : ℕ) → length (members_from (suc i) n s) ≡ length (members_from i n (s / 2))
unfolding members_from
length_half zero i s = refl
length_half (suc n) i s =
    ap (λ (t : Bool). length (prepend t (suc i) (members_from (suc (suc i)) n s))) (has-suc s i)
    ∙ length-prepend (has (s / 2) i) (suc i) _ _ (length_half n (suc i) s) i

length-digit : (d i : ℕ) (l : List ℕ) → d < 2 → length (prepend (eqb d 1) i l) ≡ d + length l
unfolding prepend
length-digit zero i l h = sym (zero-add (length l))
length-digit (suc zero) i l h = omega arith
length-digit (suc (suc d)) i l h = omega arith

-- `count_ones` counts the members
pub ones-size : (w s : ℕ) → s < 2 ^ w → ones s ≡ size w s
unfolding size members members_from ones
ones-size zero s h = ap ones (lt-one h)
ones-size (suc w) s h =
    ones_step s ∙ ap (λ (x : ℕ). s % 2 + x) (ones-size w (s / 2) (half_lt w h) ∙ sym (length_half w 0 s))
    ∙ sym (length-digit (s % 2) 0 (members_from 1 w s) (mod-lt s (zero-lt-suc 1)))
    ∙ ap (λ (t : Bool). length (prepend t 0 (members_from 1 w s))) (sym (has_0 s))

-- ---- the lowest member first, and then the set without it

prepend-true : (t : Bool) (i : ℕ) (l : List ℕ) → t ≡ true → prepend t i l ≡ i ∷ l
unfolding prepend
prepend-true t i l e = ap (λ (b : Bool). prepend b i l) e

prepend-false : (t : Bool) (i : ℕ) (l : List ℕ) → t ≡ false → prepend t i l ≡ l
unfolding prepend
prepend-false t i l e = ap (λ (b : Bool). prepend b i l) e

-- sets that agree from i on have the same members there
members_same : (n i a b : ℕ) → ((j : ℕ) → i ≤ j → has a j ≡ has b j) → members_from i n a ≡ members_from i n b
unfolding members_from
members_same zero i a b e = refl
members_same (suc n) i a b e = ap₂ (λ (t : Bool) (l : List ℕ). prepend t i l) (e i (le_refl i)) (members_same n (suc i) a b (λ j h. e j (omega arith)))

split_at : (d n i s r : ℕ) → d < n → has s (i + d) ≡ true → ((j : ℕ) → j < i + d → has s j ≡ false) → has r (i + d) ≡ false
    → ((j : ℕ) → (j ≡ i + d → ⊥) → has s j ≡ has r j) → members_from i n s ≡ (i + d) ∷ members_from i n r
unfolding members_from
split_at d zero i s r h m l x e = absurd (not-suc-le-zero h)
split_at zero (suc n) i s r h m l x e =
    let z : i + 0 ≡ i = add-zero i in
    prepend-true (has s i) i (members_from (suc i) n s) (ap (has s) (sym z) ∙ m)
    ∙ ap₂ (λ (k : ℕ) (t : List ℕ). k ∷ t) (sym z)
    (members_same n (suc i) s r (λ j g. e j (omega arith))
    ∙ sym (prepend-false (has r i) i (members_from (suc i) n r) (ap (has r) (sym z) ∙ x)))
split_at (suc d) (suc n) i s r h m l x e =
    let z : suc i + d ≡ i + suc d = omega arith in
    let q : has s i ≡ false = l i (omega arith) in
    prepend-false (has s i) i (members_from (suc i) n s) q
    ∙ split_at d n (suc i) s r (le_of_suc-le-suc h) (ap (has s) z ∙ m) (λ j g. l j (omega arith)) (ap (has r) z ∙ x) (λ j g. e j (λ y. g (y ∙ sym z)))
    ∙ ap₂ (λ (k : ℕ) (t : List ℕ). k ∷ t) z (sym (prepend-false (has r i) i (members_from (suc i) n r) (sym (e i (omega arith)) ∙ q)))

-- taking t out changes t alone
pub without_it : (s t : ℕ) → has (minus s (single t)) t ≡ false
without_it s t =
    has-minus s (single t) t ∙ ap (λ (x : Bool). has s t && not x) (has-single t t ∙ eq-eqb t t refl) ∙ and-false (has s t)

pub without_other : (s t j : ℕ) → (j ≡ t → ⊥) → has (minus s (single t)) j ≡ has s j
without_other s t j h =
    has-minus s (single t) j ∙ ap (λ (x : Bool). has s j && not x) (has-single t j ∙ ne_eqb j t h) ∙ and-true (has s j)

-- the members are the lowest one, and then those of the set without it
pub members_lowest : {w s t : ℕ} → Lowest w s t → members w s ≡ t ∷ members w (minus s (single t))
unfolding members
members_lowest {w} {s} {t} h =
    let z : 0 + t ≡ t = zero-add t in
    subst (λ (k : ℕ). members_from 0 w s ≡ k ∷ members_from 0 w (minus s (single t))) z
    (split_at t w 0 s (minus s (single t)) h.small (ap (has s) z ∙ h.member) (λ j l. h.least j (omega arith)) (ap (has (minus s (single t))) z ∙ without_it s t)
    (λ j l. sym (without_other s t j (λ e. l (e ∙ sym z)))))

pub members_none : (w : ℕ) → members w 0 ≡ []
unfolding members members_from
members_none w = go w 0
  where
    go : (n i : ℕ) → members_from i n 0 ≡ []
    go zero i = refl
    go (suc n) i = prepend-false (has 0 i) i (members_from (suc i) n 0) (has_none i) ∙ go n (suc i)

pub size_0 : (w : ℕ) → size w 0 ≡ 0
unfolding size
size_0 w = ap length (members_none w)

-- ---- the lowest member

-- it is the first of the members
pub lowest_unique : {w s t : ℕ} → Lowest w s t → lowest w s ≡ t
unfolding lowest
lowest_unique l = rw (members_lowest l)

pub lowest_none : (w : ℕ) → lowest w 0 ≡ w
unfolding lowest
lowest_none w = rw (members_none w)

under_lowest : (w s t d : ℕ) → s % 2 ≡ d → 0 < s → (0 < s / 2 → Lowest w (s / 2) t) → Lowest (suc w) s (under d t)
under_lowest w s t zero e p ih =
    let r : Lowest w (s / 2) t = ih (omega arith) in
    record { small = suc-le-suc r.small; member = has-suc s t ∙ r.member; least = below r }
  where
    below : Lowest w (s / 2) t → (j : ℕ) → j < suc t → has s j ≡ false
    below r zero l = has_0 s ∙ ap (λ (x : ℕ). eqb x 1) e
    below r (suc j) l = has-suc s j ∙ r.least j (le_of_suc-le-suc l)
under_lowest w s t (suc d) e p ih =
    let one : s % 2 ≡ 1 = omega (arith, mod-lt s (zero-lt-suc 1)) in
    record { small = zero-lt-suc w; member = has_0 s ∙ ap (λ (x : ℕ). eqb x 1) one; least = λ j l. absurd (not-suc-le-zero l) }

trailing_zeros_least : (w s : ℕ) → s < 2 ^ w → 0 < s → Lowest w s (count_trailing_zeros w s)
unfolding count_trailing_zeros
trailing_zeros_least zero s h p = absurd (omega arith)
trailing_zeros_least (suc w) s h p = under_lowest w s (count_trailing_zeros w (s / 2)) (s % 2) refl p (trailing_zeros_least w (s / 2) (half_lt w h))

-- `trailing_zeros` is the lowest member, of the empty set too
pub trailing_zeros_lowest : (w s : ℕ) → s < 2 ^ w → count_trailing_zeros w s ≡ lowest w s
trailing_zeros_lowest w s h =
    ⊎_elim
    (λ z. ap (count_trailing_zeros w) z ∙ trailing_of_zero w ∙ sym (ap (lowest w) z ∙ lowest_none w))
    (λ p. sym (lowest_unique (trailing_zeros_least w s h p)))
    (eq-zero-or-pos s)

-- a set that is not empty has a lowest member
pub lowest_member : (w s : ℕ) → s < 2 ^ w → 0 < s → Lowest w s (lowest w s)
lowest_member w s h p = subst (Lowest w s) (trailing_zeros_lowest w s h) (trailing_zeros_least w s h p)

-- ---- a set that is empty, and a set without one of its members

pub empty : (w : ℕ) {s : ℕ} → s < 2 ^ w → ((i : ℕ) → i < w → has s i ≡ false) → s ≡ 0
empty w h e = ext w h (pow_pos w) (λ i l. e i l ∙ sym (has_none i))

meet_member : (s t : ℕ) → has s t ≡ true → meet s (single t) ≡ single t
meet_member s t e =
    ext (suc t) (lt_of_le_of_lt (and_le_r s (single t)) (single-lt (suc t) t (le_refl (suc t)))) (single-lt (suc t) t (le_refl (suc t)))
    (λ i l. has_meet s (single t) i ∙ at i (ℕ_discrete i t))
  where
    at : (i : ℕ) → Dec (i ≡ t) → (has s i && has (single t) i) ≡ has (single t) i
    at i (yes q) = ap (λ (x : Bool). x && has (single t) i) (ap (has s) q ∙ e)
    at i (no q) = ap (λ (x : Bool). has s i && x) (has-single t i ∙ ne_eqb i t q) ∙ and-false (has s i) ∙ sym (has-single t i ∙ ne_eqb i t q)

-- s without its member t is s less 2 ^ t
pub minus_member : (s t : ℕ) → has s t ≡ true → minus s (single t) + 2 ^ t ≡ s
unfolding minus
minus_member s t e = omega (arith, meet_member s t e, and_le_l s (2 ^ t))

-- `s & (s - 1)` takes the lowest member out
under-sum : (s t d : ℕ) → s % 2 ≡ d → 0 < s → (0 < s / 2 → bit_and (s / 2) (s / 2 - 1) + 2 ^ t ≡ s / 2) → bit_and s (s - 1) + 2 ^ under d t ≡ s
under-sum s t zero e p ih =
    let h : (s - 1) / 2 ≡ s / 2 - 1 = omega arith in
    let m : bit_and (s / 2) ((s - 1) / 2) ≡ bit_and (s / 2) (s / 2 - 1) = ap (bit_and (s / 2)) h in
    let q : bit_and (s / 2) (s / 2 - 1) + 2 ^ t ≡ s / 2 = ih (omega arith) in
    omega (arith, and_step s (s - 1), pow-suc 2 t)
under-sum s t (suc d) e p ih =
    let h : (s - 1) / 2 ≡ s / 2 = omega (arith, mod-lt s (zero-lt-suc 1)) in
    let m : bit_and (s / 2) ((s - 1) / 2) ≡ s / 2 = ap (bit_and (s / 2)) h ∙ and_self (s / 2) in
    let o : s % 2 ≡ 1 = omega (arith, mod-lt s (zero-lt-suc 1)) in
    let z : (s - 1) % 2 ≡ 0 = omega arith in
    omega (arith, and_step s (s - 1))

trailing_zeros_sum : (w s : ℕ) → s < 2 ^ w → 0 < s → bit_and s (s - 1) + 2 ^ count_trailing_zeros w s ≡ s
unfolding count_trailing_zeros
trailing_zeros_sum zero s h p = absurd (omega arith)
trailing_zeros_sum (suc w) s h p = under-sum s (count_trailing_zeros w (s / 2)) (s % 2) refl p (trailing_zeros_sum w (s / 2) (half_lt w h))

pub without_lowest_lem : (w s : ℕ) → s < 2 ^ w → 0 < s → bit_and s (s - 1) ≡ minus s (single (lowest w s))
without_lowest_lem w s h p =
    let e : 2 ^ count_trailing_zeros w s ≡ 2 ^ lowest w s = ap (λ (t : ℕ). 2 ^ t) (trailing_zeros_lowest w s h) in
    omega (arith, trailing_zeros_sum w s h p, minus_member s (lowest w s) (lowest_member w s h p).member)

-- ---- a loop over the members, lowest first

-- What a turn of `while s != 0` may use: the lowest member t, and the set r without it. The loop's measure is s.
pub record Turn (w s t r : ℕ) : Type 0 where
  pub filled : 0 < s
  pub lowest : Lowest w s t
  pub removed : r ≡ minus s (single t)
  pub less : r < s
  pub fits : r < 2 ^ w

-- t is what `lowest` returns for s, and r what `without_lowest` does
pub turn : (w s : ℕ) {t r : ℕ} → s < 2 ^ w → (s ≡ 0 → ⊥) → t ≡ lowest w s → r ≡ minus s (single (lowest w s)) → Turn w s t r
turn w s {t} {r} h n e q =
    let p = pos_of_ne-zero n in
    let l : Lowest w s t = subst (Lowest w s) (sym e) (lowest_member w s h p) in
    let o : r ≡ minus s (single t) = q ∙ ap (λ (x : ℕ). minus s (single x)) (sym e) in
    let d : r < s = omega (arith, minus_member s t l.member, pow_pos t) in
    record { filled = p; lowest = l; removed = o; less = d; fits = lt_trans d h }

-- t is what the iterator over the members gives, and r what it leaves
pub step : {w s t r : ℕ} → s < 2 ^ w → (0 < s) × (t ≡ lowest w s) × (r ≡ minus s (single t)) → Turn w s t r
step {w} {s} {t} {r} h k = turn w s h (λ e. omega (arith, k.0, e)) k.1 (k.2 ∙ ap (λ (x : ℕ). minus s (single x)) k.1)

pub members-turn : {w s t r : ℕ} → Turn w s t r → members w s ≡ t ∷ members w r
members-turn {w} {s} {t} u = members_lowest u.lowest ∙ ap (λ (x : ℕ). t ∷ members w x) (sym u.removed)

-- f at the lowest member, and on with the set without it
pub fold_turn : {A : Type 0} (f : A → ℕ → A) (z : A) {w s t r : ℕ} → Turn w s t r → fold f (f z t) (members w r) ≡ fold f z (members w s)
unfolding fold
fold_turn f z u = ap (fold f z) (sym (members-turn u))

-- nothing is left to do at the end
pub fold_done : {A : Type 0} (f : A → ℕ → A) (z : A) (w s : ℕ) → s ≡ 0 → fold f z (members w s) ≡ z
unfolding fold
fold_done f z w s e = ap (λ (x : ℕ). fold f z (members w x)) e ∙ ap (fold f z) (members_none w)

-- ---- the members by their number: a loop that counts its turns by i keeps `drop i (members w all) ≡ members w s`

drop_parts : (i : ℕ) (l : List ℕ) (t : ℕ) (m : List ℕ) → drop i l ≡ t ∷ m → (i < length l) × (get_or l i 0 ≡ t) × (drop (suc i) l ≡ m)
drop_parts zero [] t m e = absurd (let z : ◌≡◌ {A = ℕ} 0 1 = cc in omega arith)
drop_parts (suc i) [] t m e = absurd (let z : ◌≡◌ {A = ℕ} 0 1 = cc in omega arith)
drop_parts zero (x ∷ l) t m e = (zero-lt-suc (length l), cc, cc)
drop_parts (suc i) (x ∷ l) t m e = let r = drop_parts i l t m e in (suc-le-suc r.0, r.1, r.2)

drop_none : (i : ℕ) (l : List ℕ) → drop i l ≡ [] → length l ≤ i
drop_none i [] e = zero-le
drop_none zero (x ∷ l) e = absurd (let z : ◌≡◌ {A = ℕ} 0 1 = cc in omega arith)
drop_none (suc i) (x ∷ l) e = suc-le-suc (drop_none i l e)

pub nth_turn : {w s t r : ℕ} (all i : ℕ) → Turn w s t r → drop i (members w all) ≡ members w s
    → (i < size w all) × (get_or (members w all) i 0 ≡ t) × (drop (i + 1) (members w all) ≡ members w r)
unfolding size
nth_turn {w} {s} {t} {r} all i u e =
    let p = drop_parts i (members w all) t (members w r) (e ∙ members-turn u) in
    (p.0, p.1, ap (λ (k : ℕ). drop k (members w all)) (add-one i) ∙ p.2)

pub nth_done : (w all s i : ℕ) → s ≡ 0 → drop i (members w all) ≡ members w s → size w all ≤ i
unfolding size
nth_done w all s i z e = drop_none i (members w all) (e ∙ ap (members w) z ∙ members_none w)
