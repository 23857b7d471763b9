-- A set seen at two widths, the union of sets over its members at both, and a loop that tests every member of a set. Assumes nothing.
use mathlib.Core.Path.{◌≡◌, sym, ap, ◌∙◌, subst}
use mathlib.Core.Bool.{Bool, true, false, ◌&&◌, ◌||◌, and-true, and_assoc}
use Prim.Native.Nat.{ℕ, ◌^◌, ◌≤◌, ◌<◌}
use native.Mathlib.Decide.{ℕ_discrete}
use native.Mathlib.Nat.{lt_of_le_of_lt}
use lib.Bits.{and_comm}
use lib.Dec.{T, ltb, ltb→lt, lt→ltb}
use borrow.Author.Tests.{lt-ltb, le-ltb}
use Rattle.sets.specs.Sets.{has, union, meet, below, set_of, those, members, size, lowest, some_in, every_in}
use Rattle.sets.proofs.Tests.{is_true, is_false, of_true, bool_ext}
use Rattle.sets.proofs.Facts.{has-lt, set_of_e, set_of_i, those_e, those_i, some_in_e, some_in_i, every_in_e, every_in_i}
use Rattle.sets.proofs.Membership.{same_members, has_meet, has_none, has_below, has-set_of, meet-le, set_of-lt, set_of_ext, lt_of_members}
use Rattle.sets.proofs.Members.{Turn, fold, ones-size, lowest_unique, lowest_member, without_other}
use Rattle.sets.proofs.Quantifiers.{some_in_same, has-union_over}
use Rattle.sets.proofs.Those.{subset_turn}

pub meet-set_of : (n x : ℕ) (p : ℕ → Bool) → meet x (set_of n p) ≡ those n x p
unfolding those
meet-set_of n x p =
    set_of_ext n (λ i. has x i && p i)
    (lt_of_le_of_lt (subst (λ (y : ℕ). y ≤ set_of n p) (and_comm (set_of n p) x) (meet-le (set_of n p) x)) (set_of-lt n p))
    (λ i l. has_meet x (set_of n p) i ∙ ap (λ (b : Bool). has x i && b) (has-set_of n p i l))

pub size_width : (v w : ℕ) {s : ℕ} → s < 2 ^ v → s < 2 ^ w → size v s ≡ size w s
size_width v w {s} h k = sym (ones-size v s h) ∙ ones-size w s k

pub every_in_width : (v w : ℕ) {s : ℕ} (p : ℕ → Bool) → s < 2 ^ v → s < 2 ^ w → every_in v s p ≡ every_in w s p
every_in_width v w {s} p h k =
    bool_ext (every_in v s p) (every_in w s p)
    (λ e. every_in_i w s p (λ i l m. every_in_e v s p e i (has-lt v s i h m) m))
    (λ e. every_in_i v s p (λ i l m. every_in_e w s p e i (has-lt w s i k m) m))

pub some_in_width : (v w : ℕ) {s : ℕ} (p : ℕ → Bool) → s < 2 ^ v → s < 2 ^ w → some_in v s p ≡ some_in w s p
some_in_width v w {s} p h k = bool_ext (some_in v s p) (some_in w s p) (wider v w k) (wider w v h)
  where
    wider : (x y : ℕ) → s < 2 ^ y → T (some_in x s p) → T (some_in y s p)
    wider x y l e = let r = some_in_e x s p e in some_in_i y s p r.0 (has-lt y s r.0 l r.2) r.2 r.3

pub those_width : (v w : ℕ) {s : ℕ} (p : ℕ → Bool) → s < 2 ^ v → s < 2 ^ w → those v s p ≡ those w s p
those_width v w {s} p h k = same_members (λ i. bool_ext (has (those v s p) i) (has (those w s p) i) (wider v w k i) (wider w v h i))
  where
    wider : (x y : ℕ) → s < 2 ^ y → (i : ℕ) → T (has (those x s p) i) → T (has (those y s p) i)
    wider x y l i e = let r = those_e x s p i e in those_i y s p i (has-lt y s i l r.1) r.1 r.2

pub lowest_width : (v w : ℕ) {s : ℕ} → s < 2 ^ v → s < 2 ^ w → 0 < s → lowest v s ≡ lowest w s
lowest_width v w {s} h k p =
    let l = lowest_member v s h p in
    sym (lowest_unique (record { small = has-lt w s (lowest v s) k (of_true l.member); member = l.member; least = l.least }))

-- the union of sets h t of w bits over the members t of a
pub has_over : (v w a : ℕ) (h : ℕ → ℕ) → ((t : ℕ) → h t < 2 ^ w) → (i : ℕ)
    → has (set_of w (λ j. some_in v a (λ t. has (h t) j))) i ≡ some_in v a (λ t. has (h t) i)
has_over v w a h b i =
    bool_ext (has (set_of w p) i) (p i) (λ m. (set_of_e w p i m).1)
    (λ m. let r = some_in_e v a (λ t. has (h t) i) m in set_of_i w p i (has-lt w (h r.0) i (b r.0) r.3) m)
  where
    p : ℕ → Bool
    p j = some_in v a (λ t. has (h t) j)

-- as a loop over the members makes it of the words g t, which are h t below v
pub union_over : (u v w a : ℕ) (g h : ℕ → ℕ) → a < 2 ^ u → a < 2 ^ v → ((t : ℕ) → t < v → g t ≡ h t) → ((t : ℕ) → h t < 2 ^ w)
    → fold (λ x t. union x (g t)) 0 (members u a) ≡ set_of w (λ i. some_in v a (λ t. has (h t) i))
union_over u v w a g h k l e b =
    same_members (λ i.
    has-union_over g i u a 0
    ∙ ap (λ (x : Bool). x || some_in u a (λ t. has (g t) i)) (has_none i)
    ∙ some_in_width u v (λ t. has (g t) i) k l
    ∙ some_in_same v a (λ t. has (g t) i) (λ t. has (h t) i) (λ t m. ap (λ (x : ℕ). has x i) (e t m))
    ∙ sym (has_over v w a h b i))

pub every_in_below : (w n x : ℕ) → x < 2 ^ w → every_in w x (has (below n)) ≡ ltb x (2 ^ n)
every_in_below w n x h =
    bool_ext (every_in w x (has (below n))) (ltb x (2 ^ n))
    (λ e. lt→ltb x (2 ^ n) (lt_of_members w n x h (λ i k l. is_false (has x i) (λ m. absurd (out e i k l m)))))
    (λ e. every_in_i w x (has (below n)) (λ i l m. of_true (has_below n i ∙ lt-ltb i n (has-lt n x i (ltb→lt x (2 ^ n) e) m))))
  where
    out : T (every_in w x (has (below n))) → (i : ℕ) → n ≤ i → i < w → T (has x i) → ⊥
    out e i k l m = subst T (has_below n i ∙ le-ltb i n k) (every_in_e w x (has (below n)) e i l m)

pub every_in-turn : {w s t r : ℕ} (p : ℕ → Bool) → Turn w s t r → p t ≡ true → every_in w r p ≡ every_in w s p
every_in-turn {w} {s} {t} {r} p u e =
    bool_ext (every_in w r p) (every_in w s p)
    (λ h. every_in_i w s p (λ i l m. at h i l m (ℕ_discrete i t)))
    (λ h. every_in_i w r p (λ i l m. every_in_e w s p h i l (subset_turn s u (λ j k. k) i m)))
  where
    at : T (every_in w r p) → (i : ℕ) → i < w → T (has s i) → Dec (i ≡ t) → T (p i)
    at h i l m (yes q) = of_true (ap p q ∙ e)
    at h i l m (no q) =
        every_in_e w r p h i l (subst T (sym (ap (λ (x : ℕ). has x i) u.removed ∙ without_other s t i q)) m)

pub every_in_fails : {w s t r : ℕ} (p : ℕ → Bool) → Turn w s t r → p t ≡ false → every_in w s p ≡ false
every_in_fails {w} {s} {t} p u e =
    is_false (every_in w s p) (λ h. subst T e (every_in_e w s p h t u.lowest.small (of_true u.lowest.member)))

pub every_in_none : (w s : ℕ) (p : ℕ → Bool) → s ≡ 0 → every_in w s p ≡ true
every_in_none w s p e =
    is_true (every_in w s p) (every_in_i w s p (λ i l m. absurd (subst T (ap (λ (x : ℕ). has x i) e ∙ has_none i) m)))

-- without leaving: the flag so far with what is left to test, after one turn and at the end
pub every_in-and : {w s t r : ℕ} (p : ℕ → Bool) (ok : Bool) {a : Bool} → Turn w s t r → a ≡ p t → ((ok && a) && every_in w r p) ≡ (ok && every_in w s p)
every_in-and {w} {s} {t} {r} p ok {a} u e = and_assoc ok a (every_in w r p) ∙ ap (λ (b : Bool). ok && b) (go a (sym e))
  where
    go : (b : Bool) → p t ≡ b → (b && every_in w r p) ≡ every_in w s p
    go true q = every_in-turn p u q
    go false q = sym (every_in_fails p u q)

pub every_in_done : (w s : ℕ) (p : ℕ → Bool) (ok : Bool) → s ≡ 0 → (ok && every_in w s p) ≡ ok
every_in_done w s p ok e = ap (λ (b : Bool). ok && b) (every_in_none w s p e) ∙ and-true ok
