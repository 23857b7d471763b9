-- Unions of words over the modes within a mode and over those that contain it, made in one pass over the modes. Assumes nothing.
use mathlib.Core.Path.{◌≡◌, refl, sym, ap, ap₂, ◌∙◌, subst}
use mathlib.Core.Logic.{◌⊎◌, inl, inr, ⊎_elim}
use mathlib.Core.Bool.{Bool, ◌&&◌, ◌||◌, and-false}
use mathlib.Core.List.{List}
use Prim.Native.Nat.{ℕ, ◌+◌, ◌-◌, ◌≤◌, ◌<◌}
use native.Mathlib.Omega.{arith}
use lib.Arith.{lt_of_le-ne}
use lib.Dec.{T, eqb, eqb→eq}
use lib.ListN.{length, get_or, set}
use Rattle.sets.specs.Sets.{has, union, set_of, some}
use Rattle.sets.proofs.Tests.{and_l, and_r, and_i, or_e, or_l, or_r, bool_ext, below_or_not}
use Rattle.sets.proofs.Membership.{has_above, has-union, has-set_of, set_of-lt, same_members}
use Rattle.sets.proofs.Facts.{some_e, some_i}
use Rattle.sets.proofs.Quantifiers.{some_same, some-false, some_at}
use Rattle.sets.proofs.Loops.{set_word, set_word_has}
use Rattle.meaning.specs.Sheet.{n_of, parent, is_child, contains, strictly_contains}
use Rattle.meaning.proofs.SheetLaws.{Rooted}
use Rattle.meaning.proofs.Containment.{within_le, contains_same, contains_e}
use Rattle.meaning.proofs.WithinLaws.{contains_strictly, strictly_by_child}
use Rattle.sheet.proofs.ContainmentLaws.{contains-parent}
use Rattle.sheet.proofs.Passes.{Added, added_all, added_start, added_turn, added_whole}
use Rattle.hierarchy.specs.Unions.{UnionWithin, UnionContainers}

module _ (s words : List ℕ) where
  -- bit i of the word of mode p, and of the words of the modes that p contains
  abbrev own : ℕ → ℕ → Bool
  own p i = has (get_or words p 0) i

  abbrev joined : ℕ → ℕ → Bool
  joined p i = some (n_of s) (λ m. contains s p m && own m i)

  -- the words after the words of the modes from m on were added to those of their parents
  abbrev pub JoinedFrom : ℕ → List ℕ → Type 0
  JoinedFrom m unions = Added s own joined m unions

  -- the words of the modes below m have those of their parents
  abbrev pub AboveTo : ℕ → List ℕ → Type 0
  AboveTo m unions =
      ((p i : ℕ) → p < m → has (get_or unions p 0) i ≡ some (n_of s) (λ q. contains s q p && own q i))
      × ((p : ℕ) → m ≤ p → get_or unions p 0 ≡ get_or words p 0)

  module _ (ro : Rooted s) where
    -- ---- within a mode: it and what its children contain

    contains_cases : (p m : ℕ) → m < n_of s → T (contains s p m) → (p ≡ m) ⊎ ((c : ℕ) × (c < n_of s) × T (is_child s p c) × T (contains s c m))
    contains_cases p m l h =
        ⊎_elim (λ e. inl (eqb→eq p m e))
        (λ k.
        let r = some_e (n_of s) (λ c. is_child s p c && contains s c m) (subst (λ (b : Bool). T b) (strictly_by_child s ro p m l) k) in
        inr (r.0, r.1, and_l (is_child s p r.0) (contains s r.0 m) r.2, and_r (is_child s p r.0) (contains s r.0 m) r.2))
        (or_e (eqb p m) (strictly_contains s p m) (subst (λ (b : Bool). T b) (contains_strictly s p m) h))

    contains_child : (p c m : ℕ) → c < n_of s → m < n_of s → T (is_child s p c) → T (contains s c m) → T (contains s p m)
    contains_child p c m k l a b =
        subst (λ (t : Bool). T t) (sym (contains_strictly s p m))
        (or_r (eqb p m) (strictly_contains s p m)
        (subst (λ (t : Bool). T t) (sym (strictly_by_child s ro p m l)) (some_i (n_of s) (λ c. is_child s p c && contains s c m) c k (and_i (is_child s p c) (contains s c m) a b))))

    joined_i : (p m i : ℕ) → m < n_of s → T (contains s p m) → T (own m i) → T (joined p i)
    joined_i p m i l a b = some_i (n_of s) (λ q. contains s p q && own q i) m l (and_i (contains s p m) (own m i) a b)

    joined_e : (p i : ℕ) → T (joined p i) → (m : ℕ) × (m < n_of s) × T (contains s p m) × T (own m i)
    joined_e p i h =
        let r = some_e (n_of s) (λ q. contains s p q && own q i) h in
        (r.0, r.1, and_l (contains s p r.0) (own r.0 i) r.2, and_r (contains s p r.0) (own r.0 i) r.2)

    joined_children : (p i : ℕ) → p < n_of s → added_all s own joined p i ≡ joined p i
    joined_children p i l =
        bool_ext (added_all s own joined p i) (joined p i)
        (λ h.
        ⊎_elim (λ a. joined_i p p i l (contains_same s p) a)
        (λ a.
        let r = some_e (n_of s) (λ c. is_child s p c && joined c i) a in
        let c = r.0 in
        let q = joined_e c i (and_r (is_child s p c) (joined c i) r.2) in
        joined_i p q.0 i q.1 (contains_child p c q.0 r.1 q.1 (and_l (is_child s p c) (joined c i) r.2) q.2) q.3)
        (or_e (own p i) (some (n_of s) (λ c. is_child s p c && joined c i)) h))
        (λ h.
        let q = joined_e p i h in
        ⊎_elim
        (λ e. or_l (own p i) (some (n_of s) (λ c. is_child s p c && joined c i)) (subst (λ (m : ℕ). T (own m i)) (sym e) q.3))
        (λ c.
        or_r (own p i) (some (n_of s) (λ c. is_child s p c && joined c i))
        (some_i (n_of s) (λ c. is_child s p c && joined c i) c.0 c.1 (and_i (is_child s p c.0) (joined c.0 i) c.2 (joined_i c.0 q.0 i q.1 c.3 q.3))))
        (contains_cases p q.0 q.1 q.2))

    pub joined_start : (n : ℕ) → n ≡ n_of s → JoinedFrom n words
    joined_start n e = added_start s own joined words n e (λ p i. refl)

    pub joined_turn : (unions : List ℕ) (m p : ℕ) → 1 < m → m ≤ n_of s → p ≡ parent s (m - 1) → p < length unions → JoinedFrom m unions
        → JoinedFrom (m - 1) (set unions p (union (get_or unions p 0) (get_or unions (m - 1) 0)))
    joined_turn unions m p h l e room a =
        let m' = m - 1 in
        let next : m ≡ m - 1 + 1 = omega arith in
        let a' : JoinedFrom (m - 1 + 1) unions = subst (λ (i : ℕ). JoinedFrom i unions) next a in
        added_turn s own joined unions m' p (get_or unions m' 0) (omega arith) (omega arith) e room a'
        (λ i. a' m' i ∙ added_whole s own joined ro (m' + 1) m' i (omega arith) ∙ joined_children m' i (omega arith))

    pub joined_end : (unions : List ℕ) (m : ℕ) → m ≤ 1 → JoinedFrom m unions → UnionWithin s words unions
    unfolding UnionWithin
    joined_end unions m h a p i l = a p i ∙ added_whole s own joined ro m p i (omega arith) ∙ joined_children p i l

    -- ---- the modes that contain a mode: it and those that contain its parent

    -- bit i of the words of the modes that contain p
    abbrev above : ℕ → ℕ → Bool
    above p i = some (n_of s) (λ q. contains s q p && own q i)

    above_parent : (m i : ℕ) → 0 < m → m < n_of s → (own m i || above (parent s m) i) ≡ above m i
    above_parent m i pos l =
        bool_ext (own m i || above (parent s m) i) (above m i)
        (λ h.
        ⊎_elim (λ a. some_i (n_of s) (λ q. contains s q m && own q i) m l (and_i (contains s m m) (own m i) (contains_same s m) a))
        (λ a.
        let r = some_e (n_of s) (λ q. contains s q (parent s m) && own q i) a in
        let q = r.0 in
        some_i (n_of s) (λ q. contains s q m && own q i) q r.1
        (and_i (contains s q m) (own q i)
        (subst (λ (b : Bool). T b) (sym (contains-parent s ro q m pos l)) (or_l (contains s q (parent s m)) (eqb q m) (and_l (contains s q (parent s m)) (own q i) r.2)))
        (and_r (contains s q (parent s m)) (own q i) r.2)))
        (or_e (own m i) (above (parent s m) i) h))
        (λ h.
        let r = some_e (n_of s) (λ q. contains s q m && own q i) h in
        let q = r.0 in
        let b = and_r (contains s q m) (own q i) r.2 in
        ⊎_elim
        (λ a. or_r (own m i) (above (parent s m) i) (some_i (n_of s) (λ q. contains s q (parent s m) && own q i) q r.1 (and_i (contains s q (parent s m)) (own q i) a b)))
        (λ e. or_l (own m i) (above (parent s m) i) (subst (λ (j : ℕ). T (own j i)) (eqb→eq q m e) b))
        (or_e (contains s q (parent s m)) (eqb q m) (subst (λ (t : Bool). T t) (contains-parent s ro q m pos l) (and_l (contains s q m) (own q i) r.2))))

    root_above : (i : ℕ) → 0 < n_of s → own 0 i ≡ above 0 i
    root_above i l =
        bool_ext (own 0 i) (above 0 i) (λ a. some_i (n_of s) (λ q. contains s q 0 && own q i) 0 l (and_i (contains s 0 0) (own 0 i) (contains_same s 0) a))
        (λ h.
        let r = some_e (n_of s) (λ q. contains s q 0 && own q i) h in
        let q = r.0 in
        let z : q ≡ 0 = omega (arith, within_le s ro (contains_e s ro q 0 (and_l (contains s q 0) (own q i) r.2)) l) in
        subst (λ (j : ℕ). T (own j i)) z (and_r (contains s q 0) (own q i) r.2))

    pub above_start : 0 < n_of s → AboveTo 1 words
    above_start l = ((λ p i h. let z : p ≡ 0 = omega arith in rw z (root_above i l)), λ p h. refl)

    pub above_turn : (unions : List ℕ) (m p : ℕ) → 0 < m → m < n_of s → p ≡ parent s m → m < length unions → AboveTo m unions
        → AboveTo (m + 1) (set unions m (union (get_or unions m 0) (get_or unions p 0)))
    above_turn unions m p pos l e room a = (
      (λ q i h. set_word_has unions m (union (get_or unions m 0) (get_or unions p 0)) q i room (λ k. rw k (bit i)) (λ k. a.0 q i (lt_of_le-ne (omega arith) k))),
      λ q h. set_word unions m (union (get_or unions m 0) (get_or unions p 0)) q room (λ k. absurd (omega arith)) (λ k. a.1 q (omega arith)),
    )
      where
        bit : (i : ℕ) → has (union (get_or unions m 0) (get_or unions p 0)) i ≡ above m i
        bit i =
            has-union (get_or unions m 0) (get_or unions p 0) i
            ∙ ap₂ ◌||◌ (ap (λ (w : ℕ). has w i) (a.1 m (omega arith))) (a.0 p i (rw e (ro.lower m pos l)) ∙ ap (λ (j : ℕ). above j i) e)
            ∙ above_parent m i pos l

    pub above_end : (unions : List ℕ) (m : ℕ) → n_of s ≤ m → AboveTo m unions → UnionContainers s words unions
    unfolding UnionContainers
    above_end unions m h a p i l = a.0 p i (omega arith)

-- ---- words of numbers t below w, each in the word of its mode f t

module _ (s words : List ℕ) (w : ℕ) (f : ℕ → ℕ) (small : (t : ℕ) → t < w → f t < n_of s) (by : (m : ℕ) → m < n_of s → get_or words m 0 ≡ set_of w (λ t. eqb (f t) m)) where
  -- where bit i is in the words of the modes that pass a test: below w, and its mode passes
  tested : (test : ℕ → Bool) (i : ℕ) → some (n_of s) (λ m. test m && own s words m i) ≡ has (set_of w (λ t. test (f t))) i
  tested test i =
      ⊎_elim
      (λ (l : i < w).
      some_same (n_of s) (λ m. test m && own s words m i) (λ m. test m && eqb (f i) m)
      (λ m k. ap (λ (b : Bool). test m && b) (ap (λ (x : ℕ). has x i) (by m k) ∙ has-set_of w (λ t. eqb (f t) m) i l))
      ∙ some_at (n_of s) (f i) test (small i l)
      ∙ sym (has-set_of w (λ t. test (f t)) i l))
      (λ (l : w ≤ i).
      some-false (n_of s) (λ m. test m && own s words m i)
      (λ m k.
      ap (λ (b : Bool). test m && b) (ap (λ (x : ℕ). has x i) (by m k) ∙ has_above w (set_of w (λ t. eqb (f t) m)) i (set_of-lt w (λ t. eqb (f t) m)) l) ∙ and-false (test m))
      ∙ sym (has_above w (set_of w (λ t. test (f t))) i (set_of-lt w (λ t. test (f t))) l)) (below_or_not i w)

  pub within_by : (unions : List ℕ) → UnionWithin s words unions → (p : ℕ) → p < n_of s → get_or unions p 0 ≡ set_of w (λ t. contains s p (f t))
  unfolding UnionWithin
  within_by unions u p l = same_members (λ i. u p i l ∙ tested (contains s p) i)

  pub containers_by : (unions : List ℕ) → UnionContainers s words unions → (p : ℕ) → p < n_of s → get_or unions p 0 ≡ set_of w (λ t. contains s (f t) p)
  unfolding UnionContainers
  containers_by unions u p l = same_members (λ i. u p i l ∙ tested (λ m. contains s m p) i)
