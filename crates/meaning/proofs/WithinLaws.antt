-- The masks of the modes strictly within each mode: their members, and the four promises. Assumes nothing.
use mathlib.Core.Path.{◌≡◌, refl, sym, ap, ap₂, ◌∙◌, subst}
use mathlib.Core.Logic.{inl, inr, ⊎_elim}
use mathlib.Core.Bool.{Bool, true, false, not, ◌&&◌, ◌||◌}
use mathlib.Core.List.{List}
use Prim.Native.Nat.{ℕ, ◌≤◌, ◌<◌}
use native.Mathlib.Nat.{lt_of_le_of_lt}
use native.Mathlib.Omega.{arith}
use lib.Dec.{T, eqb, eqb→eq, T_not, not_T}
use lib.ListN.{get_or, replicate, get_or-eq_default}
use borrow.Author.Tests.{eqb-true, eq-eqb, ne_eqb}
use Rattle.sets.specs.Sets.{has, set_of, some}
use Rattle.sets.proofs.Tests.{is_true, is_false, of_true, and_l, and_r, and_i, bool_ext, eqb-sym, below_or_not}
use Rattle.sets.proofs.Facts.{some_e, some_i}
use Rattle.sets.proofs.Membership.{has_none, has_above, has-set_of, set_of-lt}
use Rattle.meaning.specs.Lists.{row_from}
use Rattle.meaning.specs.Sheet.{n_of, is_child, contains, strictly_contains, meeting}
use Rattle.meaning.specs.Check.{sheet_refusal}
use Rattle.meaning.specs.Hierarchy.{child_holding}
use Rattle.meaning.specs.GivesWay.{gives_way}
use Rattle.meaning.specs.Reaction.{conflict}
use Rattle.meaning.specs.Within.{within, within_each, masks_of, MaskExact, MaskNoOther, ConflictByMask, GivesWayByMask}
use Rattle.meaning.proofs.ListLaws.{row_at, row_from-length}
use Rattle.meaning.proofs.SheetLaws.{Rooted, sound, tree, n_le}
use Rattle.meaning.proofs.Containment.{Within, here, up, is_child_e, is_child_i, within_le, within_trans, contains_same, contains_e, contains_i, strictly_lt, child_holding_lem, meeting-lt}

-- ---- containment, with the mode itself and without

pub contains_strictly : (s : List ℕ) (p m : ℕ) → contains s p m ≡ (eqb p m || strictly_contains s p m)
unfolding strictly_contains
contains_strictly s p m = go (eqb p m) refl
  where
    go : (b : Bool) → eqb p m ≡ b → contains s p m ≡ (b || not b && contains s p m)
    go true e = rw (eqb-true p m e) (is_true (contains s m m) (contains_same s m))
    go false e = refl

-- p strictly contains y exactly if a child of p contains it
module _ (s : List ℕ) (ro : Rooted s) (p y : ℕ) (l : y < n_of s) where
  abbrev child_test : ℕ → Bool
  child_test c = is_child s p c && contains s c y

  by_child : T (strictly_contains s p y) → T (some (n_of s) child_test)
  unfolding strictly_contains
  by_child h =
      let w = contains_e s ro p y (and_r (not (eqb p y)) (contains s p y) h) in
      let r = child_holding_lem s ro p y l w (λ e. T_not (eqb p y) (and_l (not (eqb p y)) (contains s p y) h) (of_true (eq-eqb p y e))) in
      let c = child_holding s p y in
      some_i (n_of s) child_test c (lt_of_le_of_lt (within_le s ro r.holds l) l)
      (and_i (is_child s p c) (contains s c y) (is_child_i s p c r.pos r.par) (contains_i s ro y r.holds l))

  of_child : (c : ℕ) → c < n_of s → T (is_child s p c) → T (contains s c y) → T (strictly_contains s p y)
  unfolding strictly_contains
  of_child c k i h =
      let q = is_child_e s p c i in
      let w = contains_e s ro c y h in
      let lower = ro.lower c q.0 k in
      and_i (not (eqb p y)) (contains s p y)
      (not_T (eqb p y) (λ e. omega (arith, q.1, within_le s ro w l, lower, eqb→eq p y e)))
      (contains_i s ro y (within_trans (subst (λ (i : ℕ). Within s i c) q.1 (up q.0 here)) w) l)

  pub strictly_by_child : strictly_contains s p y ≡ some (n_of s) child_test
  strictly_by_child =
      bool_ext (strictly_contains s p y) (some (n_of s) child_test) by_child
      (λ h. let r = some_e (n_of s) child_test h in of_child r.0 r.1 (and_l (is_child s p r.0) (contains s r.0 y) r.2) (and_r (is_child s p r.0) (contains s r.0 y) r.2))

-- ---- the masks

pub has_within : (s : List ℕ) (p m : ℕ) → m < n_of s → has (within s p) m ≡ strictly_contains s p m
unfolding within
has_within s p m l = has-set_of (n_of s) (strictly_contains s p) m l

pub within_none : (s : List ℕ) (p m : ℕ) → n_of s ≤ m → has (within s p) m ≡ false
unfolding within
within_none s p m l = has_above (n_of s) (set_of (n_of s) (strictly_contains s p)) m (set_of-lt (n_of s) (strictly_contains s p)) l

-- what is given of a refused sheet, and of another
pub masks_refused : (s : List ℕ) (e : ℕ) → e ≡ sheet_refusal s → (e ≡ 0 → ⊥) → record { refusal = e; masks = replicate 32 0 } ≡ masks_of s
unfolding masks_of
masks_refused s e h n = rw (sym h, ne_eqb e 0 n)

pub masks_given : (s w : List ℕ) (e : ℕ) → e ≡ sheet_refusal s → e ≡ 0 → w ≡ within_each s → record { refusal = e; masks = w } ≡ masks_of s
unfolding masks_of
masks_given s w e h z k = rw (sym h, z, k)

mask_at : (s : List ℕ) → sheet_refusal s ≡ 0 → (p : ℕ) → p < 32 → get_or (masks_of s).masks p 0 ≡ within s p
unfolding masks_of within_each
mask_at s h p l = rw h (row_at 32 (within s) p l)

mask_past : (s : List ℕ) → sheet_refusal s ≡ 0 → (p : ℕ) → 32 ≤ p → get_or (masks_of s).masks p 0 ≡ 0
unfolding masks_of within_each
mask_past s h p l = rw h (get_or-eq_default (row_from 0 32 (within s)) 0 (rw (row_from-length (within s) 0 32) l))

-- nothing is within a number that is no mode
above_none : (s : List ℕ) → Rooted s → (p m : ℕ) → n_of s ≤ p → has (within s p) m ≡ false
above_none s ro p m l =
    ⊎_elim
    (λ (k : m < n_of s). has_within s p m k ∙ is_false (strictly_contains s p m) (λ c. omega (arith, strictly_lt s ro p m k c)))
    (λ k. within_none s p m k) (below_or_not m (n_of s))

module _ (s : List ℕ) (h : sheet_refusal s ≡ 0) where
  mask_above : (p m : ℕ) → n_of s ≤ p → has (get_or (masks_of s).masks p 0) m ≡ false
  mask_above p m l =
      ⊎_elim (λ k. ap (λ (w : ℕ). has w m) (mask_at s h p k) ∙ above_none s (tree s (sound s h)) p m l)
      (λ k. ap (λ (w : ℕ). has w m) (mask_past s h p k) ∙ has_none m) (below_or_not p 32)

  mask_is : (p m : ℕ) → p < n_of s → m < n_of s → has (get_or (masks_of s).masks p 0) m ≡ strictly_contains s p m
  mask_is p m l k = ap (λ (w : ℕ). has w m) (mask_at s h p (omega (arith, n_le s (sound s h)))) ∙ has_within s p m k

pub mask_exact_lem : MaskExact
unfolding MaskExact
mask_exact_lem s h p m l k = mask_is s h p m l k

pub mask_no_other_lem : MaskNoOther
unfolding MaskNoOther
mask_no_other_lem s h p m (inl l) = mask_above s h p m l
mask_no_other_lem s h p m (inr l) =
    ⊎_elim (λ k. ap (λ (w : ℕ). has w m) (mask_at s h p (omega (arith, n_le s (sound s h)))) ∙ within_none s p m l)
    (λ k. mask_above s h p m k) (below_or_not p (n_of s))

-- ---- conflict and giving way

-- of two modes one contains the other
one_contains : (e a b : Bool) → ((e || a) || (e || b)) ≡ (e || a || b)
one_contains true a b = refl
one_contains false a b = refl

pub conflict_by_mask_lem : ConflictByMask
unfolding ConflictByMask conflict
conflict_by_mask_lem s h t u l k =
    let p = meeting s t in
    let q = meeting s u in
    let pn = meeting-lt s (sound s h) t l in
    let qn = meeting-lt s (sound s h) u k in
    ap₂ ◌||◌ (contains_strictly s p q) (contains_strictly s q p ∙ ap (λ (e : Bool). e || strictly_contains s q p) (eqb-sym q p))
    ∙ one_contains (eqb p q) (strictly_contains s p q) (strictly_contains s q p)
    ∙ ap₂ (λ (a b : Bool). eqb p q || a || b) (sym (mask_is s h p q pn qn)) (sym (mask_is s h q p qn pn))

pub gives_way_by_mask_lem : GivesWayByMask
unfolding GivesWayByMask gives_way
gives_way_by_mask_lem s h t u l k = sym (mask_is s h (meeting s u) (meeting s t) (meeting-lt s (sound s h) u k) (meeting-lt s (sound s h) t l))
