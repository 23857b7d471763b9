-- Containment of modes: the test against a relation, meeting modes and children. Assumes nothing.
use mathlib.Core.Path.{◌≡◌, refl, sym, ap, ◌∙◌, subst}
use mathlib.Core.Logic.{◌⊎◌, inl, inr}
use mathlib.Core.Bool.{Bool, true, false, not, ◌&&◌, cond}
use mathlib.Core.List.{List, [], ◌∷◌}
use Prim.Native.Nat.{ℕ, zero, suc, ◌≤◌, ◌<◌, zero-le}
use native.Mathlib.Nat.{le_refl, le_trans, lt_of_le_of_lt, not-suc-le-zero, eq-zero-or-pos, le_antisymm}
use native.Mathlib.Omega.{arith}
use lib.Arith.{lt_of_le-ne}
use lib.Dec.{T, eqb, ltb, eqb→eq, eqb_refl, ltb→lt, lt→ltb, T_not, not_T}
use borrow.Author.Tests.{eqb-true, eqb-false, eq-eqb}
use Rattle.sets.proofs.Tests.{of_true, and_l, and_r, and_i, or_e, or_l, or_r}
use Rattle.meaning.specs.Sheet.{n_of, t_of, kind, parent, is_child, source, target, contains_in, contains, strictly_contains, meeting_from, meeting_of, meeting}
use Rattle.meaning.specs.Check.{end_ok}
use Rattle.meaning.specs.Hierarchy.{child_in, child_holding}
use Rattle.meaning.proofs.ListLaws.{Holds, all_of_e}
use Rattle.meaning.proofs.SheetLaws.{Rooted, parent-le, parent_n, parent-le_of_suc, Sound, tree}

-- a contains m: a is m, or contains the parent of m, which is not the root
pub data Within (s : List ℕ) (a : ℕ) : ℕ → Type 0 where
  here : Within s a a
  up : {m : ℕ} → 0 < m → Within s a (parent s m) → Within s a m

-- a child: not the root, and of that parent
pub is_child_e : (s : List ℕ) (p y : ℕ) → T (is_child s p y) → (0 < y) × (parent s y ≡ p)
unfolding is_child
is_child_e s p y h = (ltb→lt 0 y (and_l (ltb 0 y) (eqb (parent s y) p) h), eqb→eq (parent s y) p (and_r (ltb 0 y) (eqb (parent s y) p) h))

pub is_child_i : (s : List ℕ) (p y : ℕ) → 0 < y → parent s y ≡ p → T (is_child s p y)
unfolding is_child
is_child_i s p y l e = and_i (ltb 0 y) (eqb (parent s y) p) (lt→ltb 0 y l) (of_true (eq-eqb (parent s y) p e))

module _ {s : List ℕ} where
  pub within_trans : {a b c : ℕ} → Within s a b → Within s b c → Within s a c
  within_trans v here = v
  within_trans v (up p w) = up p (within_trans v w)

  -- strictly within: within the parent
  pub within_strict : {a m : ℕ} → Within s a m → (a ≡ m → ⊥) → (0 < m) × Within s a (parent s m)
  within_strict here ne = absurd (ne refl)
  within_strict (up p w) ne = (p, w)

  -- two modes that contain a third are one within the other
  pub within_total : {a b m : ℕ} → Within s a m → Within s b m → Within s a b ⊎ Within s b a
  within_total here w = inr w
  within_total (up p v) here = inl (up p v)
  within_total (up p v) (up q w) = within_total v w

-- a mode contains itself
pub contains_same : (s : List ℕ) (m : ℕ) → T (contains s m m)
unfolding contains contains_in
contains_same s zero = eqb_refl 0
contains_same s (suc m) = or_l (eqb (suc m) (suc m)) (contains_in s m (suc m) (parent s (suc m))) (eqb_refl (suc m))

-- the child of p that holds m
pub record Child (s : List ℕ) (p m c : ℕ) : Type 0 where
  pub pos : 0 < c
  pub par : parent s c ≡ p
  pub holds : Within s c m

-- a transition's ends: its meeting mode p, and p's children that hold the source and the target, which differ
pub record Ends (s : List ℕ) (t : ℕ) : Type 0 where
  pub source_n : source s t < n_of s
  pub target_n : target s t < n_of s
  pub serial : kind s (meeting s t) ≡ 1
  pub left : Child s (meeting s t) (source s t) (child_holding s (meeting s t) (source s t))
  pub right : Child s (meeting s t) (target s t) (child_holding s (meeting s t) (target s t))
  pub distinct : child_holding s (meeting s t) (source s t) ≡ child_holding s (meeting s t) (target s t) → ⊥

module _ (s : List ℕ) (ro : Rooted s) where
  pub within_le : {a m : ℕ} → Within s a m → m < n_of s → a ≤ m
  within_le here l = le_refl _
  within_le (up {m} p w) l = le_trans (within_le w (parent_n s ro m l)) (parent-le s ro m l)

  pub within_root : (f m : ℕ) → m ≤ f → m < n_of s → Within s 0 m
  within_root zero zero h l = here
  within_root zero (suc m) h l = absurd (not-suc-le-zero h)
  within_root (suc f) zero h l = here
  within_root (suc f) (suc m) h l =
      up {m = suc m} (omega arith) (within_root f (parent s (suc m)) (parent-le_of_suc s ro f (suc m) h l) (parent_n s ro (suc m) l))

  -- the test
  pub within_of : (f a m : ℕ) → T (contains_in s f a m) → Within s a m
  unfolding contains_in
  within_of zero a m h = subst (λ (x : ℕ). Within s a x) (eqb→eq a m h) here
  within_of (suc f) a m h = go (or_e (eqb a m) (contains_in s f a (parent s m)) h) (within_of f a (parent s m))
    where
      lift : (m ≡ 0) ⊎ (0 < m) → Within s a (parent s m) → Within s a m
      lift (inl e) w = subst (λ (x : ℕ). Within s a x) (ap (parent s) e ∙ ro.root ∙ sym e) w
      lift (inr p) w = up p w

      go : T (eqb a m) ⊎ T (contains_in s f a (parent s m)) → (T (contains_in s f a (parent s m)) → Within s a (parent s m)) → Within s a m
      go (inl e) ih = subst (λ (x : ℕ). Within s a x) (eqb→eq a m e) here
      go (inr c) ih = lift (eq-zero-or-pos m) (ih c)

  pub of_within : (f : ℕ) {a m : ℕ} → Within s a m → m ≤ f → m < n_of s → T (contains_in s f a m)
  unfolding contains_in
  of_within zero {a} here h l = eqb_refl a
  of_within (suc f) {a} here h l = or_l (eqb a a) (contains_in s f a (parent s a)) (eqb_refl a)
  of_within zero (up p w) h l = absurd (omega arith)
  of_within (suc f) {a} (up {m} p w) h l =
      or_r (eqb a m) (contains_in s f a (parent s m)) (of_within f w (parent-le_of_suc s ro f m h l) (parent_n s ro m l))

  pub contains_e : (a m : ℕ) → T (contains s a m) → Within s a m
  unfolding contains
  contains_e a m h = within_of m a m h

  pub contains_i : {a : ℕ} (m : ℕ) → Within s a m → m < n_of s → T (contains s a m)
  unfolding contains
  contains_i m w l = of_within m w (le_refl m) l

  -- a mode that strictly contains m has a lower number
  pub strictly_lt : (a m : ℕ) → m < n_of s → T (strictly_contains s a m) → a < m
  unfolding strictly_contains
  strictly_lt a m l h =
      lt_of_le-ne (within_le (contains_e a m (and_r (not (eqb a m)) (contains s a m) h)) l)
      (λ e. T_not (eqb a m) (and_l (not (eqb a m)) (contains s a m) h) (of_true (eq-eqb a m e)))

  -- containing strictly goes on
  pub strictly_trans : (a b m : ℕ) → m < n_of s → T (strictly_contains s a b) → T (strictly_contains s b m) → T (strictly_contains s a m)
  strictly_trans a b m l h k =
      let bm = strictly_lt b m l k in
      let ab = strictly_lt a b (omega (arith, l, bm)) h in
      unfold strictly_contains in
      (and_i (not (eqb a m)) (contains s a m) (not_T (eqb a m) (λ e. omega (arith, ab, bm, eqb→eq a m e)))
      (contains_i m (within_trans (contains_e a b (and_r (not (eqb a b)) (contains s a b) h)) (contains_e b m (and_r (not (eqb b m)) (contains s b m) k))) l))

  -- a child is not above its parent, and siblings one within the other are the same
  pub not_above : (y : ℕ) → 0 < y → y < n_of s → Within s y (parent s y) → ⊥
  not_above y p l w = omega (arith, within_le w (parent_n s ro y l), ro.lower y p l)

  pub siblings : (y x : ℕ) → y < n_of s → 0 < y → 0 < x → parent s y ≡ parent s x → Within s y x → y ≡ x
  siblings y x l p q e w = go (eqb y x) refl
    where
      go : (b : Bool) → eqb y x ≡ b → y ≡ x
      go true g = eqb-true y x g
      go false g = absurd (not_above y p l (subst (λ (i : ℕ). Within s y i) (sym e) (within_strict w (eqb-false y x g)).1))

  child_in_lem : (f p m : ℕ) → m ≤ f → m < n_of s → Within s p m → (p ≡ m → ⊥) → Child s p m (child_in s f p m)
  unfolding child_in
  child_in_lem zero p m h l w ne = absurd (ne (le_antisymm (within_le w l) (le_trans h zero-le)))
  child_in_lem (suc f) p m h l w ne = go (eqb (parent s m) p) refl (child_in_lem f p (parent s m))
    where
      g : (0 < m) × Within s p (parent s m)
      g = within_strict w ne

      go : (b : Bool) → eqb (parent s m) p ≡ b → (parent s m ≤ f → parent s m < n_of s → Within s p (parent s m) → (p ≡ parent s m → ⊥) → Child s p (parent s m) (child_in s f p (parent s m)))
          → Child s p m (cond b m (child_in s f p (parent s m)))
      go true e ih = record { pos = g.0; par = eqb-true (parent s m) p e; holds = here }
      go false e ih =
          let r = ih (parent-le_of_suc s ro f m h l) (parent_n s ro m l) g.1 (λ k. eqb-false (parent s m) p e (sym k)) in
          record { pos = r.pos; par = r.par; holds = up g.0 r.holds }

  pub child_holding_lem : (p m : ℕ) → m < n_of s → Within s p m → (p ≡ m → ⊥) → Child s p m (child_holding s p m)
  unfolding child_holding
  child_holding_lem p m l w ne = child_in_lem m p m (le_refl m) l w ne

  -- the meeting mode strictly contains both
  meeting_from_lem : (f p a b : ℕ) → p ≤ f → p < n_of s → b < n_of s → (b ≡ 0 → ⊥) → Within s p a
      → Within s (meeting_from s f p b) a × Within s (meeting_from s f p b) b × (meeting_from s f p b ≡ b → ⊥)
      × (meeting_from s f p b ≤ p)
  unfolding meeting_from
  meeting_from_lem zero p a b h l lb nb w =
      let z : p ≡ 0 = le_antisymm h zero-le in
      (w, subst (λ (i : ℕ). Within s i b) (sym z) (within_root b b (le_refl b) lb), (λ e. nb (sym e ∙ z)), le_refl p)
  meeting_from_lem (suc f) p a b h l lb nb w = go (strictly_contains s p b) refl (meeting_from_lem f (parent s p) a b)
    where
      q : ℕ
      q = meeting_from s f (parent s p) b

      above : (p ≡ 0) ⊎ (0 < p) → Within s (parent s p) a
      above (inl e) = subst (λ (i : ℕ). Within s i a) (e ∙ sym (ap (parent s) e ∙ ro.root)) w
      above (inr g) = within_trans (up g here) w

      go : (v : Bool) → strictly_contains s p b ≡ v
          → (parent s p ≤ f → parent s p < n_of s → b < n_of s → (b ≡ 0 → ⊥) → Within s (parent s p) a → Within s q a × Within s q b × (q ≡ b → ⊥) × (q ≤ parent s p))
          → Within s (cond v p q) a × Within s (cond v p q) b × (cond v p q ≡ b → ⊥) × (cond v p q ≤ p)
      go true e ih =
          (w, contains_e p b (and_r (not (eqb p b)) (contains s p b) st), (λ k. T_not (eqb p b) (and_l (not (eqb p b)) (contains s p b) st) (of_true (eq-eqb p b k))), le_refl p)
        where
          st : T (not (eqb p b) && contains s p b)
          st = unfold strictly_contains in (of_true e)
      go false e ih =
          let r = ih (parent-le_of_suc s ro f p h l) (parent_n s ro p l) lb nb (above (eq-zero-or-pos p)) in
          (r.0, r.1, r.2, le_trans r.3 (parent-le s ro p l))

  -- and it is the lowest that does: whatever else strictly contains both contains it
  meeting_lowest : (f p b q : ℕ) → b < n_of s → Within s q b → (q ≡ b → ⊥) → Within s q p → Within s q (meeting_from s f p b)
  unfolding meeting_from strictly_contains
  meeting_lowest zero p b q l v ne w = w
  meeting_lowest (suc f) p b q l v ne w = go (strictly_contains s p b) refl (meeting_lowest f (parent s p) b q l v ne)
    where
      below : T (strictly_contains s q b)
      below = and_i (not (eqb q b)) (contains s q b) (not_T (eqb q b) (λ k. ne (eqb→eq q b k))) (contains_i b v l)

      go : (c : Bool) → strictly_contains s p b ≡ c → (Within s q (parent s p) → Within s q (meeting_from s f (parent s p) b))
          → Within s q (cond c p (meeting_from s f (parent s p) b))
      go true e ih = w
      go false e ih = ih (within_strict w (λ k. subst T (ap (λ (i : ℕ). strictly_contains s i b) k ∙ e) below)).1

pub ends : (s : List ℕ) (sd : Sound s) (t : ℕ) → t < t_of s → Ends s t
unfolding end_ok
ends s sd t l =
    record {
      source_n = an;
      target_n = bn;
      serial = eqb→eq (kind s (meeting s t)) 1 h.1.1.1.1.0;
      left = left;
      right = right;
      distinct = λ k. not_above s ro (child_holding s p a) left.pos (lt_of_le_of_lt (within_le s ro left.holds an) an) (subst (λ (i : ℕ). Within s (child_holding s p a) i) (sym left.par) (above k));
    }
  where
    ro : Rooted s
    ro = tree s sd

    a : ℕ
    a = source s t

    b : ℕ
    b = target s t

    p : ℕ
    p = meeting s t

    h : Holds (ltb a (n_of s) ∷ ltb b (n_of s) ∷ not (contains s a b) ∷ not (contains s b a) ∷ eqb (kind s p) 1 ∷ [])
    h = all_of_e _ (sd.ends t l)

    an : a < n_of s
    an = ltb→lt a (n_of s) h.0

    bn : b < n_of s
    bn = ltb→lt b (n_of s) h.1.0

    nota : a ≡ 0 → ⊥
    nota e = T_not (contains s a b) h.1.1.0 (contains_i s ro b (subst (λ (i : ℕ). Within s i b) (sym e) (within_root s ro b b (le_refl b) bn)) bn)

    notb : b ≡ 0 → ⊥
    notb e = T_not (contains s b a) h.1.1.1.0 (contains_i s ro a (subst (λ (i : ℕ). Within s i a) (sym e) (within_root s ro a a (le_refl a) an)) an)

    pos : (i : ℕ) → (i ≡ 0 → ⊥) → 0 < i
    pos i g = omega arith

    m : Within s p a × Within s p b × (p ≡ b → ⊥) × (p ≤ parent s a)
    m = unfold meeting meeting_of in (meeting_from_lem s ro a (parent s a) a b (parent-le s ro a an) (parent_n s ro a an) bn notb (up (pos a nota) here))

    left : Child s p a (child_holding s p a)
    left = child_holding_lem s ro p a an m.0 (λ k. omega (arith, m.3, ro.lower a (pos a nota) an))

    right : Child s p b (child_holding s p b)
    right = child_holding_lem s ro p b bn m.1 m.2

    -- a child that held both ends would contain the meeting mode
    above : child_holding s p a ≡ child_holding s p b → Within s (child_holding s p a) p
    above k = unfold meeting meeting_of in (meeting_lowest s ro a (parent s a) b c bn holds_b not_b (within_strict left.holds not_a).1)
      where
        c : ℕ
        c = child_holding s p a

        holds_b : Within s c b
        holds_b = subst (λ (i : ℕ). Within s i b) (sym k) right.holds

        not_a : c ≡ a → ⊥
        not_a e = T_not (contains s a b) h.1.1.0 (contains_i s ro b (subst (λ (i : ℕ). Within s i b) e holds_b) bn)

        not_b : c ≡ b → ⊥
        not_b e = T_not (contains s b a) h.1.1.1.0 (contains_i s ro a (subst (λ (i : ℕ). Within s i a) e left.holds) an)

-- a meeting mode is a mode
pub meeting-lt : (s : List ℕ) (sd : Sound s) (t : ℕ) → t < t_of s → meeting s t < n_of s
meeting-lt s sd t l =
    let ro = tree s sd in
    let e = ends s sd t l in
    subst (λ (m : ℕ). m < n_of s) e.left.par (parent_n s ro _ (lt_of_le_of_lt (within_le s ro e.left.holds e.source_n) e.source_n))

-- a transition's meeting mode contains its source
pub meeting-source : (s : List ℕ) (sd : Sound s) (t : ℕ) → t < t_of s → Within s (meeting s t) (source s t)
meeting-source s sd t l =
    let c = (ends s sd t l).left in
    within_trans (up c.pos (subst (λ (i : ℕ). Within s (meeting s t) i) (sym c.par) here)) c.holds
