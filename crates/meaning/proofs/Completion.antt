-- What the completion of a set holds. Assumes nothing.
use mathlib.Core.Path.{◌≡◌, refl, sym, ap, ◌∙◌, subst}
use mathlib.Core.Logic.{◌⊎◌, inl, inr}
use mathlib.Core.Bool.{Bool, true, false, not, ◌&&◌}
use mathlib.Core.List.{List}
use Prim.Native.Nat.{ℕ, zero, suc, ◌≤◌, ◌<◌}
use native.Mathlib.Nat.{le_refl}
use native.Mathlib.Omega.{arith}
use lib.Dec.{T, eqb, ltb, eqb→eq, eqb_refl, ltb→lt, lt→ltb}
use borrow.Author.Tests.{eq-eqb, not-true}
use Rattle.sets.specs.Sets.{has, some}
use Rattle.sets.proofs.Tests.{is_true, of_true, and_l, and_r, and_i, or_e, or_l, or_r}
use Rattle.sets.proofs.Facts.{set_of_e, set_of_i, some_e, some_i}
use Rattle.meaning.specs.Sheet.{n_of, kind, parent, first, is_child}
use Rattle.meaning.specs.Hierarchy.{brings, completed_in, complete}
use Rattle.meaning.proofs.SheetLaws.{parent_n, parent-le_of_suc, Sound, tree, first_child}
use Rattle.meaning.proofs.Containment.{Within, up, is_child_e, is_child_i}

-- m is in x completed
pub data Comp (s : List ℕ) (x : ℕ) : ℕ → Type 0 where
  base : {m : ℕ} → T (has x m) → Comp s x m
  down : {m : ℕ} → 0 < m → T (brings s x (parent s m) m) → Comp s x (parent s m) → Comp s x m

module _ (s : List ℕ) (sd : Sound s) (x : ℕ) where
  -- the test
  pub comp_of : (f m : ℕ) → T (completed_in s f x m) → Comp s x m
  unfolding completed_in
  comp_of zero m h = base h
  comp_of (suc f) m h = go (or_e (has x m) (ltb 0 m && brings s x (parent s m) m && completed_in s f x (parent s m)) h) (comp_of f (parent s m))
    where
      go : T (has x m) ⊎ T (ltb 0 m && brings s x (parent s m) m && completed_in s f x (parent s m)) → (T (completed_in s f x (parent s m)) → Comp s x (parent s m)) → Comp s x m
      go (inl k) ih = base k
      go (inr k) ih =
          let l = and_l (ltb 0 m && brings s x (parent s m) m) (completed_in s f x (parent s m)) k in
          down (ltb→lt 0 m (and_l (ltb 0 m) (brings s x (parent s m) m) l)) (and_r (ltb 0 m) (brings s x (parent s m) m) l)
          (ih (and_r (ltb 0 m && brings s x (parent s m) m) (completed_in s f x (parent s m)) k))

  pub of_comp : (f : ℕ) {m : ℕ} → Comp s x m → m ≤ f → m < n_of s → T (completed_in s f x m)
  unfolding completed_in
  of_comp zero (base k) h l = k
  of_comp zero (down p b c) h l = absurd (omega arith)
  of_comp (suc f) (base {m} k) h l = or_l (has x m) (ltb 0 m && brings s x (parent s m) m && completed_in s f x (parent s m)) k
  of_comp (suc f) (down {m} p b c) h l =
      or_r (has x m) (ltb 0 m && brings s x (parent s m) m && completed_in s f x (parent s m))
      (and_i (ltb 0 m && brings s x (parent s m) m) (completed_in s f x (parent s m))
      (and_i (ltb 0 m) (brings s x (parent s m) m) (lt→ltb 0 m p) b)
      (of_comp f c (parent-le_of_suc s (tree s sd) f m h l) (parent_n s (tree s sd) m l)))

  pub complete_e : (m : ℕ) → T (has (complete s x) m) → (m < n_of s) × Comp s x m
  unfolding complete
  complete_e m h = let r = set_of_e (n_of s) (λ i. completed_in s i x i) m h in (r.0, comp_of m m r.1)

  pub complete_i : (m : ℕ) → m < n_of s → Comp s x m → T (has (complete s x) m)
  unfolding complete
  complete_i m l c = set_of_i (n_of s) (λ i. completed_in s i x i) m l (of_comp m c (le_refl m) l)

-- the completion of a set x below e
pub record Based (s : List ℕ) (x e : ℕ) : Type 0 where
  pub below : (m : ℕ) → m < n_of s → T (has x m) → Within s e m
  pub top : T (has x e)
  pub linked : (m : ℕ) → m < n_of s → T (has x m) → (m ≡ e → ⊥) → T (has x (parent s m))
  pub lone : (y z : ℕ) → y < n_of s → z < n_of s → 0 < y → 0 < z → parent s y ≡ parent s z → T (has x y) → T (has x z) → y ≡ z

-- what a completed set K below e has
pub record Whole (s : List ℕ) (K e : ℕ) : Type 0 where
  pub below : (m : ℕ) → m < n_of s → T (has K m) → Within s e m
  pub top : T (has K e)
  pub linked : (m : ℕ) → m < n_of s → T (has K m) → (m ≡ e → ⊥) → T (has K (parent s m))
  pub one : (m : ℕ) → m < n_of s → T (has K m) → kind s m ≡ 1 → (y : ℕ) × (y < n_of s) × (0 < y) × (parent s y ≡ m) × T (has K y)
  pub lone : (y z : ℕ) → y < n_of s → z < n_of s → 0 < y → 0 < z → parent s y ≡ parent s z → kind s (parent s y) ≡ 1 → T (has K y) → T (has K z) → y ≡ z
  pub every : (y : ℕ) → y < n_of s → 0 < y → kind s (parent s y) ≡ 2 → T (has K (parent s y)) → T (has K y)

module _ (s : List ℕ) (sd : Sound s) where
  -- a serial mode's first mode is a child
  first_ok_lem : (m : ℕ) → m < n_of s → kind s m ≡ 1 → (first s m < n_of s) × (0 < first s m) × (parent s (first s m) ≡ m)
  first_ok_lem m l k =
      let f = first_child s sd m l k in
      let c = is_child_e s m (first s m) f.1 in
      (f.0, c.0, c.1)

  module _ (x e : ℕ) (en : e < n_of s) (b : Based s x e) where
    some_child : ℕ → Bool
    some_child p = some (n_of s) (λ c. is_child s p c && has x c)

    -- what is brought in to a serial mode: its first mode, where no child was in x
    brought : (p m : ℕ) → kind s p ≡ 1 → T (brings s x p m) → (first s p ≡ m) × (some_child p ≡ false)
    unfolding brings some_child
    brought p m k h = go (or_e (eqb (kind s p) 2) (eqb (kind s p) 1 && eqb (first s p) m && not (some_child p)) h)
      where
        go : T (eqb (kind s p) 2) ⊎ T (eqb (kind s p) 1 && eqb (first s p) m && not (some_child p)) → (first s p ≡ m) × (some_child p ≡ false)
        go (inl g) = let z = eqb→eq (kind s p) 2 g in absurd (omega arith)
        go (inr g) = (
          eqb→eq (first s p) m (and_r (eqb (kind s p) 1) (eqb (first s p) m) (and_l (eqb (kind s p) 1 && eqb (first s p) m) (not (some_child p)) g)),
          not-true (some_child p) (is_true (not (some_child p)) (and_r (eqb (kind s p) 1 && eqb (first s p) m) (not (some_child p)) g)),
        )

    child_known : (y : ℕ) → y < n_of s → 0 < y → T (has x y) → T (some_child (parent s y))
    unfolding some_child
    child_known y l p h =
        some_i (n_of s) (λ c. is_child s (parent s y) c && has x c) y l
        (and_i (is_child s (parent s y) y) (has x y) (is_child_i s (parent s y) y p refl) h)

    comp_below : {m : ℕ} → Comp s x m → m < n_of s → Within s e m
    comp_below (base {m} h) l = b.below m l h
    comp_below (down {m} p g c) l = up p (comp_below c (parent_n s (tree s sd) m l))

    comp_linked : {m : ℕ} → Comp s x m → m < n_of s → (m ≡ e → ⊥) → Comp s x (parent s m)
    comp_linked (base {m} h) l ne = base (b.linked m l h ne)
    comp_linked (down p g c) l ne = c

    view : {y : ℕ} → Comp s x y → kind s (parent s y) ≡ 1 → T (has x y) ⊎ ((first s (parent s y) ≡ y) × (some_child (parent s y) ≡ false))
    view (base h) k = inl h
    view (down {m} p g c) k = inr (brought (parent s m) m k g)

    comp_lone : (y z : ℕ) → y < n_of s → z < n_of s → 0 < y → 0 < z → parent s y ≡ parent s z → kind s (parent s y) ≡ 1 → Comp s x y → Comp s x z → y ≡ z
    comp_lone y z ly lz py pz e' k c d = go (view c k) (view d (ap (kind s) (sym e') ∙ k))
      where
        go : T (has x y) ⊎ ((first s (parent s y) ≡ y) × (some_child (parent s y) ≡ false)) → T (has x z) ⊎ ((first s (parent s z) ≡ z) × (some_child (parent s z) ≡ false)) → y ≡ z
        go (inl h) (inl j) = b.lone y z ly lz py pz e' h j
        go (inl h) (inr j) = absurd (subst T (ap some_child e' ∙ j.1) (child_known y ly py h))
        go (inr h) (inl j) = absurd (subst T (ap some_child (sym e') ∙ h.1) (child_known z lz pz j))
        go (inr h) (inr j) = sym h.0 ∙ ap (first s) e' ∙ j.0

    comp_one : (m : ℕ) → m < n_of s → Comp s x m → kind s m ≡ 1 → (y : ℕ) × (y < n_of s) × (0 < y) × (parent s y ≡ m) × Comp s x y
    comp_one m l c k = go (some_child m) refl
      where
        f : (first s m < n_of s) × (0 < first s m) × (parent s (first s m) ≡ m)
        f = first_ok_lem m l k

        first_in : some_child m ≡ false → T (brings s x (parent s (first s m)) (first s m))
        first_in g =
            subst (λ (p : ℕ). T (brings s x p (first s m))) (sym f.2)
            (unfold brings some_child in (or_r (eqb (kind s m) 2) (eqb (kind s m) 1 && eqb (first s m) (first s m) && not (some (n_of s) (λ y. is_child s m y && has x y)))
            (and_i (eqb (kind s m) 1 && eqb (first s m) (first s m)) (not (some (n_of s) (λ y. is_child s m y && has x y)))
            (and_i (eqb (kind s m) 1) (eqb (first s m) (first s m)) (of_true (eq-eqb (kind s m) 1 k)) (eqb_refl (first s m)))
            (subst (λ (v : Bool). T (not v)) (sym g) tt))))

        known : T (some_child m) → (y : ℕ) × (y < n_of s) × (0 < y) × (parent s y ≡ m) × Comp s x y
        known h =
            let r = some_e (n_of s) (λ y. is_child s m y && has x y) (unfold some_child in h) in
            let ch = is_child_e s m r.0 (and_l (is_child s m r.0) (has x r.0) r.2) in
            (r.0, r.1, ch.0, ch.1, base (and_r (is_child s m r.0) (has x r.0) r.2))

        go : (v : Bool) → some_child m ≡ v → (y : ℕ) × (y < n_of s) × (0 < y) × (parent s y ≡ m) × Comp s x y
        go true g = known (of_true g)
        go false g = (first s m, f.0, f.1, f.2, down f.1 (first_in g) (subst (λ (i : ℕ). Comp s x i) (sym f.2) c))

    pub whole : Whole s (complete s x) e
    whole =
        record {
          below = λ m l h. comp_below (complete_e s sd x m h).1 l;
          top = complete_i s sd x e en (base b.top);
          linked = λ m l h ne. complete_i s sd x (parent s m) (parent_n s (tree s sd) m l) (comp_linked (complete_e s sd x m h).1 l ne);
          one = λ m l h k. let r = comp_one m l (complete_e s sd x m h).1 k in (r.0, r.1, r.2, r.3, complete_i s sd x r.0 r.1 r.4);
          lone = λ y z ly lz py pz g k h j. comp_lone y z ly lz py pz g k (complete_e s sd x y h).1 (complete_e s sd x z j).1;
          every = λ y l p k h. complete_i s sd x y l (down p (parallel y k) (complete_e s sd x (parent s y) h).1);
        }
      where
        parallel : (y : ℕ) → kind s (parent s y) ≡ 2 → T (brings s x (parent s y) y)
        parallel y k = unfold brings in (or_l (eqb (kind s (parent s y)) 2) (eqb (kind s (parent s y)) 1 && eqb (first s (parent s y)) y && not (some (n_of s) (λ c. is_child s (parent s y) c && has x c))) (of_true (eq-eqb (kind s (parent s y)) 2 k)))
