-- What a transition exits and enters: its ends in its meeting mode, the child that holds a mode and the path down to a mode from the
-- masks, the path completed. Assumes nothing.
use mathlib.Core.Path.{◌≡◌, refl, sym, ap, ap₂, ◌∙◌, subst}
use mathlib.Core.Logic.{◌⊎◌, inl, inr, ⊎_elim}
use mathlib.Core.Bool.{Bool, true, false, not, ◌&&◌, and_comm}
use mathlib.Core.List.{List}
use Prim.Native.Nat.{ℕ, ◌≤◌, ◌<◌}
use native.Mathlib.Nat.{lt_of_le_of_lt}
use native.Mathlib.Omega.{arith}
use lib.Dec.{T, eqb, eqb→eq, T_not, not_T}
use borrow.Author.Tests.{eqb-true, eqb-false, eq-eqb}
use Rattle.sets.specs.Sets.{has, meet, set_of, those, lowest}
use Rattle.sets.proofs.Tests.{is_true, is_false, of_true, and_l, and_r, and_i}
use Rattle.sets.proofs.Membership.{has_meet, set_of_same}
use Rattle.sets.proofs.Facts.{set_of_e, set_of_i}
use Rattle.sets.proofs.Members.{lowest_unique}
use Rattle.sets.proofs.Widths.{meet-set_of}
use Rattle.meaning.specs.Sheet.{n_of, t_of, parent, source, target, contains, strictly_contains, meeting}
use Rattle.meaning.specs.Hierarchy.{child_holding, exits, enters}
use Rattle.meaning.specs.Within.{within}
use Rattle.meaning.proofs.SheetLaws.{Rooted, parent_n, Sound, tree}
use Rattle.meaning.proofs.Containment.{Within, here, up, within_le, within_trans, within_strict, within_total, contains_e, contains_i, strictly_lt, siblings, Child, child_holding_lem, ends}
use Rattle.meaning.proofs.WithinLaws.{has_within}
use Rattle.meaning.proofs.Completion.{Based}
use Rattle.sheet.specs.Masks.{containers}
use Rattle.sheet.proofs.ContainmentLaws.{has-containers}
use Rattle.hierarchy.specs.Below.{branch}
use Rattle.hierarchy.proofs.BelowLaws.{complete-branch}

-- the modes from c down to m
abbrev pub path_of : List ℕ → ℕ → ℕ → ℕ
path_of s c m = set_of (n_of s) (λ y. contains s c y && contains s y m)

module _ (s : List ℕ) (sd : Sound s) (m : ℕ) (mn : m < n_of s) where
  path_e : (c y : ℕ) → T (has (path_of s c m) y) → (y < n_of s) × Within s c y × Within s y m
  path_e c y h =
      let g = set_of_e (n_of s) (λ i. contains s c i && contains s i m) y h in
      (g.0, contains_e s (tree s sd) c y (and_l (contains s c y) (contains s y m) g.1), contains_e s (tree s sd) y m (and_r (contains s c y) (contains s y m) g.1))

  path_i : (c y : ℕ) → y < n_of s → Within s c y → Within s y m → T (has (path_of s c m) y)
  path_i c y l a b =
      set_of_i (n_of s) (λ i. contains s c i && contains s i m) y l
      (and_i (contains s c y) (contains s y m) (contains_i s (tree s sd) y a l) (contains_i s (tree s sd) m b mn))

  -- ---- completed, it is the branch of its top

  pub path_based : (c : ℕ) → Within s c m → Based s (path_of s c m) c
  path_based c w = record { below = λ y l h. (path_e c y h).1; top = path_i c c cn here w; linked = linked; lone = lone }
    where
      cn : c < n_of s
      cn = lt_of_le_of_lt (within_le s (tree s sd) w mn) mn

      linked : (y : ℕ) → y < n_of s → T (has (path_of s c m) y) → (y ≡ c → ⊥) → T (has (path_of s c m) (parent s y))
      linked y l h ne =
          let r = path_e c y h in
          let k = within_strict r.1 (λ q. ne (sym q)) in
          path_i c (parent s y) (parent_n s (tree s sd) y l) k.1 (within_trans (up k.0 here) r.2)

      lone : (y z : ℕ) → y < n_of s → z < n_of s → 0 < y → 0 < z → parent s y ≡ parent s z → T (has (path_of s c m) y) → T (has (path_of s c m) z) → y ≡ z
      lone y z ly lz py pz q h k =
          ⊎_elim (siblings s (tree s sd) y z ly py pz q) (λ v. sym (siblings s (tree s sd) z y lz pz py (sym q) v))
          (within_total (path_e c y h).2 (path_e c z k).2)

-- ---- the child that holds a mode, and the path, from the masks

-- a mode strictly contains what its child holds
child_held : (s : List ℕ) (ro : Rooted s) (p m c : ℕ) → m < n_of s → Child s p m c → T (strictly_contains s p m)
unfolding strictly_contains
child_held s ro p m c mn h =
    let cm = within_le s ro h.holds mn in
    let pc : p < c = subst (λ (i : ℕ). i < c) h.par (ro.lower c h.pos (lt_of_le_of_lt cm mn)) in
    and_i (not (eqb p m)) (contains s p m) (not_T (eqb p m) (λ e. omega (arith, cm, eqb→eq p m e)))
    (contains_i s ro m (within_trans (subst (λ (i : ℕ). Within s i c) h.par (up h.pos here)) h.holds) mn)

module _ (s : List ℕ) (ro : Rooted s) (p m : ℕ) (mn : m < n_of s) (h : T (strictly_contains s p m)) where
  abbrev held : ℕ
  held = child_holding s p m

  strict : Within s p m × (p ≡ m → ⊥)
  unfolding strictly_contains
  strict = (
    contains_e s ro p m (and_r (not (eqb p m)) (contains s p m) h),
    λ e. T_not (eqb p m) (and_l (not (eqb p m)) (contains s p m) h) (of_true (eq-eqb p m e)),
  )

  child : Child s p m held
  child = child_holding_lem s ro p m mn strict.0 strict.1

  pub held_mode : held < n_of s
  held_mode = lt_of_le_of_lt (within_le s ro child.holds mn) mn

  pub holder_mode : p < n_of s
  holder_mode = lt_of_le_of_lt (within_le s ro strict.0 mn) mn

  -- the modes within p that contain m
  abbrev between : ℕ
  between = meet (within s p) (containers s m)

  has_between : (y : ℕ) → y < n_of s → has between y ≡ (strictly_contains s p y && contains s y m)
  has_between y l = has_meet (within s p) (containers s m) y ∙ ap₂ ◌&&◌ (has_within s p y l) (has-containers s ro m y mn)

  -- none has a lower number than the child of p that holds m
  not_lower : (y : ℕ) → y < n_of s → T (has between y) → held ≤ y
  not_lower y l k = go (within_total child.holds (contains_e s ro y m (and_r (strictly_contains s p y) (contains s y m) t)))
    where
      t : T (strictly_contains s p y && contains s y m)
      t = subst (λ (b : Bool). T b) (has_between y l) k

      same : (b : Bool) → eqb y held ≡ b → Within s y held → held ≤ y
      same true e u = omega (arith, eqb-true y held e)
      same false e u =
          let v = subst (λ (i : ℕ). Within s y i) child.par (within_strict u (eqb-false y held e)).1 in
          absurd (omega (arith, within_le s ro v holder_mode, strictly_lt s ro p y l (and_l (strictly_contains s p y) (contains s y m) t)))

      go : Within s held y ⊎ Within s y held → held ≤ y
      go (inl u) = within_le s ro u l
      go (inr u) = same (eqb y held) refl u

  pub held_lowest : n_of s ≤ 32 → lowest 32 between ≡ held
  held_lowest small =
      lowest_unique
      (record {
        small = omega (arith, held_mode);
        member =
            has_between held held_mode
            ∙ is_true (strictly_contains s p held && contains s held m)
            (and_i (strictly_contains s p held) (contains s held m)
            (child_held s ro p held held held_mode (record { pos = child.pos; par = child.par; holds = here })) (contains_i s ro m child.holds mn));
        least = λ j l. is_false (has between j) (λ k. omega (arith, not_lower j (omega (arith, held_mode)) k));
      })

-- the modes from c down to m
pub path_masks : (s : List ℕ) (ro : Rooted s) (c m : ℕ) → m < n_of s → meet (containers s m) (set_of (n_of s) (contains s c)) ≡ path_of s c m
unfolding those
path_masks s ro c m mn =
    meet-set_of (n_of s) (containers s m) (contains s c)
    ∙ set_of_same (n_of s) (λ y. has (containers s m) y && contains s c y) (λ y. contains s c y && contains s y m)
    (λ y l. ap (λ (b : Bool). b && contains s c y) (has-containers s ro m y mn) ∙ and_comm (contains s y m) (contains s c y))

-- ---- the ends of a transition

-- p is the meeting mode of t, a its source, b its target, c the child of p that holds the one or the other
module _ (s : List ℕ) (sd : Sound s) (t : ℕ) (l : t < t_of s) (p : ℕ) (meets : p ≡ meeting s t) where
  pub source_held : (a : ℕ) → a ≡ source s t → (a < n_of s) × T (strictly_contains s p a)
  source_held a i = let e = ends s sd t l in rw (i, meets) (e.source_n, child_held s (tree s sd) (meeting s t) (source s t) _ e.source_n e.left)

  pub target_held : (b : ℕ) → b ≡ target s t → (b < n_of s) × T (strictly_contains s p b)
  target_held b i = let e = ends s sd t l in rw (i, meets) (e.target_n, child_held s (tree s sd) (meeting s t) (target s t) _ e.target_n e.right)

  pub exits_inside : (a c : ℕ) → a ≡ source s t → c ≡ child_holding s p a → set_of (n_of s) (contains s c) ≡ exits s t
  unfolding exits
  exits_inside a c i j = rw (j, i, meets)

  pub enters_branch : (b c way : ℕ) → b ≡ target s t → c ≡ child_holding s p b → way ≡ path_of s c b → branch s way c ≡ enters s t
  unfolding enters
  enters_branch b c way i j k =
      let e = ends s sd t l in
      rw (k, j, i, meets)
      (sym (complete-branch s sd _ _ (lt_of_le_of_lt (within_le s (tree s sd) e.right.holds e.target_n) e.target_n)
      (path_based s sd (target s t) e.target_n _ e.right.holds)))
