-- Completion from a mode down: the depth never matters, the equations by which the code runs, and that it is document 01's
-- completion. Assumes nothing.
use mathlib.Core.Path.{◌≡◌, refl, sym, ap, ◌∙◌, subst}
use mathlib.Core.Logic.{◌⊎◌, inl, inr, ⊎_elim}
use mathlib.Core.Bool.{Bool, true, false, not, ◌&&◌, ◌||◌, cond, and_comm}
use mathlib.Core.List.{List}
use Prim.Native.Nat.{ℕ, zero, suc, ◌+◌, ◌^◌, ◌≤◌, ◌<◌}
use native.Mathlib.Nat.{lt_of_le_of_lt}
use native.Mathlib.Omega.{arith}
use lib.Bits.{or_zero_r}
use lib.Dec.{T, eqb, ltb, eqb→eq, leb→le, T_not, not_T}
use borrow.Author.Tests.{eqb-true, eqb-false, eq-eqb, ne_eqb}
use Rattle.sets.specs.Sets.{has, union, meet, single, members, highest, some, some_in}
use Rattle.sets.proofs.Tests.{is_false, of_true, of_false, and_l, and_r, and_i, or_e, or_l, or_r, bool_ext}
use Rattle.sets.proofs.Membership.{same_members, has_none, has_meet, has-set_of, meet-le}
use Rattle.sets.proofs.Facts.{union_e, union_l, union_r, single_e, single_i, some_e, some_i, some_in_e, some_in_i}
use Rattle.sets.proofs.Members.{fold}
use Rattle.sets.proofs.Quantifiers.{has-union_over}
use Rattle.sets.proofs.Highest.{last_cases, last_none, last_is, highest_member}
use Rattle.meaning.specs.Sheet.{n_of, kind, parent, first, is_child}
use Rattle.meaning.specs.Check.{mode_ok}
use Rattle.meaning.specs.Hierarchy.{children, brings, complete}
use Rattle.meaning.proofs.ListLaws.{all_of_e}
use Rattle.meaning.proofs.SheetLaws.{parent_n, Sound, n_pos, n_le, tree, first_child}
use Rattle.meaning.proofs.Containment.{Within, here, up, is_child_e, is_child_i}
use Rattle.meaning.proofs.Completion.{Comp, base, down, complete_e, complete_i, Based}
use Rattle.sheet.proofs.MaskLaws.{children_e, children_i}
use Rattle.hierarchy.specs.Below.{gather, kept_child, completed_below_at, completed_below, branch}
use Rattle.hierarchy.proofs.Gather.{gather_e, gather_i, gather_same}

-- a mode's kind by the code's test
pub serial_of : (k : ℕ) (t : Bool) → t ≡ eqb k 1 → t ≡ true → k ≡ 1
serial_of k t e h = eqb-true k 1 (sym e ∙ h)

pub other_of : (k : ℕ) (t : Bool) → t ≡ eqb k 1 → t ≡ false → k ≡ 1 → ⊥
other_of k t e h = eqb-false k 1 (sym e ∙ h)

-- ---- children

module _ (s : List ℕ) (sd : Sound s) where
  -- a child has a higher number than its parent
  pub child_above : (p c : ℕ) → c < n_of s → T (is_child s p c) → p < c
  child_above p c l h = let r = is_child_e s p c h in omega (arith, r.1, (tree s sd).lower c r.0 l)

  -- where the code goes from mode m
  pub children_next : (m c : ℕ) → T (has (children s m) c) → (m < c) × (c < n_of s)
  children_next m c h = let r = children_e s m c h in (child_above m c r.0 r.1, r.0)

  -- a mode with a child is serial or parallel
  kind_of_parent : (p c : ℕ) → c < n_of s → T (is_child s p c) → (kind s p ≡ 1) ⊎ (kind s p ≡ 2)
  unfolding mode_ok
  kind_of_parent p c l h = go (kind s p) refl
    where
      r : (0 < c) × (parent s c ≡ p)
      r = is_child_e s p c h

      pn : p < n_of s
      pn = subst (λ (i : ℕ). i < n_of s) r.1 (parent_n s (tree s sd) c l)

      some-kind : kind s p ≡ 0 → ⊥
      some-kind e =
          T_not (eqb (kind s (parent s c)) 0)
          (and_r (ltb (parent s c) c) (not (eqb (kind s (parent s c)) 0))
          (subst (λ (b : Bool). T (cond b (eqb (parent s c) 0) (ltb (parent s c) c && not (eqb (kind s (parent s c)) 0)))) (ne_eqb c 0 (λ z. omega (arith, r.0))) (all_of_e _ (sd.modes c l)).1.0))
          (of_true (eq-eqb (kind s (parent s c)) 0 (ap (kind s) r.1 ∙ e)))

      most : kind s p ≤ 2
      most = leb→le (kind s p) 2 (all_of_e _ (sd.modes p pn)).0

      go : (k : ℕ) → kind s p ≡ k → (kind s p ≡ 1) ⊎ (kind s p ≡ 2)
      go zero e = absurd (some-kind e)
      go (suc zero) e = inl e
      go (suc (suc k)) e = inr (omega (arith, most))

  module _ (x : ℕ) where
    -- completing mode p, for the set x, takes its child c
    pub record ChildStep (p c : ℕ) : Type 0 where
      pub small : c < n_of s
      pub child : T (is_child s p c)
      pub only : kind s p ≡ 1 → kept_child s x p ≡ c

    -- the child that a serial mode takes: its child in x, or else its first mode
    abbrev KeptChild : ℕ → Type 0
    KeptChild m = ((kept_child s x m < n_of s) × T (is_child s m (kept_child s x m) && has x (kept_child s x m))) ⊎ ((kept_child s x m ≡ first s m) × ((i : ℕ) → i < n_of s → T (is_child s m i && has x i) → ⊥))

    kept_child_cases : (m : ℕ) → KeptChild m
    unfolding kept_child
    kept_child_cases m = last_cases (λ c. is_child s m c && has x c) (first s m) (n_of s)

    pub kept_child_step : (m : ℕ) → m < n_of s → kind s m ≡ 1 → ChildStep m (kept_child s x m)
    kept_child_step m l k = go (kept_child_cases m)
      where
        go : KeptChild m → ChildStep m (kept_child s x m)
        go (inl f) = record { small = f.0; child = and_l (is_child s m (kept_child s x m)) (has x (kept_child s x m)) f.1; only = λ _. refl }
        go (inr f) =
            let r = first_child s sd m l k in
            record { small = subst (λ (i : ℕ). i < n_of s) (sym f.0) r.0; child = subst (λ (i : ℕ). T (is_child s m i)) (sym f.0) r.1; only = λ _. refl }

    -- where the code goes from serial mode m
    pub kept_child_next : (m c : ℕ) → m < n_of s → kind s m ≡ 1 → c ≡ kept_child s x m → (m < c) × (c < n_of s)
    kept_child_next m c l k e = let t = kept_child_step m l k in omega (arith, child_above m (kept_child s x m) t.small t.child, t.small)

    -- w the set of m's children: where none of them is in x, m takes its first mode, and else the highest of them
    module _ (m w : ℕ) (e : w ≡ children s m) where
      among_children : (i : ℕ) → i < n_of s → has (meet x w) i ≡ (is_child s m i && has x i)
      unfolding children
      among_children i l =
          has_meet x w i
          ∙ ap (λ (b : Bool). has x i && b) (ap (λ (y : ℕ). has y i) e ∙ has-set_of (n_of s) (is_child s m) i l)
          ∙ and_comm (has x i) (is_child s m i)

      pub kept_child_first : meet x w ≡ 0 → first s m ≡ kept_child s x m
      unfolding kept_child
      kept_child_first z =
          sym (last_none (λ c. is_child s m c && has x c) (first s m) (n_of s) (λ i l. sym (among_children i l) ∙ ap (λ (y : ℕ). has y i) z ∙ has_none i))

      pub kept_child_highest : x < 2 ^ 32 → 0 < meet x w → highest 32 (meet x w) ≡ kept_child s x m
      unfolding kept_child
      kept_child_highest l k =
          let t = highest 32 (meet x w) in
          let h = highest_member 32 (meet x w) (lt_of_le_of_lt (meet-le x w) l) k in
          let n = (children_e s m t (subst (λ (y : ℕ). T (has y t)) e (and_r (has x t) (has w t) (subst T (has_meet x w t) h.member)))).0 in
          sym (last_is (λ c. is_child s m c && has x c) (first s m) (n_of s) t n (subst T (among_children t n) h.member)
          (λ i a b p. absurd (omega (arith, h.most i (subst T (sym (among_children i b)) p)))))

    -- ---- the depth never matters

    enough : (f g m : ℕ) → m < n_of s → n_of s ≤ f + m → n_of s ≤ g + m → completed_below_at s x f m ≡ completed_below_at s x g m
    unfolding completed_below_at
    enough zero g m l h h' = absurd (omega arith)
    enough (suc f) zero m l h h' = absurd (omega arith)
    enough (suc f) (suc g) m l h h' = go (eqb (kind s m) 1) refl (enough f g)
      where
        go : (b : Bool) → eqb (kind s m) 1 ≡ b
            → ((c : ℕ) → c < n_of s → n_of s ≤ f + c → n_of s ≤ g + c → completed_below_at s x f c ≡ completed_below_at s x g c)
            → cond b (union (single (kept_child s x m)) (completed_below_at s x f (kept_child s x m))) (gather (is_child s m) (λ c. union (single c) (completed_below_at s x f c)) (n_of s))
            ≡ cond b (union (single (kept_child s x m)) (completed_below_at s x g (kept_child s x m))) (gather (is_child s m) (λ c. union (single c) (completed_below_at s x g c)) (n_of s))
        go true e ih =
            let t = kept_child_next m (kept_child s x m) l (eqb-true (kind s m) 1 e) refl in
            ap (union (single (kept_child s x m))) (ih (kept_child s x m) t.1 (omega (arith, t.0)) (omega (arith, t.0)))
        go false e ih =
            gather_same (is_child s m) (λ c. union (single c) (completed_below_at s x f c)) (λ c. union (single c) (completed_below_at s x g c)) (n_of s) (λ c k t.
            let a = child_above m c k t in
            ap (union (single c)) (ih c k (omega arith) (omega arith)))

    pub completed_below_serial : (m : ℕ) → m < n_of s → kind s m ≡ 1 → completed_below s x m ≡ branch s x (kept_child s x m)
    unfolding completed_below completed_below_at branch
    completed_below_serial m l k = enough (n_of s) (suc (n_of s)) m l (omega arith) (omega arith) ∙ rw (eq-eqb (kind s m) 1 k)

    pub completed_below_other : (m : ℕ) → m < n_of s → (kind s m ≡ 1 → ⊥) → completed_below s x m ≡ gather (is_child s m) (branch s x) (n_of s)
    unfolding completed_below completed_below_at branch
    completed_below_other m l k = enough (n_of s) (suc (n_of s)) m l (omega arith) (omega arith) ∙ rw (ne_eqb (kind s m) 1 k)

    -- ---- what the code puts together

    -- the branch of a mode, from its set and what is below it
    pub branch_of : (c b d : ℕ) → b ≡ single c → d ≡ completed_below s x c → union b d ≡ branch s x c
    unfolding branch
    branch_of c b d p q = rw (p, q)

    -- what is below a serial mode, from the child that it takes
    pub serial_done : (m c r : ℕ) → m < n_of s → kind s m ≡ 1 → c ≡ kept_child s x m → r ≡ branch s x c → r ≡ completed_below s x m
    serial_done m c r l k e p = p ∙ ap (branch s x) e ∙ sym (completed_below_serial m l k)

    -- ---- which modes are in a branch

    branch_e : (m y : ℕ) → T (has (branch s x m) y) → (y ≡ m) ⊎ T (has (completed_below s x m) y)
    unfolding branch
    branch_e m y h = ⊎_elim (λ a. inl (single_e m y a)) (λ a. inr a) (union_e (single m) (completed_below s x m) y h)

    branch_top : (m : ℕ) → T (has (branch s x m) m)
    unfolding branch
    branch_top m = union_l (single m) (completed_below s x m) m (single_i m)

    branch_below : (m y : ℕ) → T (has (completed_below s x m) y) → T (has (branch s x m) y)
    unfolding branch
    branch_below m y h = union_r (single m) (completed_below s x m) y h

    -- a child that m takes, and what its branch holds
    completed_below_e : (m y : ℕ) → m < n_of s → T (has (completed_below s x m) y) → (c : ℕ) × ChildStep m c × T (has (branch s x c) y)
    completed_below_e m y l h = go (eqb (kind s m) 1) refl
      where
        go : (b : Bool) → eqb (kind s m) 1 ≡ b → (c : ℕ) × ChildStep m c × T (has (branch s x c) y)
        go true e =
            let k = eqb-true (kind s m) 1 e in
            (kept_child s x m, kept_child_step m l k, subst (λ (z : ℕ). T (has z y)) (completed_below_serial m l k) h)
        go false e =
            let k = eqb-false (kind s m) 1 e in
            let r = gather_e (is_child s m) (branch s x) (n_of s) y (subst (λ (z : ℕ). T (has z y)) (completed_below_other m l k) h) in
            (r.0, record { small = r.1; child = r.2; only = λ q. absurd (k q) }, r.3)

    completed_below_i : (m c y : ℕ) → m < n_of s → ChildStep m c → T (has (branch s x c) y) → T (has (completed_below s x m) y)
    completed_below_i m c y l t h = go (eqb (kind s m) 1) refl
      where
        go : (b : Bool) → eqb (kind s m) 1 ≡ b → T (has (completed_below s x m) y)
        go true e =
            let k = eqb-true (kind s m) 1 e in
            subst (λ (z : ℕ). T (has z y)) (sym (completed_below_serial m l k ∙ ap (branch s x) (t.only k))) h
        go false e =
            subst (λ (z : ℕ). T (has z y)) (sym (completed_below_other m l (eqb-false (kind s m) 1 e)))
            (gather_i (is_child s m) (branch s x) (n_of s) y c t.small t.child h)

    -- a mode without children has nothing below it
    completed_below_childless : (m : ℕ) → m < n_of s → children s m ≡ 0 → completed_below s x m ≡ 0
    completed_below_childless m l e =
        same_members (λ y. is_false (has (completed_below s x m) y) (λ h. none y (completed_below_e m y l h)) ∙ sym (has_none y))
      where
        none : (y : ℕ) → (c : ℕ) × ChildStep m c × T (has (branch s x c) y) → ⊥
        none y r =
            of_false (ap (λ (z : ℕ). has z r.0) e ∙ has_none r.0) (children_i s m r.0 r.1.small r.1.child)

    -- so that nothing is added for it
    pub childless_union : (c r : ℕ) → c < n_of s → children s c ≡ 0 → union r (completed_below s x c) ≡ r
    childless_union c r l e = ap (union r) (completed_below_childless c l e) ∙ or_zero_r r

    pub childless_branch : (c b : ℕ) → c < n_of s → children s c ≡ 0 → b ≡ single c → b ≡ branch s x c
    unfolding branch
    childless_branch c b l e p = p ∙ sym (childless_union c (single c) l e)

    -- below a parallel mode are its children, with what is below each of them
    pub completed_below_members : (m : ℕ) → m < n_of s → (kind s m ≡ 1 → ⊥)
        → fold (λ r c. union r (completed_below s x c)) (children s m) (members 32 (children s m)) ≡ completed_below s x m
    completed_below_members m l k =
        same_members (λ y.
        has-union_over (completed_below s x) y 32 (children s m) (children s m)
        ∙ bool_ext (has (children s m) y || some_in 32 (children s m) (λ c. has (completed_below s x c) y)) (has (completed_below s x m) y)
        (λ h. ⊎_elim (λ a. let r = children_e s m y a in step y y r.0 r.1 (branch_top y))
        (λ a.
        let r = some_in_e 32 (children s m) (λ c. has (completed_below s x c) y) a in
        let g = children_e s m r.0 r.2 in
        step r.0 y g.0 g.1 (branch_below r.0 y r.3))
        (or_e (has (children s m) y) (some_in 32 (children s m) (λ c. has (completed_below s x c) y)) h))
        (λ h. let r = completed_below_e m y l h in found y r.0 r.1 (branch_e r.0 y r.2)))
      where
        step : (c y : ℕ) → c < n_of s → T (is_child s m c) → T (has (branch s x c) y) → T (has (completed_below s x m) y)
        step c y n h b = completed_below_i m c y l (record { small = n; child = h; only = λ q. absurd (k q) }) b

        found : (y c : ℕ) → ChildStep m c → (y ≡ c) ⊎ T (has (completed_below s x c) y)
            → T (has (children s m) y || some_in 32 (children s m) (λ d. has (completed_below s x d) y))
        found y c t (inl e) =
            or_l (has (children s m) y) (some_in 32 (children s m) (λ d. has (completed_below s x d) y))
            (subst (λ (i : ℕ). T (has (children s m) i)) (sym e) (children_i s m c t.small t.child))
        found y c t (inr a) =
            or_r (has (children s m) y) (some_in 32 (children s m) (λ d. has (completed_below s x d) y))
            (some_in_i 32 (children s m) (λ d. has (completed_below s x d) y) c (omega (arith, t.small, n_le s sd)) (children_i s m c t.small t.child) a)

    -- with a mode of the branch, the children that it takes
    branch_step : (k m p c : ℕ) → m < n_of s → n_of s ≤ k + m → T (has (branch s x m) p) → ChildStep p c → T (has (branch s x m) c)
    branch_step zero m p c l b h t = absurd (omega arith)
    branch_step (suc k) m p c l b h t = go (branch_e m p h) (branch_step k)
      where
        go : (p ≡ m) ⊎ T (has (completed_below s x m) p)
            → ((d q y : ℕ) → d < n_of s → n_of s ≤ k + d → T (has (branch s x d) q) → ChildStep q y → T (has (branch s x d) y)) → T (has (branch s x m) c)
        go (inl e) ih = branch_below m c (completed_below_i m c c l (subst (λ (i : ℕ). ChildStep i c) e t) (branch_top c))
        go (inr a) ih =
            let r = completed_below_e m p l a in
            let d = r.0 in
            branch_below m c (completed_below_i m d c l r.1 (ih d p c r.1.small (omega (arith, child_above m d r.1.small r.1.child)) r.2 t))

    -- ---- the branch is document 01's completion

    -- a child that p brings in is taken
    brought : (p m : ℕ) → m < n_of s → T (is_child s p m) → T (brings s x p m) → ChildStep p m
    unfolding brings
    brought p m l c h = record { small = l; child = c; only = go (or_e (eqb (kind s p) 2) (eqb (kind s p) 1 && eqb (first s p) m && not (some (n_of s) (λ i. is_child s p i && has x i))) h) }
      where
        go : T (eqb (kind s p) 2) ⊎ T (eqb (kind s p) 1 && eqb (first s p) m && not (some (n_of s) (λ i. is_child s p i && has x i))) → kind s p ≡ 1 → kept_child s x p ≡ m
        go (inl a) k = absurd (omega (arith, eqb→eq (kind s p) 2 a))
        go (inr a) k = at (kept_child_cases p)
          where
            is_first : first s p ≡ m
            is_first = eqb→eq (first s p) m (and_r (eqb (kind s p) 1) (eqb (first s p) m) (and_l (eqb (kind s p) 1 && eqb (first s p) m) (not (some (n_of s) (λ i. is_child s p i && has x i))) a))

            at : KeptChild p → kept_child s x p ≡ m
            at (inl f) =
                absurd (T_not (some (n_of s) (λ i. is_child s p i && has x i)) (and_r (eqb (kind s p) 1 && eqb (first s p) m) (not (some (n_of s) (λ i. is_child s p i && has x i))) a)
                (some_i (n_of s) (λ i. is_child s p i && has x i) (kept_child s x p) f.0 f.1))
            at (inr f) = f.0 ∙ is_first

    -- a child that is taken is in x, or p brings it in
    taken : (p m : ℕ) → ChildStep p m → Comp s x p → Comp s x m
    taken p m t c = go (kind_of_parent p m t.small t.child)
      where
        r : (0 < m) × (parent s m ≡ p)
        r = is_child_e s p m t.child

        bring : T (brings s x p m) → Comp s x m
        bring b = down r.0 (subst (λ (i : ℕ). T (brings s x i m)) (sym r.1) b) (subst (λ (i : ℕ). Comp s x i) (sym r.1) c)

        serial : kind s p ≡ 1 → KeptChild p → Comp s x m
        serial k (inl f) = base (subst (λ (i : ℕ). T (has x i)) (t.only k) (and_r (is_child s p (kept_child s x p)) (has x (kept_child s x p)) f.1))
        serial k (inr f) =
            bring (unfold brings in (or_r (eqb (kind s p) 2) (eqb (kind s p) 1 && eqb (first s p) m && not (some (n_of s) (λ i. is_child s p i && has x i)))
            (and_i (eqb (kind s p) 1 && eqb (first s p) m) (not (some (n_of s) (λ i. is_child s p i && has x i)))
            (and_i (eqb (kind s p) 1) (eqb (first s p) m) (of_true (eq-eqb (kind s p) 1 k)) (of_true (eq-eqb (first s p) m (sym f.0 ∙ t.only k))))
            (not_T (some (n_of s) (λ i. is_child s p i && has x i)) (λ h. let q = some_e (n_of s) (λ i. is_child s p i && has x i) h in f.1 q.0 q.1 q.2)))))

        go : (kind s p ≡ 1) ⊎ (kind s p ≡ 2) → Comp s x m
        go (inl k) = serial k (kept_child_cases p)
        go (inr k) =
            bring (unfold brings in (or_l (eqb (kind s p) 2) (eqb (kind s p) 1 && eqb (first s p) m && not (some (n_of s) (λ i. is_child s p i && has x i))) (of_true (eq-eqb (kind s p) 2 k))))

    -- the branch of a mode of x completed is in x completed
    branch_comp : (k m y : ℕ) → m < n_of s → n_of s ≤ k + m → Comp s x m → T (has (branch s x m) y) → (y < n_of s) × Comp s x y
    branch_comp zero m y l b c h = absurd (omega arith)
    branch_comp (suc k) m y l b c h = go (branch_e m y h) (branch_comp k)
      where
        go : (y ≡ m) ⊎ T (has (completed_below s x m) y)
            → ((d z : ℕ) → d < n_of s → n_of s ≤ k + d → Comp s x d → T (has (branch s x d) z) → (z < n_of s) × Comp s x z) → (y < n_of s) × Comp s x y
        go (inl e) ih = (subst (λ (i : ℕ). i < n_of s) (sym e) l, subst (λ (i : ℕ). Comp s x i) (sym e) c)
        go (inr a) ih =
            let r = completed_below_e m y l a in
            let d = r.0 in
            ih d y r.1.small (omega (arith, child_above m d r.1.small r.1.child)) (taken m d r.1 c) r.2

    module _ (e : ℕ) (en : e < n_of s) (b : Based s x e) where
      -- a serial mode with a child in x takes that child
      keeps : (p m : ℕ) → m < n_of s → T (is_child s p m) → T (has x m) → ChildStep p m
      keeps p m l c h = record { small = l; child = c; only = λ k. go (kept_child_cases p) }
        where
          go : KeptChild p → kept_child s x p ≡ m
          go (inl f) =
              let d = kept_child s x p in
              let r = is_child_e s p d (and_l (is_child s p d) (has x d) f.1) in
              let q = is_child_e s p m c in
              b.lone d m f.0 l r.0 q.0 (r.1 ∙ sym q.1) (and_r (is_child s p d) (has x d) f.1) h
          go (inr f) = absurd (f.1 m l (and_i (is_child s p m) (has x m) c h))

      grown : (p m : ℕ) → ChildStep p m → T (has (branch s x e) p) → T (has (branch s x e) m)
      grown p m t h = branch_step (n_of s) e p m en (omega arith) h t

      member_in : {m : ℕ} → Within s e m → m < n_of s → T (has x m) → T (has (branch s x e) m)
      member_in here l h = branch_top e
      member_in (up {m} p w) l h = go (eqb m e) refl (λ g. member_in w (parent_n s (tree s sd) m l) g)
        where
          go : (v : Bool) → eqb m e ≡ v → (T (has x (parent s m)) → T (has (branch s x e) (parent s m))) → T (has (branch s x e) m)
          go true q ih = subst (λ (i : ℕ). T (has (branch s x e) i)) (sym (eqb-true m e q)) (branch_top e)
          go false q ih = grown (parent s m) m (keeps (parent s m) m l (is_child_i s (parent s m) m p refl) h) (ih (b.linked m l h (eqb-false m e q)))

      comp_in : {m : ℕ} → Comp s x m → m < n_of s → T (has (branch s x e) m)
      comp_in (base {m} h) l = member_in (b.below m l h) l h
      comp_in (down {m} p g c) l = grown (parent s m) m (brought (parent s m) m l (is_child_i s (parent s m) m p refl) g) (comp_in c (parent_n s (tree s sd) m l))

      pub complete-branch : complete s x ≡ branch s x e
      complete-branch =
          same_members (λ i. bool_ext (has (complete s x) i) (has (branch s x e) i)
          (λ h. let r = complete_e s sd x i h in comp_in r.1 r.0)
          (λ h. let r = branch_comp (n_of s) e i en (omega arith) (base b.top) h in complete_i s sd x i r.0 r.1))

  -- the root completed
  pub complete_root : complete s (single 0) ≡ branch s (single 0) 0
  complete_root =
      complete-branch (single 0) 0 (n_pos s sd)
      (record {
        below = λ m l h. subst (λ (i : ℕ). Within s 0 i) (sym (single_e 0 m h)) here;
        top = single_i 0;
        linked = λ m l h ne. absurd (ne (single_e 0 m h));
        lone = λ y z ly lz py pz e h k. single_e 0 y h ∙ sym (single_e 0 z k);
      })
