-- A tick leaves a consistent mode set. Assumes nothing.
use mathlib.Core.Path.{◌≡◌, refl, sym, ap, ◌∙◌, subst}
use mathlib.Core.Logic.{◌⊎◌, inl, inr, ⊎_elim}
use mathlib.Core.Bool.{Bool, true, false, not, ◌&&◌, ◌||◌, cond}
use mathlib.Core.List.{List, [], ◌∷◌}
use Prim.Native.Nat.{ℕ, suc, ◌^◌, ◌<◌}
use native.Mathlib.Nat.{le_trans, lt_of_le_of_lt, not-suc-le-zero, eq-zero-or-pos}
use native.Mathlib.Omega.{arith}
use lib.Dec.{T, eqb, ltb, eqb→eq, ltb→lt, lt→ltb, T_not, not_T}
use borrow.Author.Tests.{eqb-true, eqb-false, eq-eqb}
use Rattle.sets.specs.Sets.{has, single, set_of, those, size, some_in, every_in}
use Rattle.sets.proofs.Tests.{of_true, and_l, and_r, and_i, or_e, or_l, or_r, implied, implies}
use Rattle.sets.proofs.Membership.{has-single, set_of-lt, union-lt, minus-le}
use Rattle.sets.proofs.Facts.{set_of_e, set_of_i, those_e, those_i, some_in_e, some_in_i, every_in_e, every_in_i}
use Rattle.sets.proofs.Quantifiers.{size_one_e, size_one_i}
use Rattle.sets.proofs.Those.{those-lt}
use Rattle.meaning.specs.Sheet.{n_of, t_of, kind, parent, is_child, source, target, contains, meeting}
use Rattle.meaning.specs.Hierarchy.{children, consistent, member_ok, completed_in, complete, child_holding, exits, enters}
use Rattle.meaning.specs.Reaction.{TickSets, is_delay, delay, is_due, alternative, trigger, conflict, ambiguous, exiting, entering, after_round}
use Rattle.meaning.specs.Tick.{begin, chosen, tick}
use Rattle.meaning.specs.Promises.{KeepsConsistent}
use Rattle.meaning.proofs.ListLaws.{Holds, all_of_e, all_of_i}
use Rattle.meaning.proofs.SheetLaws.{parent_n, Sound, sound, n_pos, tree}
use Rattle.meaning.proofs.TickLaws.{Taken, rounds_ind, chosen_lt, chosen_triggered, modes_after, begin_by}
use Rattle.meaning.proofs.Containment.{Within, here, up, is_child_e, is_child_i, within_le, within_trans, within_strict, within_total, contains_e, contains_i, not_above, siblings, child_holding_lem, Ends, ends, meeting-source}
use Rattle.meaning.proofs.Completion.{complete_e, Whole, whole}

-- ---- consistency in parts

pub record Cons (s : List ℕ) (x : ℕ) : Type 0 where
  pub root : T (has x 0)
  pub par : (m : ℕ) → m < n_of s → T (has x m) → T (has x (parent s m))
  pub one : (m : ℕ) → m < n_of s → T (has x m) → kind s m ≡ 1 → (y : ℕ) × (y < n_of s) × (0 < y) × (parent s y ≡ m) × T (has x y)
  pub lone : (y z : ℕ) → y < n_of s → z < n_of s → 0 < y → 0 < z → parent s y ≡ parent s z → kind s (parent s y) ≡ 1 → T (has x y) → T (has x z) → y ≡ z
  pub every : (y : ℕ) → y < n_of s → 0 < y → kind s (parent s y) ≡ 2 → T (has x (parent s y)) → T (has x y)

-- the top of what t exits and of what it enters: its meeting mode's child that holds the source, and the one that holds the target
abbrev pub exit_top : List ℕ → ℕ → ℕ
exit_top s t = child_holding s (meeting s t) (source s t)

abbrev pub enter_top : List ℕ → ℕ → ℕ
enter_top s t = child_holding s (meeting s t) (target s t)

module _ (s : List ℕ) (sd : Sound s) where
  pub cons_e : (x : ℕ) → T (consistent s x) → Cons s x
  unfolding consistent member_ok children
  cons_e x h =
      record {
        root = q.1.0;
        par = λ m l k. (ok m l k).0;
        one = λ m l k e.
            let r = unique m l k e in
            let g = those_e (n_of s) x (is_child s m) r.0 r.2 in
            let c = is_child_e s m r.0 g.2 in
            (r.0, r.1, c.0, c.1, g.1);
        lone = λ y z ly lz py pz e k g j.
            let r = unique (parent s y) (parent_n s (tree s sd) y ly) (ok y ly g).0 k in
            r.3 y (those_i (n_of s) x (is_child s (parent s y)) y ly g (is_child_i s (parent s y) y py refl))
            ∙ sym (r.3 z (those_i (n_of s) x (is_child s (parent s y)) z lz j (is_child_i s (parent s y) z pz (sym e))));
        every = λ y l p k g.
            every_in_e (n_of s) (set_of (n_of s) (is_child s (parent s y))) (has x)
            (implied (eqb (kind s (parent s y)) 2) (every_in (n_of s) (set_of (n_of s) (is_child s (parent s y))) (has x)) (ok (parent s y) (parent_n s (tree s sd) y l) g).1.1.0 (of_true (eq-eqb (kind s (parent s y)) 2 k)))
            y l (set_of_i (n_of s) (is_child s (parent s y)) y l (is_child_i s (parent s y) y p refl));
      }
    where
      q : Holds (ltb x (2 ^ n_of s) ∷ has x 0 ∷ every_in (n_of s) x (member_ok s x) ∷ [])
      q = all_of_e _ h

      ok : (m : ℕ) → m < n_of s → T (has x m)
          → Holds (has x (parent s m) ∷ (not (eqb (kind s m) 1) || eqb (size (n_of s) (those (n_of s) x (is_child s m))) 1) ∷ (not (eqb (kind s m) 2) || every_in (n_of s) (set_of (n_of s) (is_child s m)) (has x)) ∷ [])
      ok m l k = all_of_e _ (every_in_e (n_of s) x (member_ok s x) q.1.1.0 m l k)

      unique : (m : ℕ) → m < n_of s → T (has x m) → kind s m ≡ 1
          → (j : ℕ) × (j < n_of s) × T (has (those (n_of s) x (is_child s m)) j) × ((i : ℕ) → T (has (those (n_of s) x (is_child s m)) i) → i ≡ j)
      unique m l k e =
          size_one_e (n_of s) (those (n_of s) x (is_child s m)) (those-lt (n_of s) x (is_child s m))
          (eqb→eq (size (n_of s) (those (n_of s) x (is_child s m))) 1 (implied (eqb (kind s m) 1) (eqb (size (n_of s) (those (n_of s) x (is_child s m))) 1) (ok m l k).1.0 (of_true (eq-eqb (kind s m) 1 e))))

  pub cons_i : (x : ℕ) → x < 2 ^ n_of s → Cons s x → T (consistent s x)
  unfolding consistent member_ok children
  cons_i x lx c =
      all_of_i (ltb x (2 ^ n_of s) ∷ has x 0 ∷ every_in (n_of s) x (member_ok s x) ∷ [])
      (lt→ltb x (2 ^ n_of s) lx, (c.root, (every_in_i (n_of s) x (member_ok s x) ok, tt)))
    where
      single_child : (m : ℕ) → m < n_of s → T (has x m) → kind s m ≡ 1 → T (eqb (size (n_of s) (those (n_of s) x (is_child s m))) 1)
      single_child m l h k =
          let r = c.one m l h k in
          of_true (eq-eqb (size (n_of s) (those (n_of s) x (is_child s m))) 1
          (size_one_i (n_of s) (those (n_of s) x (is_child s m)) r.0 (those-lt (n_of s) x (is_child s m)) r.1
          (those_i (n_of s) x (is_child s m) r.0 r.1 r.4 (is_child_i s m r.0 r.2 r.3))
          (λ i g.
          let e = those_e (n_of s) x (is_child s m) i g in
          let ci = is_child_e s m i e.2 in
          c.lone i r.0 e.0 r.1 ci.0 r.2 (ci.1 ∙ sym r.3) (ap (kind s) ci.1 ∙ k) e.1 r.4)))

      full : (m : ℕ) → T (has x m) → kind s m ≡ 2 → T (every_in (n_of s) (set_of (n_of s) (is_child s m)) (has x))
      full m h k =
          every_in_i (n_of s) (set_of (n_of s) (is_child s m)) (has x) (λ y ly g.
          let ch = is_child_e s m y (set_of_e (n_of s) (is_child s m) y g).1 in
          c.every y ly ch.0 (ap (kind s) ch.1 ∙ k) (subst (λ (i : ℕ). T (has x i)) (sym ch.1) h))

      ok : (m : ℕ) → m < n_of s → T (has x m) → T (member_ok s x m)
      ok m l h =
          all_of_i (has x (parent s m) ∷ (not (eqb (kind s m) 1) || eqb (size (n_of s) (those (n_of s) x (is_child s m))) 1) ∷ (not (eqb (kind s m) 2) || every_in (n_of s) (set_of (n_of s) (is_child s m)) (has x)) ∷ []) (
            c.par m l h,
            (
              implies (eqb (kind s m) 1) (eqb (size (n_of s) (those (n_of s) x (is_child s m))) 1) (λ k. single_child m l h (eqb→eq (kind s m) 1 k)),
              (implies (eqb (kind s m) 2) (every_in (n_of s) (set_of (n_of s) (is_child s m)) (has x)) (λ k. full m h (eqb→eq (kind s m) 2 k)), tt),
            ),
          )

  -- what contains a mode of the set is in the set
  pub cons_above : {x a m : ℕ} → Cons s x → Within s a m → m < n_of s → T (has x m) → T (has x a)
  cons_above c here l h = h
  cons_above c (up {m} p w) l h = cons_above c w (parent_n s (tree s sd) m l) (c.par m l h)

  -- ---- completed sets

  cons_whole : (x : ℕ) → Whole s x 0 → Cons s x
  cons_whole x w = record { root = w.top; par = par; one = w.one; lone = w.lone; every = w.every }
    where
      par : (m : ℕ) → m < n_of s → T (has x m) → T (has x (parent s m))
      par m l h = go (eqb m 0) refl
        where
          go : (b : Bool) → eqb m 0 ≡ b → T (has x (parent s m))
          go true e = subst (λ (i : ℕ). T (has x i)) (sym (ap (parent s) (eqb-true m 0 e) ∙ (tree s sd).root)) w.top
          go false e = w.linked m l h (eqb-false m 0 e)

  has_root : (m : ℕ) → T (has (single 0) m) → m ≡ 0
  has_root m h = eqb→eq m 0 (subst T (has-single 0 m) h)

  root_whole : Whole s (complete s (single 0)) 0
  root_whole =
      whole s sd (single 0) 0 (n_pos s sd)
      (record {
        below = λ m l h. subst (λ (i : ℕ). Within s 0 i) (sym (has_root m h)) here;
        top = subst T (sym (has-single 0 0)) tt;
        linked = λ m l h ne. absurd (ne (has_root m h));
        lone = λ y z ly lz py pz e h k. has_root y h ∙ sym (has_root z k);
      })

  pub enters_whole : (t : ℕ) → t < t_of s → Whole s (enters s t) (enter_top s t)
  unfolding enters
  enters_whole t lt = whole s sd path e en (record { below = λ m l h. (path_e m h).0; top = path_i e en here E.right.holds; linked = linked; lone = lone })
    where
      E : Ends s t
      E = ends s sd t lt

      e : ℕ
      e = enter_top s t

      en : e < n_of s
      en = lt_of_le_of_lt (within_le s (tree s sd) E.right.holds E.target_n) E.target_n

      path : ℕ
      path = set_of (n_of s) (λ m. contains s e m && contains s m (target s t))

      path_e : (m : ℕ) → T (has path m) → Within s e m × Within s m (target s t)
      path_e m h =
          let g = (set_of_e (n_of s) (λ i. contains s e i && contains s i (target s t)) m h).1 in
          (contains_e s (tree s sd) e m (and_l (contains s e m) (contains s m (target s t)) g), contains_e s (tree s sd) m (target s t) (and_r (contains s e m) (contains s m (target s t)) g))

      path_i : (m : ℕ) → m < n_of s → Within s e m → Within s m (target s t) → T (has path m)
      path_i m l a b =
          set_of_i (n_of s) (λ i. contains s e i && contains s i (target s t)) m l
          (and_i (contains s e m) (contains s m (target s t)) (contains_i s (tree s sd) m a l) (contains_i s (tree s sd) (target s t) b E.target_n))

      linked : (m : ℕ) → m < n_of s → T (has path m) → (m ≡ e → ⊥) → T (has path (parent s m))
      linked m l h ne =
          let g = path_e m h in
          let k = within_strict g.0 (λ q. ne (sym q)) in
          path_i (parent s m) (parent_n s (tree s sd) m l) k.1 (within_trans (up k.0 here) g.1)

      lone : (y z : ℕ) → y < n_of s → z < n_of s → 0 < y → 0 < z → parent s y ≡ parent s z → T (has path y) → T (has path z) → y ≡ z
      lone y z ly lz py pz q h k = go (within_total (path_e y h).1 (path_e z k).1)
        where
          go : Within s y z ⊎ Within s z y → y ≡ z
          go (inl w) = siblings s (tree s sd) y z ly py pz q w
          go (inr w) = sym (siblings s (tree s sd) z y lz pz py (sym q) w)

  pub enters_lt : (t m : ℕ) → T (has (enters s t) m) → m < n_of s
  unfolding enters
  enters_lt t m h =
      (complete_e s sd (set_of (n_of s) (λ i. contains s (enter_top s t) i && contains s i (target s t))) m h).0

  pub exits_e : (t m : ℕ) → T (has (exits s t) m) → (m < n_of s) × Within s (exit_top s t) m
  unfolding exits
  exits_e t m h =
      let r = set_of_e (n_of s) (contains s (exit_top s t)) m h in
      (r.0, contains_e s (tree s sd) (exit_top s t) m r.1)

  pub exits_i : (t m : ℕ) → m < n_of s → Within s (exit_top s t) m → T (has (exits s t) m)
  unfolding exits
  exits_i t m l w = set_of_i (n_of s) (contains s (exit_top s t)) m l (contains_i s (tree s sd) m w l)

  -- what the transitions es exit and enter together
  pub exiting_e : (z : TickSets) (es m : ℕ) → T (has (exiting s z es) m) → T (has z.modes m) × ((t : ℕ) × (t < t_of s) × T (has es t) × T (has (exits s t) m))
  unfolding exiting
  exiting_e z es m h =
      let r = those_e (n_of s) z.modes (λ i. some_in (t_of s) es (λ t. has (exits s t) i)) m h in
      (r.1, some_in_e (t_of s) es (λ t. has (exits s t) m) r.2)

  pub exiting_i : (z : TickSets) (es t m : ℕ) → t < t_of s → T (has es t) → T (has (exits s t) m) → T (has z.modes m) → T (has (exiting s z es) m)
  unfolding exiting
  exiting_i z es t m l a h k =
      those_i (n_of s) z.modes (λ i. some_in (t_of s) es (λ u. has (exits s u) i)) m (exits_e t m h).0 k
      (some_in_i (t_of s) es (λ u. has (exits s u) m) t l a h)

  pub entering_e : (es m : ℕ) → T (has (entering s es) m) → (t : ℕ) × (t < t_of s) × T (has es t) × T (has (enters s t) m)
  unfolding entering
  entering_e es m h =
      some_in_e (t_of s) es (λ t. has (enters s t) m) (set_of_e (n_of s) (λ i. some_in (t_of s) es (λ t. has (enters s t) i)) m h).1

  pub entering_i : (es t m : ℕ) → t < t_of s → T (has es t) → T (has (enters s t) m) → T (has (entering s es) m)
  unfolding entering
  entering_i es t m l a h =
      set_of_i (n_of s) (λ i. some_in (t_of s) es (λ u. has (enters s u) i)) m (enters_lt t m h)
      (some_in_i (t_of s) es (λ u. has (enters s u) m) t l a h)

  -- ---- a transition whose source is in the set

  module _ {x : ℕ} (M : Cons s x) (t : ℕ) (l : t < t_of s) (on : T (has x (source s t))) where
    -- a child of its meeting mode that is in the set is the one that it exits
    exited_child : (y : ℕ) → y < n_of s → 0 < y → parent s y ≡ meeting s t → T (has x y) → y ≡ exit_top s t
    exited_child y ly p e h =
        let E = ends s sd t l in
        let cn = lt_of_le_of_lt (within_le s (tree s sd) E.left.holds E.source_n) E.source_n in
        M.lone y (exit_top s t) ly cn p E.left.pos (e ∙ sym E.left.par) (ap (kind s) e ∙ E.serial) h (cons_above M E.left.holds E.source_n on)

    -- so whatever is in the set strictly within its meeting mode it exits
    pub exited_within : (m : ℕ) → m < n_of s → T (has x m) → Within s (meeting s t) m → (meeting s t ≡ m → ⊥) → T (has (exits s t) m)
    exited_within m lm h w ne =
        let c = child_holding_lem s (tree s sd) (meeting s t) m lm w ne in
        let cn = lt_of_le_of_lt (within_le s (tree s sd) c.holds lm) lm in
        exits_i t m lm (subst (λ (i : ℕ). Within s i m) (exited_child _ cn c.pos c.par (cons_above M c.holds lm h)) c.holds)

  -- ---- transitions below T, no two in conflict: their meeting modes lie apart

  module _ (es : ℕ) (small : (t : ℕ) → T (has es t) → t < t_of s)
      (apart : (t u : ℕ) → T (has es t) → T (has es u) → (t ≡ u → ⊥) → T (conflict s t u) → ⊥) where
    -- the ends of t; its two tops and its meeting mode are modes, and the meeting mode contains both tops
    E : (t : ℕ) → T (has es t) → Ends s t
    E t m = ends s sd t (small t m)

    c_n : (t : ℕ) → T (has es t) → exit_top s t < n_of s
    c_n t m = lt_of_le_of_lt (within_le s (tree s sd) (E t m).left.holds (E t m).source_n) (E t m).source_n

    e_n : (t : ℕ) → T (has es t) → enter_top s t < n_of s
    e_n t m = lt_of_le_of_lt (within_le s (tree s sd) (E t m).right.holds (E t m).target_n) (E t m).target_n

    p_n : (t : ℕ) → T (has es t) → meeting s t < n_of s
    p_n t m = subst (λ (i : ℕ). i < n_of s) (E t m).left.par (parent_n s (tree s sd) (exit_top s t) (c_n t m))

    p_c : (t : ℕ) → T (has es t) → Within s (meeting s t) (exit_top s t)
    p_c t m = up (E t m).left.pos (subst (λ (i : ℕ). Within s (meeting s t) i) (sym (E t m).left.par) here)

    p_e : (t : ℕ) → T (has es t) → Within s (meeting s t) (enter_top s t)
    p_e t m = up (E t m).right.pos (subst (λ (i : ℕ). Within s (meeting s t) i) (sym (E t m).right.par) here)

    -- two of es whose meeting modes are one within the other are the same
    same : (t u : ℕ) → T (has es t) → T (has es u) → Within s (meeting s t) (meeting s u) ⊎ Within s (meeting s u) (meeting s t) → t ≡ u
    same t u a b w = go (eqb t u) refl
      where
        con : Within s (meeting s t) (meeting s u) ⊎ Within s (meeting s u) (meeting s t) → T (conflict s t u)
        con (inl v) = unfold conflict in (or_l (contains s (meeting s t) (meeting s u)) (contains s (meeting s u) (meeting s t)) (contains_i s (tree s sd) (meeting s u) v (p_n u b)))
        con (inr v) = unfold conflict in (or_r (contains s (meeting s t) (meeting s u)) (contains s (meeting s u) (meeting s t)) (contains_i s (tree s sd) (meeting s t) v (p_n t a)))

        go : (v : Bool) → eqb t u ≡ v → t ≡ u
        go true e = eqb-true t u e
        go false e = absurd (apart t u a b (eqb-false t u e) (con w))

    -- what t enters, as a completed set
    W : (t : ℕ) → T (has es t) → Whole s (enters s t) (enter_top s t)
    W t m = enters_whole t (small t m)

    -- the parent of what t enters is within t's meeting mode
    met : (t : ℕ) (a : T (has es t)) (y : ℕ) → Within s (enter_top s t) y → Within s (meeting s t) (parent s y)
    met t a y w = go (eqb (enter_top s t) y) refl
      where
        go : (v : Bool) → eqb (enter_top s t) y ≡ v → Within s (meeting s t) (parent s y)
        go true e = subst (λ (i : ℕ). Within s (meeting s t) i) (sym (E t a).right.par ∙ ap (parent s) (eqb-true (enter_top s t) y e)) here
        go false e = within_trans (p_e t a) (within_strict w (eqb-false (enter_top s t) y e)).1

    -- what one of them exits, none of them enters
    pub exits_enters_apart : (t u : ℕ) → T (has es t) → T (has es u) → (m : ℕ) → T (has (exits s t) m) → T (has (enters s u) m) → ⊥
    exits_enters_apart t u a b m h k = go (within_total out in')
      where
        l : m < n_of s
        l = (exits_e t m h).0

        out : Within s (exit_top s t) m
        out = (exits_e t m h).1

        top : Within s (enter_top s u) m
        top = (W u b).below m l k

        tu : t ≡ u
        tu = same t u a b (within_total (within_trans (p_c t a) out) (within_trans (p_e u b) top))

        in' : Within s (enter_top s t) m
        in' = subst (λ (i : ℕ). Within s (enter_top s i) m) (sym tu) top

        par : parent s (exit_top s t) ≡ parent s (enter_top s t)
        par = (E t a).left.par ∙ sym (E t a).right.par

        go : Within s (exit_top s t) (enter_top s t) ⊎ Within s (enter_top s t) (exit_top s t) → ⊥
        go (inl w) = (E t a).distinct (siblings s (tree s sd) (exit_top s t) (enter_top s t) (c_n t a) (E t a).left.pos (E t a).right.pos par w)
        go (inr w) = (E t a).distinct (sym (siblings s (tree s sd) (enter_top s t) (exit_top s t) (e_n t a) (E t a).right.pos (E t a).left.pos (sym par) w))

    -- the source of one of them is neither exited nor entered by another
    pub source_apart : (t u : ℕ) → T (has es t) → T (has es u) → (t ≡ u → ⊥) → (T (has (exits s u) (source s t)) → ⊥) × (T (has (enters s u) (source s t)) → ⊥)
    source_apart t u a b ne = (
      λ h. ne (same t u a b (within_total own (within_trans (p_c u b) (exits_e u (source s t) h).1))),
      λ h. ne (same t u a b (within_total own (within_trans (p_e u b) ((W u b).below (source s t) (E t a).source_n h)))),
    )
      where
        own : Within s (meeting s t) (source s t)
        own = meeting-source s sd t (small t a)

    -- a round from a consistent set where every source is active
    module _ (z : TickSets) (M : Cons s z.modes) (on : (t : ℕ) → T (has es t) → T (has z.modes (source s t))) where
      abbrev x' : ℕ
      x' = (after_round s z es).modes

      -- stayed, or entered by one of es
      Old : ℕ → Type 0
      Old m = T (has z.modes m) × ((t : ℕ) → T (has es t) → Within s (exit_top s t) m → ⊥)

      In : ℕ → Type 0
      In m = (t : ℕ) × T (has es t) × T (has (enters s t) m)

      new_e : (m : ℕ) → m < n_of s → T (has x' m) → Old m ⊎ In m
      unfolding Old In
      new_e m l h =
          go (or_e (has z.modes m && not (has (exiting s z es) m)) (has (entering s es) m) (subst T (modes_after s z es m) h))
        where
          go : T (has z.modes m && not (has (exiting s z es) m)) ⊎ T (has (entering s es) m) → Old m ⊎ In m
          go (inl k) =
              let a = and_l (has z.modes m) (not (has (exiting s z es) m)) k in
              inl (
                a,
                λ t g w. T_not (has (exiting s z es) m) (and_r (has z.modes m) (not (has (exiting s z es) m)) k)
                    (exiting_i z es t m (small t g) g (exits_i t m l w) a),
              )
          go (inr k) = let r = entering_e es m k in inr (r.0, r.2, r.3)

      new_old : (m : ℕ) → Old m → T (has x' m)
      unfolding Old
      new_old m o =
          subst T (sym (modes_after s z es m))
          (or_l (has z.modes m && not (has (exiting s z es) m)) (has (entering s es) m)
          (and_i (has z.modes m) (not (has (exiting s z es) m)) o.0 (not_T (has (exiting s z es) m) (λ k.
          let r = (exiting_e z es m k).1 in
          o.1 r.0 r.2 (exits_e r.0 m r.3).1))))

      new_in : (m : ℕ) → In m → T (has x' m)
      unfolding In
      new_in m i =
          subst T (sym (modes_after s z es m))
          (or_r (has z.modes m && not (has (exiting s z es) m)) (has (entering s es) m)
          (entering_i es i.0 m (small i.0 i.1) i.1 i.2))

      c_in : (t : ℕ) → T (has es t) → T (has z.modes (exit_top s t))
      c_in t m = cons_above M (E t m).left.holds (E t m).source_n (on t m)

      p_in : (t : ℕ) → T (has es t) → T (has z.modes (meeting s t))
      p_in t m = subst (λ (i : ℕ). T (has z.modes i)) (E t m).left.par (M.par (exit_top s t) (c_n t m) (c_in t m))

      -- a child of t's meeting mode that is in the set is the one that t exits
      exited : (t : ℕ) → T (has es t) → (y : ℕ) → y < n_of s → 0 < y → parent s y ≡ meeting s t → T (has z.modes y) → y ≡ exit_top s t
      exited t m = exited_child M t (small t m) (on t m)

      -- what is in the set and within what t enters is exited by t
      replaced : (t : ℕ) → T (has es t) → (m : ℕ) → m < n_of s → T (has z.modes m) → Within s (enter_top s t) m → Within s (exit_top s t) m
      replaced t g m l h w =
          subst (λ (i : ℕ). Within s i m) (exited t g (enter_top s t) (e_n t g) (E t g).right.pos (E t g).right.par (cons_above M w l h)) w

      -- a meeting mode stays
      stays : (t : ℕ) → T (has es t) → Old (meeting s t)
      unfolding Old
      stays t a = (
        p_in t a,
        λ u b w.
            let q = same t u a b (inr (within_trans (p_c u b) w)) in
            not_above s (tree s sd) (exit_top s t) (E t a).left.pos (c_n t a) (subst (λ (i : ℕ). Within s (exit_top s t) i) (sym (E t a).left.par) (subst (λ (i : ℕ). Within s (exit_top s i) (meeting s t)) (sym q) w)),
      )

      -- not exited with its parent, so exited alone
      alone : (u m : ℕ) → Within s (exit_top s u) m → (Within s (exit_top s u) (parent s m) → ⊥) → exit_top s u ≡ m
      alone u m w no-w = go (eqb (exit_top s u) m) refl
        where
          go : (v : Bool) → eqb (exit_top s u) m ≡ v → exit_top s u ≡ m
          go true e = eqb-true (exit_top s u) m e
          go false e = absurd (no-w (within_strict w (eqb-false (exit_top s u) m e)).1)

      old_par : (m : ℕ) → m < n_of s → Old m → Old (parent s m)
      unfolding Old
      old_par m l o = (M.par m l o.0, λ t a w. o.1 t a (back w (eq-zero-or-pos m)))
        where
          back : {a : ℕ} → Within s a (parent s m) → (m ≡ 0) ⊎ (0 < m) → Within s a m
          back {a} w (inl e) = subst (λ (i : ℕ). Within s a i) (ap (parent s) e ∙ (tree s sd).root ∙ sym e) w
          back w (inr p) = up p w

      new_par : (m : ℕ) → m < n_of s → Old m ⊎ In m → T (has x' (parent s m))
      unfolding In
      new_par m l (inl o) = new_old (parent s m) (old_par m l o)
      new_par m l (inr i) = go (eqb m (enter_top s i.0)) refl
        where
          go : (v : Bool) → eqb m (enter_top s i.0) ≡ v → T (has x' (parent s m))
          go true e =
              subst (λ (k : ℕ). T (has x' k)) (sym (ap (parent s) (eqb-true m (enter_top s i.0) e) ∙ (E i.0 i.1).right.par))
              (new_old (meeting s i.0) (stays i.0 i.1))
          go false e = new_in (parent s m) (i.0, i.1, (W i.0 i.1).linked m l i.2 (eqb-false m (enter_top s i.0) e))

      new_one : (m : ℕ) → m < n_of s → kind s m ≡ 1 → Old m ⊎ In m → (y : ℕ) × (y < n_of s) × (0 < y) × (parent s y ≡ m) × T (has x' y)
      unfolding In Old
      new_one m l k (inr i) =
          let r = (W i.0 i.1).one m l i.2 k in
          (r.0, r.1, r.2, r.3, new_in r.0 (i.0, i.1, r.4))
      new_one m l k (inl o) = go (some_in (t_of s) es (λ t. has (exits s t) r.0)) refl
        where
          r : (y : ℕ) × (y < n_of s) × (0 < y) × (parent s y ≡ m) × T (has z.modes y)
          r = M.one m l o.0 k

          go : (v : Bool) → some_in (t_of s) es (λ t. has (exits s t) r.0) ≡ v → (y : ℕ) × (y < n_of s) × (0 < y) × (parent s y ≡ m) × T (has x' y)
          go false e =
              (r.0, r.1, r.2, r.3, new_old r.0 (r.4, λ t a w. subst T e (some_in_i (t_of s) es (λ u. has (exits s u) r.0) t (small t a) a (exits_i t r.0 r.1 w))))
          go true e =
              let u = some_in_e (t_of s) es (λ t. has (exits s t) r.0) (of_true e) in
              let a : exit_top s u.0 ≡ r.0 = alone u.0 r.0 (exits_e u.0 r.0 u.3).1 (λ w. o.1 u.0 u.2 (subst (λ (i : ℕ). Within s (exit_top s u.0) i) r.3 w)) in (
                enter_top s u.0,
                e_n u.0 u.2,
                (E u.0 u.2).right.pos,
                (E u.0 u.2).right.par ∙ sym (E u.0 u.2).left.par ∙ ap (parent s) a ∙ r.3,
                new_in (enter_top s u.0) (u.0, u.2, (W u.0 u.2).top),
              )

      -- a mode that stays and one that is entered do not share a serial parent
      mixed : (y v : ℕ) → y < n_of s → v < n_of s → 0 < y → parent s y ≡ parent s v → Old y → In v → ⊥
      unfolding Old In
      mixed y v ly lv py q o i = go (eqb v (enter_top s i.0)) refl
        where
          t : ℕ
          t = i.0

          a : T (has es t)
          a = i.1

          go : (b : Bool) → eqb v (enter_top s t) ≡ b → ⊥
          go true e =
              let k = exited t a y ly py (q ∙ ap (parent s) (eqb-true v (enter_top s t) e) ∙ (E t a).right.par) o.0 in
              o.1 t a (subst (λ (j : ℕ). Within s j y) k here)
          go false e =
              let w = (within_strict ((W t a).below v lv i.2) (λ k. eqb-false v (enter_top s t) e (sym k))).1 in
              o.1 t a (replaced t a y ly o.0 (up py (subst (λ (j : ℕ). Within s (enter_top s t) j) (sym q) w)))

      new_lone : (y v : ℕ) → y < n_of s → v < n_of s → 0 < y → 0 < v → parent s y ≡ parent s v → kind s (parent s y) ≡ 1 → Old y ⊎ In y → Old v ⊎ In v → y ≡ v
      unfolding In Old
      new_lone y v ly lv py pv q k (inl o) (inl o') = M.lone y v ly lv py pv q k o.0 o'.0
      new_lone y v ly lv py pv q k (inl o) (inr i) = absurd (mixed y v ly lv py q o i)
      new_lone y v ly lv py pv q k (inr i) (inl o) = absurd (mixed v y lv ly pv (sym q) o i)
      new_lone y v ly lv py pv q k (inr i) (inr j) =
          let tu = same i.0 j.0 i.1 j.1 (within_total (met i.0 i.1 y ((W i.0 i.1).below y ly i.2))
          (subst (λ (m : ℕ). Within s (meeting s j.0) m) (sym q) (met j.0 j.1 v ((W j.0 j.1).below v lv j.2)))) in
          (W i.0 i.1).lone y v ly lv py pv q k i.2 (subst (λ (t : ℕ). T (has (enters s t) v)) (sym tu) j.2)

      new_every : (y : ℕ) → y < n_of s → 0 < y → kind s (parent s y) ≡ 2 → Old (parent s y) ⊎ In (parent s y) → T (has x' y)
      unfolding In Old
      new_every y l p k (inr i) = new_in y (i.0, i.1, (W i.0 i.1).every y l p k i.2)
      new_every y l p k (inl o) =
          new_old y (
            M.every y l p k o.0,
            λ t a w.
                let e = alone t y w (o.1 t a) in
                let f : kind s (parent s y) ≡ 1 = ap (kind s) (sym (ap (parent s) e) ∙ (E t a).left.par) ∙ (E t a).serial in
                omega arith,
          )

      pub cons_after : Cons s x'
      cons_after =
          record {
            root = new_old 0 root_old;
            par = λ m l h. new_par m l (new_e m l h);
            one = λ m l h k. new_one m l k (new_e m l h);
            lone = λ y v ly lv py pv q k h j. new_lone y v ly lv py pv q k (new_e y ly h) (new_e v lv j);
            every = λ y l p k h. new_every y l p k (new_e (parent s y) (parent_n s (tree s sd) y l) h);
          }
        where
          root_old : Old 0
          root_old = unfold Old in (M.root, λ t a w. not-suc-le-zero (le_trans (E t a).left.pos (within_le s (tree s sd) w (n_pos s sd))))

  -- ---- a tick

  -- a triggered transition's source is in the set, and so is an eligible one's
  pub source_on : (z : TickSets) (d i t : ℕ) → T (ltb 0 (trigger s d i z t)) → T (has z.modes (source s t))
  unfolding trigger
  source_on z d i t h = go (has z.modes (source s t)) h
    where
      go : (b : Bool)
          → T (ltb 0 (cond (not b) 0 (cond (is_delay s t) (cond (eqb (delay s t) 0 || is_due s d z t) 9 0) (alternative s i z t)))) → T b
      go true k = tt
      go false k = k

  pub chosen_on : (z : TickSets) (d i t : ℕ) → T (has (chosen s d i z) t) → T (has z.modes (source s t))
  chosen_on z d i t h = source_on z d i t (chosen_triggered s d i z t h)

  -- no two transitions of a set that is not ambiguous conflict
  pub clear_apart : (es : ℕ) → ((t : ℕ) → T (has es t) → t < t_of s) → ambiguous s es ≡ false
      → (t u : ℕ) → T (has es t) → T (has es u) → (t ≡ u → ⊥) → T (conflict s t u) → ⊥
  unfolding ambiguous
  clear_apart es small e t u a b ne c =
      subst T e (some_in_i (t_of s) es (λ v. some_in (t_of s) es (λ w. not (eqb v w) && conflict s v w)) t (small t a) a
      (some_in_i (t_of s) es (λ w. not (eqb t w) && conflict s t w) u (small u b) b
      (and_i (not (eqb t u)) (conflict s t u) (not_T (eqb t u) (λ k. ne (eqb→eq t u k))) c)))

  Well : TickSets → ℕ → Type 0
  Well z r = Cons s z.modes × (z.modes < 2 ^ n_of s)

  well_step : (d i : ℕ) (z : TickSets) (r : ℕ) → Well z r → Taken s d i z → Well (after_round s z (chosen s d i z)) (suc r)
  unfolding Well
  well_step d i z r w taken =
      (cons_after es (chosen_lt s d i z) (clear_apart es (chosen_lt s d i z) taken.clear) z w.0 (chosen_on z d i), bound)
    where
      es : ℕ
      es = chosen s d i z

      bound : (after_round s z es).modes < 2 ^ n_of s
      bound =
          unfold after_round entering in
          (union-lt (n_of s) (lt_of_le_of_lt (minus-le z.modes (exiting s z es)) w.1) (set_of-lt (n_of s) (λ m. some_in (t_of s) es (λ t. has (enters s t) m))))

  well_begin : (y : ℕ) → (y ≡ 0) ⊎ T (consistent s y) → Well (begin s y) 0
  unfolding Well
  well_begin y h =
      begin_by s (λ z. Cons s z.modes × (z.modes < 2 ^ n_of s)) y
      (λ _. (cons_whole (complete s (single 0)) root_whole, unfold complete in (set_of-lt (n_of s) (λ m. completed_in s m (single 0) m))))
      (λ n. ⊎_elim (λ e. absurd (n e)) (λ c. (cons_e y c, unfold consistent in (ltb→lt y (2 ^ n_of s) (all_of_e _ c).0))) h)

  -- a round that is taken leaves a consistent set
  pub consistent_after : (d i : ℕ) (z : TickSets) → T (consistent s z.modes) → Taken s d i z
      → T (consistent s (after_round s z (chosen s d i z)).modes)
  unfolding Well
  consistent_after d i z h taken =
      let w = well_step d i z 0 (cons_e z.modes h, bound) taken in
      cons_i (after_round s z (chosen s d i z)).modes w.1 w.0
    where
      bound : z.modes < 2 ^ n_of s
      bound = unfold consistent in (ltb→lt z.modes (2 ^ n_of s) (all_of_e _ h).0)

  -- a tick from power-on or from a consistent set begins in a consistent set
  pub begin-consistent : (y : ℕ) → (y ≡ 0) ⊎ T (consistent s y) → T (consistent s (begin s y).modes)
  unfolding Well
  begin-consistent y h = let w = well_begin y h in cons_i (begin s y).modes w.1 w.0

  -- and leaves a consistent set
  pub keeps_consistent_lem : (y d i : ℕ) → (y ≡ 0) ⊎ T (consistent s y) → T (consistent s (tick s y d i).sets.modes)
  unfolding tick Well
  keeps_consistent_lem y d i h =
      let w = rounds_ind s d i Well (well_step d i) (suc (t_of s)) (begin s y) 0 (well_begin y h) in
      cons_i (tick s y d i).sets.modes w.1 w.0

pub keeps : KeepsConsistent
unfolding KeepsConsistent
keeps s h = keeps_consistent_lem s (sound s h)
