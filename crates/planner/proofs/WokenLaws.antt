-- What a round that takes a transition can trigger next, by the words of the modes that it enters and exits. Assumes nothing.
use mathlib.Core.Path.{◌≡◌, sym, ap, ap₂, ◌∙◌, subst}
use mathlib.Core.Logic.{◌⊎◌, inl, inr, ⊎_elim}
use mathlib.Core.Bool.{Bool, true, false, ◌&&◌, ◌||◌, cond}
use mathlib.Core.List.{List}
use Prim.Native.Nat.{ℕ, ◌/◌, ◌%◌, ◌^◌, ◌<◌}
use native.Mathlib.Nat.{lt_of_le_of_lt, lt_of_lt_of_le, pow-le-pow_right}
use native.Mathlib.Omega.{arith}
use lib.Dec.{T, eqb, ltb, eqb→eq, ltb→lt, lt→ltb, eqb_refl}
use lib.ListN.{get_or}
use Rattle.sets.specs.Sets.{has, union, meets, single, set_of, lowest, some, some_in}
use Rattle.sets.proofs.Tests.{is_true, is_false, bool_ext, and_l, and_r, and_i, or_e, or_l, or_r}
use Rattle.sets.proofs.Facts.{set_of_e, set_of_i, some_e, some_i, some_in_e, some_in_i, union_e, union_l, union_r, single_e, single_i}
use Rattle.sets.proofs.Members.{lowest_unique}
use Rattle.sets.proofs.Membership.{has-union, has-set_of, set_of-lt, set_of-has, same_members}
use Rattle.sets.proofs.Quantifiers.{meets_e, meets_i, some_in_same}
use Rattle.meaning.specs.Sheet.{n_of, t_of, source, contains, meeting, term_count, term_kind, term_value}
use Rattle.meaning.specs.Check.{sheet_refusal}
use Rattle.meaning.specs.Hierarchy.{complete, child_holding, exits, enters}
use Rattle.meaning.proofs.SheetLaws.{sound, tree, n_le}
use Rattle.meaning.proofs.Containment.{within_le, contains_same, contains_e, ends}
use Rattle.reaction.specs.Plan.{is_about, sources_in, woken_by, next_of}
use Rattle.planner.specs.Parts.{from_of, ends_of}
use Rattle.planner.specs.Looks.{on_entry, on_exit, on_taken, EntryWords, ExitWords, looks_entry, looks_exit, looks_taken, taken_of}

-- ---- a term about what t does is about a mode that t enters, about one that it exits, or about t

module _ (s : List ℕ) (t c v : ℕ) where
  about_entry : (m : ℕ) → T (on_entry c v m) → T (has (enters s t) m) → T (is_about s t c v)
  unfolding is_about
  about_entry m o k = ⊎_elim mask one (or_e (eqb c 3 && has v m) (eqb c 4 && eqb v m) o)
    where
      mask : T (eqb c 3 && has v m) → T (is_about s t c v)
      mask a =
          subst (λ (x : ℕ). T (is_about s t x v)) (sym (eqb→eq c 3 (and_l (eqb c 3) (has v m) a))) (meets_i v (enters s t) m (and_r (eqb c 3) (has v m) a) k)

      one : T (eqb c 4 && eqb v m) → T (is_about s t c v)
      one a =
          subst (λ (x : ℕ). T (is_about s t x v)) (sym (eqb→eq c 4 (and_l (eqb c 4) (eqb v m) a)))
          (subst (λ (x : ℕ). T (has (enters s t) x)) (sym (eqb→eq v m (and_r (eqb c 4) (eqb v m) a))) k)

  about_exit : (m : ℕ) → T (on_exit c v m) → T (has (exits s t) m) → T (is_about s t c v)
  unfolding is_about
  about_exit m o k =
      subst (λ (x : ℕ). T (is_about s t x v)) (sym (eqb→eq c 5 (and_l (eqb c 5) (eqb v m) o)))
      (subst (λ (x : ℕ). T (has (exits s t) x)) (sym (eqb→eq v m (and_r (eqb c 5) (eqb v m) o))) k)

  about_taken : T (on_taken c v t) → T (is_about s t c v)
  unfolding is_about
  about_taken o = subst (λ (x : ℕ). T (is_about s t x v)) (sym (eqb→eq c 6 (and_l (eqb c 6) (eqb v t) o))) (and_r (eqb c 6) (eqb v t) o)

  -- the ways in which it is
  abbrev Ways : Type 0
  Ways = ((m : ℕ) × T (on_entry c v m) × T (has (enters s t) m)) ⊎ (((m : ℕ) × T (on_exit c v m) × T (has (exits s t) m)) ⊎ T (on_taken c v t))

  about_e : T (is_about s t c v) → Ways
  unfolding is_about
  about_e = go (eqb c 3) (eqb c 4) (eqb c 5) (λ a. a) (λ a. a) (λ a. a)
    where
      go : (x y z : Bool) → (T x → T (eqb c 3)) → (T y → T (eqb c 4)) → (T z → T (eqb c 5))
          → T (cond x (meets v (enters s t)) (cond y (has (enters s t) v) (cond z (has (exits s t) v) (eqb c 6 && eqb v t)))) → Ways
      go true y z p q r a =
          let m = meets_e v (enters s t) a in
          inl (m.0, or_l (eqb c 3 && has v m.0) (eqb c 4 && eqb v m.0) (and_i (eqb c 3) (has v m.0) (p tt) m.1), m.2)
      go false true z p q r a = inl (v, or_r (eqb c 3 && has v v) (eqb c 4 && eqb v v) (and_i (eqb c 4) (eqb v v) (q tt) (eqb_refl v)), a)
      go false false true p q r a = inr (inl (v, and_i (eqb c 5) (eqb v v) (r tt) (eqb_refl v), a))
      go false false false p q r a = inr (inr a)

-- ---- what t enters and exits, by its word of the ends

module _ (s : List ℕ) (h : sheet_refusal s ≡ 0) (t : ℕ) where
  mode_set-lt : (p : ℕ → Bool) → set_of (n_of s) p < 2 ^ 32
  mode_set-lt p = lt_of_lt_of_le (set_of-lt (n_of s) p) (pow-le-pow_right {n = 2} (omega arith) (n_le s (sound s h)))

  exits_small : exits s t < 2 ^ 32
  unfolding exits
  exits_small = mode_set-lt (contains s (child_holding s (meeting s t) (source s t)))

  pub exits_read : {x y : ℕ} → y ≡ ends_of s t → x ≡ y % 2 ^ 32 → x ≡ exits s t
  exits_read e k = k ∙ rw e (omega (arith, exits_small))

  pub enters_read : {x y : ℕ} → y ≡ ends_of s t → x ≡ y / 2 ^ 32 → x ≡ enters s t
  enters_read e k = k ∙ rw e (omega (arith, exits_small))

  module _ (l : t < t_of s) where
    abbrev pub held : ℕ
    held = child_holding s (meeting s t) (source s t)

    held_mode : held < n_of s
    held_mode = let e = ends s (sound s h) t l in lt_of_le_of_lt (within_le s (tree s (sound s h)) e.left.holds e.source_n) e.source_n

    -- the lowest of the modes that t exits is the mode that contains them
    exits_lowest : lowest 32 (exits s t) ≡ held
    unfolding exits
    exits_lowest =
        lowest_unique
        (record {
          small = omega (arith, held_mode, n_le s (sound s h));
          member = has-set_of (n_of s) (contains s held) held held_mode ∙ is_true (contains s held held) (contains_same s held);
          least =
              λ j k.
              is_false (has (set_of (n_of s) (contains s held)) j)
              (λ g.
              let q = set_of_e (n_of s) (contains s held) j g in
              omega (arith, within_le s (tree s (sound s h)) (contains_e s (tree s (sound s h)) held j q.1) q.0));
        })

    pub top_is : {x c : ℕ} → x ≡ exits s t → c ≡ lowest 32 x → c ≡ held
    top_is e k = k ∙ ap (lowest 32) e ∙ exits_lowest

    pub held_lt : {c : ℕ} → c ≡ held → c < 32
    held_lt e = omega (arith, held_mode, n_le s (sound s h))

    -- ---- those that t can trigger next: those with a term about t taken, those of the modes that t enters, those of the mode that it exits

    abbrev by_taken : ℕ → Bool
    by_taken u = ltb u (t_of s) && looks_taken s u t

    abbrev by_entry : ℕ → ℕ → Bool
    by_entry u m = has (from_of s m) u || (ltb u (t_of s) && looks_entry s u m)

    abbrev by_exit : ℕ → Bool
    by_exit u = ltb u (t_of s) && some (n_of s) (λ m. contains s held m && looks_exit s u m)

    -- a term of u about what t does
    woken : (u j : ℕ) → u < t_of s → j < term_count s u → T (is_about s t (term_kind s u j) (term_value s u j)) → T (has (next_of s t) u)
    unfolding next_of woken_by
    woken u j k i a =
        union_r (sources_in s (enters s t)) (woken_by s t) u
        (set_of_i (t_of s) _ u k (some_i (term_count s u) (λ x. is_about s t (term_kind s u x) (term_value s u x)) j i a))

    taken_next : (u : ℕ) → T (by_taken u) → T (has (next_of s t) u)
    unfolding looks_taken
    taken_next u a =
        let r = some_e (term_count s u) (λ j. on_taken (term_kind s u j) (term_value s u j) t) (and_r (ltb u (t_of s)) (looks_taken s u t) a) in
        woken u r.0 (ltb→lt u (t_of s) (and_l (ltb u (t_of s)) (looks_taken s u t) a)) r.1 (about_taken s t _ _ r.2)

    entry_next : (u m : ℕ) → T (has (enters s t) m) → T (by_entry u m) → T (has (next_of s t) u)
    unfolding next_of sources_in looks_entry
    entry_next u m k a = ⊎_elim from looks (or_e (has (from_of s m) u) (ltb u (t_of s) && looks_entry s u m) a)
      where
        from : T (has (from_of s m) u) → T (has (next_of s t) u)
        from b =
            let r = set_of_e (t_of s) (λ v. has (single m) (source s v)) u b in
            union_l (sources_in s (enters s t)) (woken_by s t) u
            (set_of_i (t_of s) (λ v. has (enters s t) (source s v)) u r.0 (subst (λ (x : ℕ). T (has (enters s t) x)) (sym (single_e m (source s u) r.1)) k))

        looks : T (ltb u (t_of s) && looks_entry s u m) → T (has (next_of s t) u)
        looks b =
            let r = some_e (term_count s u) (λ j. on_entry (term_kind s u j) (term_value s u j) m) (and_r (ltb u (t_of s)) (looks_entry s u m) b) in
            woken u r.0 (ltb→lt u (t_of s) (and_l (ltb u (t_of s)) (looks_entry s u m) b)) r.1 (about_entry s t _ _ m r.2 k)

    exit_next : (u : ℕ) → T (by_exit u) → T (has (next_of s t) u)
    unfolding looks_exit exits
    exit_next u a =
        let some-mode = some (n_of s) (λ m. contains s held m && looks_exit s u m) in
        let m = some_e (n_of s) (λ x. contains s held x && looks_exit s u x) (and_r (ltb u (t_of s)) some-mode a) in
        let r = some_e (term_count s u) (λ j. on_exit (term_kind s u j) (term_value s u j) m.0) (and_r (contains s held m.0) (looks_exit s u m.0) m.2) in
        woken u r.0 (ltb→lt u (t_of s) (and_l (ltb u (t_of s)) some-mode a)) r.1
        (about_exit s t _ _ m.0 r.2 (set_of_i (n_of s) (contains s held) m.0 m.1 (and_l (contains s held m.0) (looks_exit s u m.0) m.2)))

    -- and back
    abbrev Ways_next : ℕ → Type 0
    Ways_next u = T (by_taken u) ⊎ (T (some_in 32 (enters s t) (by_entry u)) ⊎ T (by_exit u))

    enters_mode : (m : ℕ) → T (has (enters s t) m) → m < 32
    unfolding enters complete
    enters_mode m k = omega (arith, n_le s (sound s h), (set_of_e (n_of s) _ m k).0)

    next_e : (u : ℕ) → T (has (next_of s t) u) → Ways_next u
    unfolding next_of sources_in woken_by looks_taken looks_entry looks_exit exits
    next_e u a = ⊎_elim sources terms (union_e (sources_in s (enters s t)) (woken_by s t) u a)
      where
        sources : T (has (sources_in s (enters s t)) u) → Ways_next u
        sources b =
            let r = set_of_e (t_of s) (λ v. has (enters s t) (source s v)) u b in
            let m = source s u in
            inr (inl (some_in_i 32 (enters s t) (by_entry u) m (enters_mode m r.1) r.1
            (or_l (has (from_of s m) u) (ltb u (t_of s) && looks_entry s u m) (set_of_i (t_of s) (λ v. has (single m) (source s v)) u r.0 (single_i m)))))

        terms : T (has (woken_by s t) u) → Ways_next u
        terms b =
            let r = set_of_e (t_of s) _ u b in
            let j = some_e (term_count s u) (λ x. is_about s t (term_kind s u x) (term_value s u x)) r.1 in
            let k = lt→ltb u (t_of s) r.0 in
            ⊎_elim
            (λ w.
            inr (inl (some_in_i 32 (enters s t) (by_entry u) w.0 (enters_mode w.0 w.2) w.2
            (or_r (has (from_of s w.0) u) (ltb u (t_of s) && looks_entry s u w.0)
            (and_i (ltb u (t_of s)) (looks_entry s u w.0) k (some_i (term_count s u) (λ x. on_entry (term_kind s u x) (term_value s u x) w.0) j.0 j.1 w.1))))))
            (⊎_elim
            (λ w.
            let e = set_of_e (n_of s) (contains s held) w.0 w.2 in
            inr (inr (and_i (ltb u (t_of s)) (some (n_of s) (λ m. contains s held m && looks_exit s u m)) k
            (some_i (n_of s) (λ m. contains s held m && looks_exit s u m) w.0 e.0
            (and_i (contains s held w.0) (looks_exit s u w.0) e.1
            (some_i (term_count s u) (λ x. on_exit (term_kind s u x) (term_value s u x) w.0) j.0 j.1 w.1))))))
            (λ w. inl (and_i (ltb u (t_of s)) (looks_taken s u t) k (some_i (term_count s u) (λ x. on_taken (term_kind s u x) (term_value s u x) t) j.0 j.1 w))))
            (about_e s t (term_kind s u j.0) (term_value s u j.0) j.2)

    next_is : (u : ℕ) → (by_taken u || (some_in 32 (enters s t) (by_entry u) || by_exit u)) ≡ has (next_of s t) u
    next_is u =
        let a = by_taken u in
        let b = some_in 32 (enters s t) (by_entry u) in
        let c = by_exit u in
        bool_ext (a || (b || c)) (has (next_of s t) u)
        (λ q.
        ⊎_elim (taken_next u)
        (λ r. ⊎_elim (λ x. let m = some_in_e 32 (enters s t) (by_entry u) x in entry_next u m.0 m.2 m.3) (exit_next u) (or_e b c r)) (or_e a (b || c) q))
        (λ q. ⊎_elim (or_l a (b || c)) (λ r. or_r a (b || c) (⊎_elim (or_l b c) (or_r b c) r)) (next_e u q))

    pub next_word : (entry exit : List ℕ) (y : ℕ) {x c z : ℕ} → EntryWords s entry → ExitWords s exit → x ≡ taken_of s t → z ≡ enters s t → c ≡ held
        → ((u : ℕ) → has y u ≡ some_in 32 z (λ m. has (get_or entry m 0) u))
        → union x (union y (get_or exit c 0)) ≡ next_of s t
    unfolding EntryWords ExitWords taken_of
    next_word entry exit y {x} {c} {z} p q ex ez ec ey =
        same_members (λ u.
        has-union x (union y (get_or exit c 0)) u
        ∙ ap₂ ◌||◌ (ap (λ (w : ℕ). has w u) ex ∙ set_of-has (t_of s) (λ v. looks_taken s v t) u)
        (has-union y (get_or exit c 0) u
        ∙ ap₂ ◌||◌
        (ey u ∙ ap (λ (w : ℕ). some_in 32 w (λ m. has (get_or entry m 0) u)) ez
        ∙ some_in_same 32 (enters s t) (λ m. has (get_or entry m 0) u) (by_entry u) (λ m i. p m u i))
        (ap (λ (k : ℕ). has (get_or exit k 0) u) ec ∙ q held u held_mode))
        ∙ next_is u)
