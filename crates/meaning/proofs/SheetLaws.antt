-- What a sheet's mode rows say of parents, and what a sheet that is refused by none of 1 to 6 satisfies. Assumes nothing.
use mathlib.Core.Path.{◌≡◌, ap, ◌∙◌}
use mathlib.Core.Logic.{◌⊎◌, inl, inr}
use mathlib.Core.Bool.{Bool, true, false, not, ◌&&◌}
use mathlib.Core.List.{List, [], ◌∷◌}
use Prim.Native.Nat.{ℕ, suc, ◌≤◌, ◌<◌, zero-le}
use native.Mathlib.Nat.{le_trans, le_of_eq, le_of_lt, lt_of_le_of_lt, eq-zero-or-pos}
use native.Mathlib.Omega.{arith}
use lib.Dec.{T, eqb, ltb, eqb→eq, ltb→lt, leb→le}
use lib.ListN.{length}
use borrow.Author.Tests.{not-true, not-false, eqb-true, eq-eqb, ne_eqb}
use Rattle.sets.specs.Sets.{every}
use Rattle.sets.proofs.Tests.{is_true, of_true, and_l, and_r, above_not}
use Rattle.sets.proofs.Facts.{every_e}
use Rattle.meaning.specs.Sheet.{n_of, k_of, t_of, kind, parent, first, is_child, source, target, record_length, end_before, term_count, term_kind, term_value, contains}
use Rattle.meaning.specs.Check.{head_ok, mode_ok, modes_ok, pair_ok, pairs_ok, end_ok, ends_ok, kind_ok, term_ok, terms_ok, distinct_ok, sheet_refusal}
use Rattle.meaning.proofs.ListLaws.{all_of_e, first_of_off, first_of-le}

-- a sheet is refused 1 to 6, or not at all
pub sheet_refusal_lem : (s : List ℕ) → sheet_refusal s ≤ 6
unfolding sheet_refusal
sheet_refusal_lem s = first_of-le 0 (not (head_ok s) ∷ not (modes_ok s) ∷ not (pairs_ok s) ∷ not (ends_ok s) ∷ not (terms_ok s) ∷ not (distinct_ok s) ∷ [])

-- ---- the mode tree, by the mode rows: the root's parent is the root, every other mode's is lower

pub record Rooted (s : List ℕ) : Type 0 where
  pub root : parent s 0 ≡ 0
  pub lower : (m : ℕ) → 0 < m → m < n_of s → parent s m < m

pub rooted : (s : List ℕ) → 0 < n_of s → ((m : ℕ) → m < n_of s → T (mode_ok s m)) → Rooted s
unfolding mode_ok
rooted s p h =
    record {
      root = eqb→eq (parent s 0) 0 (all_of_e _ (h 0 p)).1.0;
      lower = λ m q l. ltb→lt (parent s m) m (and_l (ltb (parent s m) m) (not (eqb (kind s (parent s m)) 0)) (rw (ne_eqb m 0 (λ e. omega arith)) at (all_of_e _ (h m l)).1.0));
    }

module _ (s : List ℕ) (ro : Rooted s) where
  pub parent-le : (m : ℕ) → m < n_of s → parent s m ≤ m
  parent-le m l = go (eq-zero-or-pos m)
    where
      go : (m ≡ 0) ⊎ (0 < m) → parent s m ≤ m
      go (inl e) = le_trans (le_of_eq (ap (parent s) e ∙ ro.root)) zero-le
      go (inr p) = le_of_lt (ro.lower m p l)

  pub parent_n : (m : ℕ) → m < n_of s → parent s m < n_of s
  parent_n m l = lt_of_le_of_lt (parent-le m l) l

  -- one step up, one step less to go
  pub parent-le_of_suc : (f m : ℕ) → m ≤ suc f → m < n_of s → parent s m ≤ f
  parent-le_of_suc f m h l = go (eq-zero-or-pos m)
    where
      go : (m ≡ 0) ⊎ (0 < m) → parent s m ≤ f
      go (inl e) = le_trans (le_of_eq (ap (parent s) e ∙ ro.root)) zero-le
      go (inr p) = omega (arith, ro.lower m p l)

-- ---- the sheet past 1 to 6

not_off : (b : Bool) → not b ≡ false → T b
not_off b e = of_true (not-false b e)

pub record Sound (s : List ℕ) : Type 0 where
  pub head : T (head_ok s)
  pub modes : (m : ℕ) → m < n_of s → T (mode_ok s m)
  pub pairs : (t : ℕ) → t < t_of s → T (pair_ok s t)
  pub whole : end_before s (t_of s) ≡ length s
  pub ends : (t : ℕ) → t < t_of s → T (end_ok s t)
  pub terms : (t : ℕ) → t < t_of s → (j : ℕ) → j < term_count s t → T (term_ok s t j)

pub sound : (s : List ℕ) → sheet_refusal s ≡ 0 → Sound s
unfolding sheet_refusal modes_ok pairs_ok ends_ok terms_ok
sound s h =
    let o = first_of_off 0 (not (head_ok s) ∷ not (modes_ok s) ∷ not (pairs_ok s) ∷ not (ends_ok s) ∷ not (terms_ok s) ∷ not (distinct_ok s) ∷ []) h in
    let pairs = not_off (pairs_ok s) o.1.1.0 in
    record {
      head = not_off (head_ok s) o.0;
      modes = every_e (n_of s) (mode_ok s) (not_off (modes_ok s) o.1.0);
      pairs = every_e (t_of s) (pair_ok s) (and_l (every (t_of s) (pair_ok s)) (eqb (end_before s (t_of s)) (length s)) pairs);
      whole = eqb→eq (end_before s (t_of s)) (length s) (and_r (every (t_of s) (pair_ok s)) (eqb (end_before s (t_of s)) (length s)) pairs);
      ends = every_e (t_of s) (end_ok s) (not_off (ends_ok s) o.1.1.1.0);
      terms = λ t l. every_e (term_count s t) (term_ok s t) (every_e (t_of s) (λ u. every (term_count s u) (term_ok s u)) (not_off (terms_ok s) o.1.1.1.1.0) t l);
    }

module _ (s : List ℕ) (h : Sound s) where
  -- 1 to 32 modes, at most 6 events and 64 transitions
  pub n_pos : 0 < n_of s
  unfolding head_ok
  n_pos = leb→le 1 (n_of s) (all_of_e _ h.head).1.0

  pub n_le : n_of s ≤ 32
  unfolding head_ok
  n_le = leb→le (n_of s) 32 (all_of_e _ h.head).1.1.0

  pub k_le : k_of s ≤ 6
  unfolding head_ok
  k_le = leb→le (k_of s) 6 (all_of_e _ h.head).1.1.1.0

  pub t_le : t_of s ≤ 64
  unfolding head_ok
  t_le = leb→le (t_of s) 64 (all_of_e _ h.head).1.1.1.1.0

  -- the mode tree
  pub tree : Rooted s
  tree = rooted s n_pos h.modes

  -- a serial mode's first mode is one of its children
  pub first_child : (m : ℕ) → m < n_of s → kind s m ≡ 1 → (first s m < n_of s) × T (is_child s m (first s m))
  unfolding mode_ok
  first_child m l k =
      let c = rw (eq-eqb (kind s m) 1 k) at (all_of_e _ (h.modes m l)).1.1.1.0 in
      (ltb→lt (first s m) (n_of s) (and_l (ltb (first s m) (n_of s)) (is_child s m (first s m)) c), and_r (ltb (first s m) (n_of s)) (is_child s m (first s m)) c)

  -- a transition's ends are modes
  pub source-lt : (t : ℕ) → t < t_of s → source s t < n_of s
  unfolding end_ok
  source-lt t l = ltb→lt (source s t) (n_of s) (all_of_e _ (h.ends t l)).0

  -- neither end of a transition contains the other
  pub ends_apart : (t : ℕ) → t < t_of s → (contains s (source s t) (target s t) ≡ false) × (contains s (target s t) (source s t) ≡ false)
  unfolding end_ok
  ends_apart t l =
      let e = (all_of_e _ (h.ends t l)).1.1 in
      (not-true _ (is_true _ e.0), not-true _ (is_true _ e.1.0))

  -- 1 to 16 terms
  pub terms_pos : (t : ℕ) → t < t_of s → 0 < term_count s t
  unfolding pair_ok term_count
  terms_pos t l = let k = leb→le 4 (record_length s t) (all_of_e _ (h.pairs t l)).1.1.0 in omega arith

  pub terms_le : (t : ℕ) → t < t_of s → term_count s t ≤ 16
  unfolding pair_ok term_count
  terms_le t l = let k = leb→le (record_length s t) 34 (all_of_e _ (h.pairs t l)).1.1.1.0 in omega arith

-- an "or" is never first or last, and none follows it
pub record OrApart (s : List ℕ) (t j : ℕ) : Type 0 where
  pub not_first : 0 < j
  pub not_last : suc j < term_count s t
  pub none_next : eqb (term_kind s t (suc j)) 7 ≡ false

pub or_apart : (s : List ℕ) (t j : ℕ) → T (term_ok s t j) → eqb (term_kind s t j) 7 ≡ true → OrApart s t j
unfolding term_ok kind_ok
or_apart s t j h e =
    let k = rw (eqb-true (term_kind s t j) 7 e) at h in
    let value = eqb (term_value s t j) 0 in
    let later = ltb 0 j in
    let more = ltb (suc j) (term_count s t) in
    let alone = not (eqb (term_kind s t (suc j)) 7) in
    let m = and_l (value && later && more) alone k in
    record {
      not_first = ltb→lt 0 j (and_r value later (and_l (value && later) more m));
      not_last = ltb→lt (suc j) (term_count s t) (and_r (value && later) more m);
      none_next = not-true _ (is_true _ (and_r (value && later && more) alone k));
    }

-- there is no kind of term above 7
pub kind_none : (s : List ℕ) (t j c : ℕ) → 7 < c → kind_ok s t j c ≡ false
unfolding kind_ok
kind_none s t j c l = let none = above_not 7 c in rw (none 0 l tt, none 1 l tt, none 2 l tt, none 3 l tt, none 4 l tt, none 5 l tt, none 6 l tt, none 7 l tt)
