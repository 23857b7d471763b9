-- The sheet's tests one by one: what the head, the mode rows and the pairs say once they have passed, and what each test comes to
-- where its first parts have. Assumes nothing.
use mathlib.Core.Path.{◌≡◌, refl, sym, ap}
use mathlib.Core.Logic.{⊎_elim}
use mathlib.Core.Bool.{Bool, false, ◌&&◌, and_assoc, and-true}
use mathlib.Core.List.{List}
use Prim.Native.Nat.{ℕ, zero, suc, ◌+◌, ◌*◌, ◌/◌, ◌%◌, ◌^◌, ◌-◌, ◌≤◌, ◌<◌}
use native.Mathlib.Nat.{le_refl, le_trans, le_of_eq, eq-or-lt_of_le, div-eq_of_lt, div-lt_iff_lt-mul}
use native.Mathlib.Omega.{arith}
use lib.Dec.{T, eqb, leb, ltb, eqb→eq, ltb→lt, leb→le, lt→ltb}
use lib.Pow.{pow_pos}
use lib.ListN.{length}
use borrow.Author.Tests.{le-leb, lt-ltb, eq-eqb}
use Rattle.sets.specs.Sets.{every}
use Rattle.sets.proofs.Tests.{of_true, and_l, and_r, bool_ext}
use Rattle.sets.proofs.Facts.{every_e}
use Rattle.meaning.specs.Lists.{all_of}
use Rattle.meaning.specs.Sheet.{n_of, k_of, t_of, kind, parent, offset, record_length, end_before, source, target, term_count, term_kind, term_value, contains, meeting}
use Rattle.meaning.specs.Check.{head_ok, mode_ok, modes_ok, pair_ok, pairs_ok, end_ok, kind_ok, term_ok}
use Rattle.meaning.proofs.ListLaws.{all_of_e, steps_le}
use Rattle.meaning.proofs.SheetLaws.{Rooted, rooted, parent_n, kind_none}
use Rattle.sheet.specs.Reading.{Record, Term, Tree}

-- ---- the head

pub record Head (s : List ℕ) : Type 0 where
  pub n_pos : 0 < n_of s
  pub n_le : n_of s ≤ 32
  pub t_le : t_of s ≤ 64
  pub room : 3 + 3 * n_of s + 2 * t_of s ≤ length s

pub head_of : (s : List ℕ) → T (head_ok s) → Head s
unfolding head_ok
head_of s h =
    let r = all_of_e _ h in
    record {
      n_pos = leb→le 1 (n_of s) r.1.0;
      n_le = leb→le (n_of s) 32 r.1.1.0;
      t_le = leb→le (t_of s) 64 r.1.1.1.1.0;
      room = leb→le (3 + 3 * n_of s + 2 * t_of s) (length s) r.1.1.1.1.1.0;
    }

pub head_ok_is : (s : List ℕ) → 3 ≤ length s → 1 ≤ n_of s → n_of s ≤ 32 → k_of s ≤ 6 → t_of s ≤ 64 → head_ok s ≡ leb (3 + 3 * n_of s + 2 * t_of s) (length s)
unfolding head_ok all_of
head_ok_is s l n m k t =
    rw (le-leb 3 (length s) l, le-leb 1 (n_of s) n, le-leb (n_of s) 32 m, le-leb (k_of s) 6 k, le-leb (t_of s) 64 t)
    (and-true (leb (3 + 3 * n_of s + 2 * t_of s) (length s)))

-- ---- the mode rows: a parent has a lower number

pub rooted_tree : {s : List ℕ} → Tree s → Rooted s
unfolding modes_ok
rooted_tree {s} r = rooted s (head_of s r.head).n_pos (every_e (n_of s) (mode_ok s) r.modes)

-- the parent of a mode is a mode
pub parent_small : {s : List ℕ} {n m p : ℕ} → Tree s → n ≡ n_of s → m < n → p ≡ parent s m → p < 32
parent_small {s} {n} {m} {p} r c l e = omega (arith, e, parent_n s (rooted_tree r) m (omega arith), head_of s r.head)

-- ---- the pairs: the records follow one another, so that each lies within the sheet

pair_tests : (s : List ℕ) → T (pairs_ok s) → (t : ℕ) → t < t_of s → T (pair_ok s t)
unfolding pairs_ok
pair_tests s h t l = every_e (t_of s) (pair_ok s) (and_l (every (t_of s) (pair_ok s)) (eqb (end_before s (t_of s)) (length s)) h) t l

pairs_end : (s : List ℕ) → T (pairs_ok s) → end_before s (t_of s) ≡ length s
unfolding pairs_ok
pairs_end s h = eqb→eq (end_before s (t_of s)) (length s) (and_r (every (t_of s) (pair_ok s)) (eqb (end_before s (t_of s)) (length s)) h)

-- where the records before record t end, t not the first
pub end_after : (s : List ℕ) (t : ℕ) → (t ≡ 0 → ⊥) → end_before s t ≡ offset s (t - 1) + record_length s (t - 1)
unfolding end_before
end_after s zero n = absurd (n refl)
end_after s (suc t) n = ap (λ (u : ℕ). offset s u + record_length s u) (omega arith)

end_next : (s : List ℕ) → T (pairs_ok s) → (t : ℕ) → t < t_of s → end_before s t ≤ end_before s (suc t)
unfolding pair_ok end_before
end_next s h t l =
    let at = eqb→eq (offset s t) (end_before s t) (all_of_e _ (pair_tests s h t l)).0 in
    omega arith

record_room : (s : List ℕ) → T (pairs_ok s) → (t : ℕ) → t < t_of s → offset s t + record_length s t ≤ length s
unfolding end_before
record_room s h t l = le_trans (steps_le (end_before s) (t_of s) (end_next s h) (suc t) (t_of s) l (le_refl (t_of s))) (le_of_eq (pairs_end s h))

-- the record of transition t
pub record Placed (s : List ℕ) (t : ℕ) : Type 0 where
  pub even : record_length s t % 2 ≡ 0
  pub least : 4 ≤ record_length s t
  pub most : record_length s t ≤ 34
  pub room : offset s t + record_length s t ≤ length s

pub placed : {s : List ℕ} {t : ℕ} → Record s t → Placed s t
unfolding pair_ok
placed {s} {t} r =
    let h = all_of_e _ (pair_tests s r.pairs t r.transition) in
    record {
      even = eqb→eq (record_length s t % 2) 0 h.1.0;
      least = leb→le 4 (record_length s t) h.1.1.0;
      most = leb→le (record_length s t) 34 h.1.1.1.0;
      room = record_room s r.pairs t r.transition;
    }

-- its term j
pub term_room : {s : List ℕ} {t j : ℕ} → Term s t j → offset s t + 2 * j + 4 ≤ length s
unfolding term_count
term_room {s} {t} r = omega (arith, r.term, record_room s r.pairs t r.transition)

-- a pair's tests one after the other
pub pair_ok_is : (s : List ℕ) (t off end len : ℕ) (f g r : Bool) → off ≡ offset s t → end ≡ end_before s t → len ≡ record_length s t
    → f ≡ (eqb off end && eqb (len % 2) 0) → g ≡ (f && leb 4 len) → r ≡ (g && leb len 34) → r ≡ pair_ok s t
unfolding pair_ok all_of
pair_ok_is s t off end len f g r o e l hf hg hr = rw (hr, hg, hf, o, e, l) (simp (and_assoc, and-true))

-- ---- a transition's ends

pub end_ok_is : (s : List ℕ) (t : ℕ) → source s t < n_of s → target s t < n_of s → contains s (source s t) (target s t) ≡ false → contains s (target s t) (source s t) ≡ false
    → end_ok s t ≡ eqb (kind s (meeting s t)) 1
unfolding end_ok all_of
end_ok_is s t a b h k = rw (lt-ltb (source s t) (n_of s) a, lt-ltb (target s t) (n_of s) b, h, k) (and-true (eqb (kind s (meeting s t)) 1))

-- ---- terms

-- no bit at n or above
pub shifted_none : (v n : ℕ) → eqb (v / 2 ^ n) 0 ≡ ltb v (2 ^ n)
shifted_none v n =
    bool_ext (eqb (v / 2 ^ n) 0) (ltb v (2 ^ n))
    (λ h.
    let z : v / 2 ^ n ≡ 0 = eqb→eq (v / 2 ^ n) 0 h in
    let k : v < 1 * 2 ^ n = (div-lt_iff_lt-mul (pow_pos n)).0 (omega arith) in
    lt→ltb v (2 ^ n) (omega arith))
    (λ h. of_true (eq-eqb (v / 2 ^ n) 0 (div-eq_of_lt (ltb→lt v (2 ^ n) h))))

-- a term's condition, where several kinds have it
module _ (s : List ℕ) (t j : ℕ) where
  pub event_term : 0 < term_kind s t j → term_kind s t j < 3 → term_ok s t j ≡ ltb (term_value s t j) (k_of s)
  unfolding term_ok kind_ok
  event_term p q =
      ⊎_elim (λ (e : 1 ≡ term_kind s t j). rw (sym e)) (λ (l : 1 < term_kind s t j). let e : term_kind s t j ≡ 2 = omega arith in rw e)
      (eq-or-lt_of_le p)

  pub mode_term : 3 < term_kind s t j → term_kind s t j < 6 → term_ok s t j ≡ ltb (term_value s t j) (n_of s)
  unfolding term_ok kind_ok
  mode_term p q =
      ⊎_elim (λ (e : 4 ≡ term_kind s t j). rw (sym e)) (λ (l : 4 < term_kind s t j). let e : term_kind s t j ≡ 5 = omega arith in rw e)
      (eq-or-lt_of_le p)

  pub other_term : 7 < term_kind s t j → term_ok s t j ≡ false
  unfolding term_ok
  other_term p = kind_none s t j (term_kind s t j) p
