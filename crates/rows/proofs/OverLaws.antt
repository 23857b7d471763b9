-- Laws of `over`: a row of stores, a row after a row, a store under a row, a part lent and put back. Assumes nothing.
use mathlib.Core.Path.{◌≡◌, refl, sym, ap, ◌∙◌}
use mathlib.Core.Logic.{◌⊎◌, inl, inr}
use mathlib.Core.List.{List, [], ◌∷◌, ◌++◌, append_assoc, append-nil}
use Prim.Native.Nat.{ℕ, ◌+◌, ◌-◌, ◌≤◌, ◌<◌}
use native.Mathlib.Omega.{arith}
use native.Mathlib.Nat.{zero-add, add-zero, add_assoc}
use lib.ListN.{length, set, length-replicate, get_or, get_or-append, take, drop, length-append, length-drop, take-append-drop, drop_of_length-le}
use lib.Seq.{sets, sets-eq, length-take-le, take_all, take_at, take-append-le, drop-append-add, drop-drop, take-set-le, drop-set-lt, get_or-take, get_or-drop, get_or-append-add}
use borrow.Rule.Slice.PartMut.{put_mid}
use Rattle.std.proofs.lemmas.List.{take_more}
use Rattle.rows.specs.Over.{over, zeros}

pub over_def : (l : List ℕ) (at : ℕ) (vs : List ℕ) → over l at vs ≡ take at l ++ vs ++ drop (at + length vs) l
unfolding over
over_def l at vs = refl

-- a row put in the place of the part that it fits
pub over_mid : (l : List ℕ) (at k : ℕ) (vs : List ℕ) → k ≡ length vs → put_mid at k l vs ≡ over l at vs
unfolding over
over_mid l at k vs e = rw (e, append_assoc, drop-drop) refl

-- the part `l[at..at + n]`, as a call that it is lent to sees it
pub part_length : (l : List ℕ) (at n : ℕ) → at + n ≤ length l → length (take (at + n - at) (drop at l)) ≡ n
part_length l at n h = omega (arith, length-take-le (at + n - at) (drop at l) (omega (arith, length-drop at l)))

-- a row of stores
pub over_sets : (l : List ℕ) (at : ℕ) (vs : List ℕ) → at + length vs ≤ length l → sets l at vs ≡ over l at vs
unfolding over
over_sets l at vs h = sets-eq vs l at h

pub over_nil : (l : List ℕ) (at : ℕ) → over l at [] ≡ l
unfolding over
over_nil l at = simp (add-zero, append-nil, take-append-drop)

-- at the front: the row, and then what stood after it
pub over_front : (l vs : List ℕ) → over l 0 vs ≡ vs ++ drop (length vs) l
unfolding over
over_front l vs = simp zero-add

module _ (l : List ℕ) (at : ℕ) (vs : List ℕ) (h : at + length vs ≤ length l) where
  head_length : length (take at l ++ vs) ≡ at + length vs
  head_length = omega (arith, length-append (take at l) vs, length-take-le at l (omega arith))

  pub length_over : length (over l at vs) ≡ length l
  unfolding over
  length_over =
      let t = drop (at + length vs) l in
      omega (arith, length-append (take at l ++ vs) t, head_length, length-drop (at + length vs) l)

  take_over : (n : ℕ) → n ≡ at + length vs → take n (over l at vs) ≡ take at l ++ vs
  unfolding over
  take_over n e = rw e (take_at (take at l ++ vs) (drop (at + length vs) l) (at + length vs) head_length)

  drop_over : (k : ℕ) → drop (at + length vs + k) (over l at vs) ≡ drop (at + length vs + k) l
  unfolding over
  drop_over k =
      rw (← head_length, drop-append-add (take at l ++ vs) (drop (length (take at l ++ vs)) l) k, drop-drop k (length (take at l ++ vs)) l)

  -- a row, and then the row after it
  pub over_more : (us : List ℕ) (n : ℕ) → n ≡ at + length vs → over (over l at vs) n us ≡ over l at (vs ++ us)
  over_more us n e =
      let k : drop (n + length us) (over l at vs) ≡ drop (at + length (vs ++ us)) l =
      rw (e, length-append, ← add_assoc) (drop_over (length us)) in
      cc (over_def (over l at vs) n us, over_def l at (vs ++ us), take_over n e, append_assoc (take at l) vs us)

  take_before : take at (over l at vs) ≡ take at l
  unfolding over
  take_before =
      take-append-le at (take at l ++ vs) (drop (at + length vs) l) (omega (arith, head_length))
      ∙ take_at (take at l) vs at (length-take-le at l (omega arith))

  -- a row, and then another in its place
  pub over_again : (us : List ℕ) → length us ≡ length vs → over (over l at vs) at us ≡ over l at us
  over_again us e =
      let back : drop (at + length us) (over l at vs) ≡ drop (at + length us) l = rw (e, ← add-zero (at + length vs)) (drop_over 0) in
      cc (over_def (over l at vs) at us, over_def l at us, take_before, back)

  -- word i of the row, and a word that is not of the row
  pub over_in : (i : ℕ) → i < length vs → get_or (over l at vs) (at + i) 0 ≡ get_or vs i 0
  unfolding over
  over_in i k =
      let e : at + i ≡ length (take at l) + i = omega (arith, length-take-le at l (omega arith)) in
      get_or-append (take at l ++ vs) (drop (at + length vs) l) 0 (at + i) (omega (arith, head_length))
      ∙ ap (λ (p : ℕ). get_or (take at l ++ vs) p 0) e ∙ get_or-append-add (take at l) vs i 0

  pub over_out : (p : ℕ) → (p < at) ⊎ (at + length vs ≤ p) → get_or (over l at vs) p 0 ≡ get_or l p 0
  unfolding over
  over_out p (inl k) =
      get_or-append (take at l ++ vs) (drop (at + length vs) l) 0 p (omega (arith, head_length))
      ∙ get_or-append (take at l) vs 0 p (omega (arith, length-take-le at l (omega arith))) ∙ get_or-take at l p 0 k
  over_out p (inr k) =
      let n : ℕ = at + length vs in
      let e : p ≡ length (take at l ++ vs) + (p - n) = omega (arith, head_length) in
      let q : n + (p - n) ≡ p = omega arith in
      ap (λ (i : ℕ). get_or (take at l ++ vs ++ drop n l) i 0) e ∙ get_or-append-add (take at l ++ vs) (drop n l) (p - n) 0
      ∙ get_or-drop n l (p - n) 0 ∙ ap (λ (i : ℕ). get_or l i 0) q

-- a row stored word by word: one more
pub over_next : (l : List ℕ) (at : ℕ) (vs : List ℕ) (i x : ℕ) → at + length vs ≤ length l → i < length vs → x ≡ get_or vs i 0
    → set (over l at (take i vs)) (at + i) x ≡ over l at (take (i + 1) vs)
over_next l at vs i x room h e =
    let n : length (take i vs) ≡ i = length-take-le i vs (omega arith) in
    let r : at + length (take i vs) ≤ length l = omega arith in
    over_sets (over l at (take i vs)) (at + i) (x ∷ []) (omega (arith, length_over l at (take i vs) r))
    ∙ over_more l at (take i vs) r (x ∷ []) (at + i) (ap (λ (k : ℕ). at + k) (sym n))
    ∙ ap (over l at) (rw e (sym (take_more vs i 0 h)))

-- a store inside the row is lost under it
pub over_set : (l : List ℕ) (at : ℕ) (vs : List ℕ) (i x : ℕ) → i < length vs → over (set l (at + i) x) at vs ≡ over l at vs
unfolding over
over_set l at vs i x h = rw (take-set-le at l (at + i) x (omega arith), drop-set-lt (at + length vs) l (at + i) x (omega arith))

-- the row that stands there
pub over_same : (l : List ℕ) (at n : ℕ) → at + n ≤ length l → over l at (take n (drop at l)) ≡ l
unfolding over
over_same l at n h =
    let e : length (take n (drop at l)) ≡ n = length-take-le n (drop at l) (omega (arith, length-drop at l)) in
    rw (e, ← drop-drop n at l, append_assoc, take-append-drop n (drop at l)) (take-append-drop at l)

-- ---- a row of zeros

pub zeros_length : (n : ℕ) → length (zeros n) ≡ n
unfolding zeros
zeros_length n = length-replicate n 0

-- a row put at the front of the part from `off` on
pub over_part : (l : List ℕ) (off : ℕ) (vs : List ℕ) → off ≤ length l → take off l ++ over (drop off l) 0 vs ≡ over l off vs
unfolding over
over_part l off vs h = simp (zero-add, drop-drop, append_assoc)

-- ---- the part from `off` on, as a call that it is lent to sees it, `&mut l[off..]`, and back in its place

module _ (l : List ℕ) (off : ℕ) (h : off ≤ length l) where
  pub lent_is : take (length l - off) (drop off l) ≡ drop off l
  lent_is = take_all (length l - off) (drop off l) (omega (arith, length-drop off l))

  pub lent_length : length (take (length l - off) (drop off l)) ≡ length l - off
  lent_length = rw lent_is (length-drop off l)

  -- a row that was put at the part's front is a row at `off`
  pub lent_back : (vs part : List ℕ) → part ≡ over (take (length l - off) (drop off l)) 0 vs
      → put_mid off (length l - off) l part ≡ over l off vs
  lent_back vs part e =
      let short : length (drop off l) ≤ length l - off = omega (arith, length-drop off l) in
      let none : drop (length l - off) (drop off l) ≡ [] = drop_of_length-le (drop off l) short in
      rw (none, append-nil, e, lent_is) (over_part l off vs h)
