-- Bytes put into a line: a copy at a place, and numbers one after the other. Assumes nothing.
use mathlib.Core.Path.{◌≡◌, refl, sym, ap, ◌∙◌}
use mathlib.Core.List.{List, [], ◌∷◌, ◌++◌, append_assoc}
use Prim.Native.Nat.{ℕ, suc, ◌+◌, ◌≤◌, ◌<◌}
use native.Mathlib.Numerals.{add-one}
use native.Mathlib.Omega.{arith}
use lib.ListN.{length, get_or, take, drop, set, length-append, take-append-drop, drop_of_length-le}
use lib.Seq.{length-take-le, drop-cons, take_at, drop_at, drop-drop, drop-set-lt, take-suc-set}
use borrow.Rule.Slice.PartMut.{put_mid}
use Rattle.rows.specs.Over.{over}
use Rattle.rows.proofs.OverLaws.{over_def, length_over}
use Rattle.io.specs.Counts.{IsPrefixLen}
use Rattle.meaning.specs.Lists.{overwritten}
use Rattle.meaning.proofs.ListLaws.{drop-later}
use Rattle.decimals.specs.Printing.{decimal_of, line_of, Put, line_put}

-- ---- bytes copied to a place

pub put_over : (l ds : List ℕ) (at k : ℕ) → k ≡ length ds → put_mid at k l ds ≡ over l at ds
unfolding over
put_over l ds at k e = rw e (simp (append_assoc, drop-drop))

-- ---- what is left of a line, and the byte after a number that stands before the numbers ns

unfoldable pub line_rest : List ℕ → List ℕ
line_rest [] = []
line_rest (n ∷ ns) = line_of (n ∷ ns)

unfoldable pub mark : List ℕ → ℕ
mark [] = 10
mark (m ∷ ns) = 32

rest_cons : (n : ℕ) (ns : List ℕ) → line_rest (n ∷ ns) ≡ decimal_of n ++ mark ns ∷ line_rest ns
unfolding line_rest mark line_of
rest_cons n [] = refl
rest_cons n (m ∷ ns) = refl

module _ (row : List ℕ) where
  pub rest_all : 1 ≤ length row → line_rest row ≡ line_of row
  unfolding line_rest
  rest_all h = go row h
    where
      go : (ns : List ℕ) → 1 ≤ length ns → line_rest ns ≡ line_of ns
      go [] k = absurd (omega arith)
      go (n ∷ ns) k = refl

  module _ (j : ℕ) where
    pub rest_none : length row ≤ j → line_rest (drop j row) ≡ []
    unfolding line_rest
    rest_none h = let none : drop j row ≡ [] = drop_of_length-le row h in rw none

    pub mark_more : j < length row → mark (drop j row) ≡ 32
    unfolding mark
    mark_more h = rw (drop-cons row j 0 h)

    pub mark_last : length row ≤ j → mark (drop j row) ≡ 10
    unfolding mark
    mark_last h = let none : drop j row ≡ [] = drop_of_length-le row h in rw none

-- the bytes up to the end of a row of bytes put at a place, with one byte more
take_put : (l ds : List ℕ) (at e c : ℕ) → e ≡ at + length ds → e < length l
    → take (e + 1) (set (over l at ds) e c) ≡ take at l ++ ds ++ c ∷ []
take_put l ds at e c h k =
    let p = take at l ++ ds in
    let long : length p ≡ e = omega (arith, length-append (take at l) ds, length-take-le at l (omega arith)) in
    let whole : e < length (over l at ds) = omega (arith, length_over l at ds (omega arith)) in
    let front : take e (over l at ds) ≡ p = rw (over_def l at ds) (take_at p (drop (at + length ds) l) e long) in
    rw (add-one, take-suc-set (over l at ds) e c whole, front)

-- a number, and the byte after it
pub row-turn : (l row : List ℕ) (at j e c : ℕ) → j < length row → e ≡ at + length (decimal_of (get_or row j 0)) → e < length l → c ≡ mark (drop (j + 1) row)
    → take (e + 1) (set (over l at (decimal_of (get_or row j 0))) e c) ++ line_rest (drop (j + 1) row) ≡ take at l ++ line_rest (drop j row)
row-turn l row at j e c h k m n =
    let ds = decimal_of (get_or row j 0) in
    let rest = drop (j + 1) row in
    let left : line_rest (drop j row) ≡ ds ++ mark rest ∷ line_rest rest = rw (drop-cons row j 0 h, add-one) (rest_cons (get_or row j 0) (drop (suc j) row)) in
    rw (take_put l ds at e c k m, left, ← n) (simp append_assoc)

-- the bytes after a number and the byte after it stay
drop_put : (l ds : List ℕ) (at e c : ℕ) → e ≡ at + length ds → e < length l → drop (e + 1) (set (over l at ds) e c) ≡ drop (e + 1) l
drop_put l ds at e c h k =
    let p = take at l ++ ds in
    let long : length p ≡ e = omega (arith, length-append (take at l) ds, length-take-le at l (omega arith)) in
    let rest : drop e (over l at ds) ≡ drop e l = rw (over_def l at ds, h) (drop_at p (drop (at + length ds) l) (at + length ds) (long ∙ h)) in
    rw (drop-set-lt (e + 1) (over l at ds) e c (omega arith), ← drop-drop 1 e (over l at ds), rest) (drop-drop 1 e l)

pub row_rest : (l m : List ℕ) (at : ℕ) (ds : List ℕ) (e c : ℕ) → e ≡ at + length ds → e < length l → drop at l ≡ drop at m
    → drop (e + 1) (set (over l at ds) e c) ≡ drop (e + 1) m
row_rest l m at ds e c h k same = drop_put l ds at e c h k ∙ drop-later l m at (e + 1) (omega arith) same

-- ---- the whole line put

module _ (row lent line : List ℕ) (n : ℕ) where
  pub line_put_lem : n ≤ length line → take n line ≡ line_of row → drop n line ≡ drop n lent
      → record { count = n; line = line } ≡ line_put row lent
  unfolding line_put overwritten
  line_put_lem h front rest =
      let long : n ≡ length (line_of row) = sym (length-take-le n line h) ∙ ap length front in
      let whole : line ≡ line_of row ++ drop (length (line_of row)) lent =
      sym (take-append-drop n line) ∙ rw (front, rest, long) in
      cc

  -- the bytes counted lie within the line
  pub put_counts_lem : record { count = n; line = line } ≡ line_put row lent → IsPrefixLen n line
  unfolding line_put overwritten
  put_counts_lem e =
      let count : n ≡ length (line_of row) = ap (λ (p : Put). p.count) e in
      let whole : length line ≡ length (line_of row ++ drop (length (line_of row)) lent) = ap (λ (p : Put). length p.line) e in
      let within : n ≤ length line = omega (arith, simp length-append at whole) in
      (within, sym (length-take-le n line within))
