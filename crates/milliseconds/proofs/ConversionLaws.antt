-- The longest delay, the words put pair by pair, and the conversion's answer. Assumes nothing.
use mathlib.Core.Path.{◌≡◌, refl, sym, ap, ◌∙◌}
use mathlib.Core.Logic.{◌⊎◌, inl, inr, ⊎_elim, ◌↔◌}
use mathlib.Core.Bool.{true, false}
use mathlib.Core.List.{List, [], ◌∷◌}
use Prim.Native.Nat.{ℕ, zero, suc, max, ◌+◌, ◌-◌, ◌*◌, ◌/◌, ◌%◌, ◌≤◌, ◌<◌}
use native.Mathlib.Nat.{le_refl, le-div_iff_mul-le, mul-pos}
use native.Mathlib.Numerals.{add-one}
use native.Mathlib.Omega.{arith}
use lib.Dec.{ltb, lt→ltb, ltb→lt}
use lib.ListN.{length, get_or, drop}
use lib.Seq.{drop-cons, drop-length}
use borrow.Author.Tests.{eq-eqb, ne_eqb, lt-ltb, le-ltb}
use Rattle.sets.specs.Sets.{some}
use Rattle.std.specs.List.{fold, reduce}
use Rattle.std.specs.Option.{unwrap_or}
use Rattle.sets.proofs.Tests.{bool_ext, below_or_not}
use Rattle.sets.proofs.Facts.{some_e, some_i}
use Rattle.sets.proofs.Quantifiers.{some_same}
use Rattle.rows.specs.Over.{over}
use Rattle.rows.proofs.OverLaws.{over_nil, over_front, over_more}
use Rattle.meaning.specs.Lists.{overwritten, refused_if, first_refusal}
use Rattle.meaning.specs.Milliseconds.{ticks_and_rests, results_short, ticks_out_of_range, milliseconds}

-- ---- the longest of the delays so far

-- most is above a number exactly if some of the first i words is
abbrev pub Longest : List ℕ → ℕ → ℕ → Type 0
Longest l i most = (n : ℕ) → some i (λ j. ltb n (get_or l j 0)) ≡ ltb n most

-- the largest of a and some words is at least each, and one of them
grown : (a : ℕ) (l : List ℕ) → a ≤ fold max a l
grown a [] = le_refl a
grown a (x ∷ l) = omega (arith, grown (max a x) l)

among : (a : ℕ) (l : List ℕ) (i : ℕ) → i < length l → get_or l i 0 ≤ fold max a l
among a [] i k = absurd (omega arith)
among a (x ∷ l) zero k = omega (arith, grown (max a x) l)
among a (x ∷ l) (suc i) k = among (max a x) l i (omega arith)

reached : (n a : ℕ) (l : List ℕ) → n < fold max a l → (n < a) ⊎ ((i : ℕ) × (i < length l) × (n < get_or l i 0))
reached n a [] h = inl h
reached n a (x ∷ l) h = go (reached n (max a x) l h) (below_or_not n a)
  where
    go : (n < max a x) ⊎ ((i : ℕ) × (i < length l) × (n < get_or l i 0)) → (n < a) ⊎ (a ≤ n)
        → (n < a) ⊎ ((i : ℕ) × (i < suc (length l)) × (n < get_or (x ∷ l) i 0))
    go (inl k) (inl j) = inl j
    go (inl k) (inr j) = inr (0, omega arith, omega arith)
    go (inr r) j = inr (suc r.0, omega (arith, r.1), r.2)

pub longest_is : (l : List ℕ) → Longest l (length l) (fold max 0 l)
longest_is l n =
    bool_ext (some (length l) (λ i. ltb n (get_or l i 0))) (ltb n (fold max 0 l))
    (λ h.
    let r = some_e (length l) (λ i. ltb n (get_or l i 0)) h in
    lt→ltb n (fold max 0 l) (omega (arith, among 0 l r.0 r.1, ltb→lt n (get_or l r.0 0) r.2)))
    (λ h.
    ⊎_elim (λ k. absurd (omega arith))
    (λ r. some_i (length l) (λ i. ltb n (get_or l i 0)) r.0 r.1 (lt→ltb n (get_or l r.0 0) r.2))
    (reached n 0 l (ltb→lt n (fold max 0 l) h)))

-- the largest of the words, 0 if there is none
pub longest_or_0 : (l : List ℕ) → unwrap_or (reduce max l) 0 ≡ fold max 0 l
longest_or_0 [] = refl
longest_or_0 (x ∷ l) = ap (λ (a : ℕ). fold max a l) (omega arith)

-- ---- the words of the delays that are left, put after those that are done

module _ (tick : ℕ) (delays : List ℕ) where
  pub put_turn : (i : ℕ) (results : List ℕ) {done : List ℕ} {q r : ℕ} → i < length delays → 2 * length delays ≤ length results
      → done ≡ over results (2 * i) (q ∷ r ∷ []) → q ≡ get_or delays i 0 / tick → r ≡ get_or delays i 0 % tick
      → over done (2 * (i + 1)) (ticks_and_rests tick (drop (i + 1) delays)) ≡ over results (2 * i) (ticks_and_rests tick (drop i delays))
  unfolding ticks_and_rests
  put_turn i results {done} {q} {r} l h e eq er =
      let rest = ticks_and_rests tick (drop (i + 1) delays) in
      let words : q ∷ r ∷ rest ≡ ticks_and_rests tick (drop i delays) =
      rw (eq, er, add-one) (sym (ap (ticks_and_rests tick) (drop-cons delays i 0 l))) in
      rw e (over_more results (2 * i) (q ∷ r ∷ []) (omega arith) rest (2 * (i + 1)) (omega arith) ∙ ap (over results (2 * i)) words)

  pub put_end : (i : ℕ) (results : List ℕ) → i ≡ length delays → over results (2 * i) (ticks_and_rests tick (drop i delays)) ≡ results
  unfolding ticks_and_rests
  put_end i results e = rw (e, drop-length delays) (over_nil results (2 * length delays))

-- ---- the answer

-- ticks are above w exactly if the delay has that many ticks' milliseconds and one tick's more
above_ticks : (w d tick : ℕ) → 0 < tick → ltb w (d / tick) ≡ ltb (suc w * tick - 1) d
above_ticks w d tick p =
    bool_ext (ltb w (d / tick)) (ltb (suc w * tick - 1) d)
    (λ h. lt→ltb (suc w * tick - 1) d (below (iff.0 (ltb→lt w (d / tick) h)))) (λ h. lt→ltb w (d / tick) (iff.1 (reached (ltb→lt (suc w * tick - 1) d h))))
  where
    iff : (suc w ≤ d / tick) ↔ (suc w * tick ≤ d)
    iff = le-div_iff_mul-le p

    below : suc w * tick ≤ d → suc w * tick - 1 < d
    below k = omega (arith, mul-pos {m = suc w} {n = tick} (omega arith) p)

    reached : suc w * tick - 1 < d → suc w * tick ≤ d
    reached k = omega arith

module _ (tick : ℕ) (delays results : List ℕ) where
  pub no_tick : tick ≡ 0 → ticks_out_of_range tick delays ≡ true
  unfolding ticks_out_of_range
  no_tick e = rw (eq-eqb tick 0 e) refl

  -- the longest delay decides
  pub longest_decides : (most : ℕ) → 0 < tick → Longest delays (length delays) most → ticks_out_of_range tick delays ≡ ltb 65535 (most / tick)
  unfolding ticks_out_of_range
  longest_decides most p h =
      rw (ne_eqb tick 0 (λ e. omega arith))
      (some_same (length delays) (λ i. ltb 65535 (get_or delays i 0 / tick)) (λ i. ltb (65536 * tick - 1) (get_or delays i 0)) (λ i l. above_ticks 65535 (get_or delays i 0) tick p)
      ∙ h (65536 * tick - 1) ∙ sym (above_ticks 65535 most tick p))

  pub answer_12 : length results / 2 < length delays → milliseconds tick delays results ≡ record { refusal = 12; results = results }
  unfolding milliseconds results_short refused_if first_refusal
  answer_12 h = rw (lt-ltb (length results) (2 * length delays) (omega arith)) refl

  pub answer_20 : length delays ≤ length results / 2 → ticks_out_of_range tick delays ≡ true
      → milliseconds tick delays results ≡ record { refusal = 20; results = results }
  unfolding milliseconds results_short refused_if first_refusal
  answer_20 h e = rw (le-ltb (length results) (2 * length delays) (omega arith), e) refl

  pub answer_0 : length delays ≤ length results / 2 → ticks_out_of_range tick delays ≡ false
      → milliseconds tick delays results ≡ record { refusal = 0; results = over results 0 (ticks_and_rests tick delays) }
  unfolding milliseconds results_short refused_if first_refusal overwritten
  answer_0 h e = rw (le-ltb (length results) (2 * length delays) (omega arith), e, over_front results (ticks_and_rests tick delays)) refl
