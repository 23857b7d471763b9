-- Delays in milliseconds: each delay's two words, and the three promises. Assumes nothing.
use mathlib.Core.Path.{◌≡◌, refl, sym, ◌∙◌}
use mathlib.Core.Bool.{Bool, false}
use mathlib.Core.List.{List, [], ◌∷◌, ◌++◌}
use Prim.Native.Nat.{ℕ, zero, suc, ◌+◌, ◌*◌, ◌/◌, ◌%◌, ◌≤◌, ◌<◌}
use native.Mathlib.Nat.{mod-lt, div-add-mod', not-suc-le-zero, le_of_suc-le-suc}
use native.Mathlib.Omega.{arith}
use lib.Dec.{eqb, ltb}
use lib.ListN.{length, get_or}
use borrow.Author.Tests.{eqb-false, ltb-false}
use Rattle.sets.specs.Sets.{some}
use Rattle.sets.proofs.Tests.{is_false, or_l, or_r, of_false}
use Rattle.sets.proofs.Facts.{some_i}
use Rattle.meaning.specs.Lists.{overwritten, refused_if}
use Rattle.meaning.proofs.RefusalLaws.{none_met, first_alone, unmet}
use Rattle.meaning.specs.Milliseconds.{ticks_and_rests, ticks_out_of_range, milliseconds, WholeDelay, RestBelow, TicksFit}

-- each delay's two words, whatever follows the words of all
words_at_lem : (tick : ℕ) (ds rest : List ℕ) (i : ℕ) → i < length ds
    → (get_or (ticks_and_rests tick ds ++ rest) (2 * i) 0 ≡ get_or ds i 0 / tick) × (get_or (ticks_and_rests tick ds ++ rest) (2 * i + 1) 0 ≡ get_or ds i 0 % tick)
unfolding ticks_and_rests
words_at_lem tick [] rest i l = absurd (not-suc-le-zero l)
words_at_lem tick (d ∷ ds) rest zero l = (refl, refl)
words_at_lem tick (d ∷ ds) rest (suc i) l =
    let ih = words_at_lem tick ds rest i (le_of_suc-le-suc l) in
    let e : 2 * suc i ≡ suc (suc (2 * i)) = omega arith in
    let e' : 2 * suc i + 1 ≡ suc (suc (2 * i + 1)) = omega arith in
    (rw e ih.0, rw e' ih.1)

-- a conversion that is not refused
module _ (tick : ℕ) (delays results : List ℕ) (h : (milliseconds tick delays results).refusal ≡ 0) where
  in_range : ticks_out_of_range tick delays ≡ false
  unfolding milliseconds
  in_range =
      let later = (none_met _ (refused_if (ticks_out_of_range tick delays) 20 ∷ []) h).1 in
      unmet (ticks_out_of_range tick delays) 20 (λ k. omega arith) (sym (first_alone (refused_if (ticks_out_of_range tick delays) 20)) ∙ later)

  tick_pos : 0 < tick
  unfolding ticks_out_of_range
  tick_pos = let n = eqb-false tick 0 (is_false (eqb tick 0) (λ k. of_false in_range (or_l (eqb tick 0) (some (length delays) (λ i. ltb 65535 (get_or delays i 0 / tick))) k))) in omega arith

  most : (i : ℕ) → i < length delays → get_or delays i 0 / tick ≤ 65535
  unfolding ticks_out_of_range
  most i l =
      ltb-false 65535 (get_or delays i 0 / tick)
      (is_false (above i) (λ k. of_false in_range (or_r (eqb tick 0) (some (length delays) above) (some_i (length delays) above i l k))))
    where
      above : ℕ → Bool
      above j = ltb 65535 (get_or delays j 0 / tick)

  results_are : (milliseconds tick delays results).results ≡ overwritten (ticks_and_rests tick delays) results
  unfolding milliseconds
  results_are = rw h refl

  ticks_at : (i : ℕ) → i < length delays → get_or (milliseconds tick delays results).results (2 * i) 0 ≡ get_or delays i 0 / tick
  unfolding overwritten
  ticks_at i l = rw results_are (words_at_lem tick delays _ i l).0

  rest_at : (i : ℕ) → i < length delays → get_or (milliseconds tick delays results).results (2 * i + 1) 0 ≡ get_or delays i 0 % tick
  unfolding overwritten
  rest_at i l = rw results_are (words_at_lem tick delays _ i l).1

pub whole-delay : WholeDelay
unfolding WholeDelay
whole-delay tick delays results h i l = rw (ticks_at tick delays results h i l, rest_at tick delays results h i l) (div-add-mod' (get_or delays i 0) tick)

pub rest_below_lem : RestBelow
unfolding RestBelow
rest_below_lem tick delays results h i l = rw (rest_at tick delays results h i l) (mod-lt (get_or delays i 0) (tick_pos tick delays results h))

pub ticks_fit_lem : TicksFit
unfolding TicksFit
ticks_fit_lem tick delays results h i l = rw (ticks_at tick delays results h i l) (most tick delays results h i l)
