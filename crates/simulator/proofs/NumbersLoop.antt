-- The numbers of a sheet run, tick by tick: those of the ticks done stand at the front, the others as they were. Assumes nothing.
use mathlib.Core.Path.{◌≡◌, refl, sym, ap, ◌∙◌}
use mathlib.Core.Bool.{Bool, true, false, ◌||◌, or-true}
use mathlib.Core.List.{List, ◌++◌}
use Prim.Native.Nat.{ℕ, ◌+◌, ◌*◌, ◌/◌, ◌≤◌, ◌<◌}
use native.Mathlib.Nat.{le_of_lt}
use native.Mathlib.Omega.{arith}
use lib.ListN.{length, get_or, take}
use lib.Seq.{length-take-le}
use borrow.Author.Tests.{lt-ltb, le-ltb}
use Rattle.rows.specs.Over.{over}
use Rattle.rows.proofs.OverLaws.{length_over, over_more, over_front}
use Rattle.meaning.specs.Lists.{overwritten}
use Rattle.meaning.specs.Alternatives.{numbers_short}
use Rattle.meaning.specs.Run.{State, output_short, Run}
use Rattle.meaning.specs.SheetRun.{sheet_step, numbers_from, sheet_numbers, with_numbers}
use Rattle.meaning.proofs.NumberLaws.{stepped, stepped_none, stepped_next, numbers_from_length, numbers_next, numbers_length}
use Rattle.run.proofs.LoopLaws.{output_short_lem, output_room_lem}

-- over the front
laid : (l vs : List ℕ) → overwritten vs l ≡ over l 0 vs
unfolding overwritten
laid l vs = sym (over_front l vs)

module _ (s inputs numbers₀ : List ℕ) (q₀ : State) where
  -- i ticks are done from the state q₀, and leave the state q
  pub record Written (numbers : List ℕ) (q : State) (i : ℕ) : Type 0 where
    pub room : 64 * length inputs ≤ length numbers
    pub same : length numbers ≡ length numbers₀
    pub so_far : numbers ≡ overwritten (sheet_numbers s (take i inputs) q₀) numbers₀
    pub at : stepped s (take i inputs) q₀ ≡ q

  pub written_start : 64 * length inputs ≤ length numbers₀ → Written numbers₀ q₀ 0
  unfolding overwritten sheet_numbers
  written_start room = record { room = room; same = refl; so_far = refl; at = stepped_none s q₀ }

  module _ {numbers : List ℕ} {q : State} {i : ℕ} (w : Written numbers q i) where
    abbrev input : ℕ
    input = get_or inputs i 0

    abbrev done : List ℕ
    done = sheet_numbers s (take i inputs) q₀

    -- one tick more, with its row of numbers
    pub written_next : i < length inputs → {q' : State} → q' ≡ (sheet_step s q input).state → Written (over numbers (64 * i) (numbers_from s q input)) q' (i + 1)
    written_next l e =
        let row = numbers_from s q input in
        let n : length done ≡ 64 * i = numbers_length s (take i inputs) q₀ ∙ ap (λ (k : ℕ). 64 * k) (length-take-le i inputs (le_of_lt l)) in
        let m : length row ≡ 64 = numbers_from_length s q input in
        let long = length_over numbers (64 * i) row (omega (arith, w.room)) in
        let more : sheet_numbers s (take (i + 1) inputs) q₀ ≡ done ++ row =
        numbers_next s inputs q₀ i l ∙ ap (λ (y : State). done ++ numbers_from s y input) w.at in
        record {
          room = omega (arith, w.room);
          same = long ∙ w.same;
          so_far =
              ap (λ (y : List ℕ). over y (64 * i) row) (w.so_far ∙ laid numbers₀ done)
              ∙ over_more numbers₀ 0 done (omega (arith, w.room, w.same)) row (64 * i) (omega arith)
              ∙ sym (laid numbers₀ (done ++ row))
              ∙ ap (λ (r : List ℕ). overwritten r numbers₀) (sym more);
          at = stepped_next s inputs q₀ i l ∙ ap (λ (y : State). (sheet_step s y input).state) w.at ∙ sym e;
        }

    -- a run that ends here
    pub written_ends : {r here all : Run} → r ≡ here → here.done ≡ i → here ≡ all
        → record { run = r; numbers = numbers } ≡ with_numbers s q₀ inputs numbers₀ all
    unfolding with_numbers
    written_ends r d e = rw (r, ← e, d, w.so_far)

  -- a run that ends before any tick
  pub written_none : {r here all : Run} → r ≡ here → here.done ≡ 0 → here ≡ all
      → record { run = r; numbers = numbers₀ } ≡ with_numbers s q₀ inputs numbers₀ all
  unfolding with_numbers overwritten sheet_numbers
  written_none r d e = rw (r, ← e, d)

-- ---- one of the lent lists is too short, or none is

module _ (inputs out numbers : List ℕ) where
  abbrev short : Bool
  short = output_short inputs out || numbers_short inputs numbers

  pub short_output : length out / 5 < length inputs → short ≡ true
  short_output h = rw (output_short_lem inputs out h)

  pub short_numbers : length numbers / 64 < length inputs → short ≡ true
  unfolding numbers_short
  short_numbers h = rw (lt-ltb (length numbers) (64 * length inputs) (omega arith)) (or-true (output_short inputs out))

  pub short_neither : 5 * length inputs ≤ length out → 64 * length inputs ≤ length numbers → short ≡ false
  unfolding numbers_short
  short_neither a b = rw (output_room_lem inputs out a, le-ltb (length numbers) (64 * length inputs) b)
