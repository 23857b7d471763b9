-- Laws of the numbers of a sheet run: those of one tick more, how many there are, and that they say what the taken words say. Assumes
-- nothing.
use mathlib.Core.Path.{◌≡◌, refl, sym, ap, ◌∙◌}
use mathlib.Core.Bool.{◌||◌}
use mathlib.Core.List.{List, [], ◌∷◌, ◌++◌, append_assoc, append-nil}
use Prim.Native.Nat.{ℕ, zero, suc, ◌+◌, ◌*◌, ◌^◌, ◌<◌}
use native.Mathlib.Nat.{not-suc-le-zero, le_of_suc-le-suc, mod-add-div}
use native.Mathlib.Numerals.{add-one}
use native.Mathlib.Omega.{arith}
use lib.Dec.{ltb}
use lib.ListN.{length, get_or, take, drop, length-append}
use lib.Seq.{take-suc}
use Rattle.sets.specs.Sets.{has}
use Rattle.meaning.specs.Lists.{overwritten}
use Rattle.meaning.specs.Sheet.{k_of}
use Rattle.meaning.specs.Check.{sheet_refusal}
use Rattle.meaning.specs.Reaction.{running}
use Rattle.meaning.specs.Tick.{five_words}
use Rattle.meaning.specs.Alternatives.{numbers_short, tick_numbers, fired}
use Rattle.meaning.specs.Run.{State, due_timers, Ticks, stops, tick_then, output_short, ran}
use Rattle.meaning.specs.SheetRun.{state_ok, tick_from, sheet_step, sheet_ticks, numbers_from, sheet_numbers, with_numbers, sheet_run}
use Rattle.meaning.specs.FiredAlternatives.{FiredTaken, NumbersTaken}
use Rattle.meaning.proofs.ListLaws.{row_from-length, row_at, block_first, block-later}
use Rattle.meaning.proofs.AlternativeLaws.{fired_taken_lem}
use Rattle.meaning.proofs.RunLaws.{ticks_all, run_all}
use Rattle.meaning.proofs.SheetTicksLaws.{five_long}

module _ (s : List ℕ) where
  -- the state that the ticks of a list leave, where all are done
  unfoldable pub stepped : List ℕ → State → State
  stepped [] q = q
  stepped (i ∷ is) q = stepped is (sheet_step s q i).state

  pub stepped_none : (q : State) → stepped [] q ≡ q
  unfolding stepped
  stepped_none q = refl

  -- 64 numbers for each tick
  pub numbers_from_length : (q : State) (i : ℕ) → length (numbers_from s q i) ≡ 64
  unfolding numbers_from tick_numbers
  numbers_from_length q i = row_from-length (fired s q.at _ i) 0 64

  -- with the tick of one input set more
  pub stepped_more : (is : List ℕ) (i : ℕ) (q : State) → stepped (is ++ i ∷ []) q ≡ (sheet_step s (stepped is q) i).state
  unfolding stepped
  stepped_more [] i q = refl
  stepped_more (j ∷ is) i q = stepped_more is i (sheet_step s q j).state

  pub numbers_more : (is : List ℕ) (i : ℕ) (q : State) → sheet_numbers s (is ++ i ∷ []) q ≡ sheet_numbers s is q ++ numbers_from s (stepped is q) i
  unfolding sheet_numbers stepped
  numbers_more [] i q = append-nil (numbers_from s q i)
  numbers_more (j ∷ is) i q =
      ap (λ (l : List ℕ). numbers_from s q j ++ l) (numbers_more is i (sheet_step s q j).state)
      ∙ sym (append_assoc (numbers_from s q j) (sheet_numbers s is (sheet_step s q j).state) (numbers_from s (stepped is (sheet_step s q j).state) i))

  pub numbers_length : (is : List ℕ) (q : State) → length (sheet_numbers s is q) ≡ 64 * length is
  unfolding sheet_numbers
  numbers_length [] q = refl
  numbers_length (i ∷ is) q =
      let a = numbers_from_length q i in
      let b = numbers_length is (sheet_step s q i).state in
      length-append (numbers_from s q i) (sheet_numbers s is (sheet_step s q i).state) ∙ omega arith

-- ---- of the first sets of a list

module _ (s inputs : List ℕ) (q : State) (i : ℕ) (h : i < length inputs) where
  -- with set i too
  more : take (i + 1) inputs ≡ take i inputs ++ get_or inputs i 0 ∷ []
  more = ap (λ (n : ℕ). take n inputs) (add-one i) ∙ take-suc inputs i 0 h

  pub stepped_next : stepped s (take (i + 1) inputs) q ≡ (sheet_step s (stepped s (take i inputs) q) (get_or inputs i 0)).state
  stepped_next = ap (λ (l : List ℕ). stepped s l q) more ∙ stepped_more s (take i inputs) (get_or inputs i 0) q

  pub numbers_next : sheet_numbers s (take (i + 1) inputs) q
      ≡ sheet_numbers s (take i inputs) q ++ numbers_from s (stepped s (take i inputs) q) (get_or inputs i 0)
  numbers_next = ap (λ (l : List ℕ). sheet_numbers s l q) more ∙ numbers_more s (take i inputs) (get_or inputs i 0) q

-- ---- the numbers of a run beside its taken words

-- the number at 64p + t is not 0 exactly where the taken words, at 5p + 3 and 5p + 4, have bit t
abbrev AsTaken : List ℕ → List ℕ → ℕ → ℕ → Type 0
AsTaken numbers words p t = ltb 0 (get_or numbers (64 * p + t) 0) ≡ has (get_or words (5 * p + 3) 0 + 2 ^ 32 * get_or words (5 * p + 4) 0) t

module _ (s : List ℕ) where
  -- of one tick
  numbers_from_taken : (q : State) (i t : ℕ) → t < 64 → ltb 0 (get_or (numbers_from s q i) t 0) ≡ has (tick_from s q i).sets.taken t
  unfolding numbers_from tick_numbers tick_from FiredTaken
  numbers_from_taken q i t l =
      let d = due_timers (running s q.at) q.readings in
      ap (ltb 0) (row_at 64 (fired s q.at d i) t l) ∙ fired_taken_lem s q.at d i t

  -- of a tick in front of others
  module _ (q : State) (i : ℕ) (numbers words : List ℕ) (t : ℕ) where
    taken_first : t < 64 → AsTaken (numbers_from s q i ++ numbers) ((sheet_step s q i).words ++ words) 0 t
    unfolding sheet_step five_words
    taken_first l =
        ap (ltb 0) (block_first 64 (numbers_from s q i) numbers t (numbers_from_length s q i) l) ∙ numbers_from_taken q i t l
        ∙ ap (λ (x : ℕ). has x t) (sym (mod-add-div (tick_from s q i).sets.taken (2 ^ 32)))

    taken_later : (p : ℕ) → AsTaken numbers words p t → AsTaken (numbers_from s q i ++ numbers) ((sheet_step s q i).words ++ words) (suc p) t
    taken_later p h =
        let word : (j : ℕ) → get_or ((sheet_step s q i).words ++ words) (5 * suc p + j) 0 ≡ get_or words (5 * p + j) 0 = λ j. block-later 5 (sheet_step s q i).words words p j (five_long s q i) in
        rw (block-later 64 (numbers_from s q i) numbers p t (numbers_from_length s q i), word 3, word 4) h

  -- of ticks in front of any words
  Beside : List ℕ → State → Ticks → Type 0
  Beside is q x =
      (numbers words : List ℕ) (p t : ℕ) → t < 64 → p < x.done → AsTaken (sheet_numbers s (take x.done is) q ++ numbers) (x.words ++ words) p t

  beside_more : (i : ℕ) (is : List ℕ) (q : State) (x : Ticks) → Beside is (sheet_step s q i).state x → Beside (i ∷ is) q (tick_then (sheet_step s q i) x)
  unfolding Beside tick_then sheet_numbers
  beside_more i is q x ih numbers words p t l k =
      rw (append_assoc (numbers_from s q i) on numbers, append_assoc (sheet_step s q i).words x.words words) (go p k)
    where
      on : List ℕ
      on = sheet_numbers s (take x.done is) (sheet_step s q i).state

      go : (p : ℕ) → p < suc x.done → AsTaken (numbers_from s q i ++ (on ++ numbers)) ((sheet_step s q i).words ++ (x.words ++ words)) p t
      go zero k = taken_first q i (on ++ numbers) (x.words ++ words) t l
      go (suc p) k = taken_later q i (on ++ numbers) (x.words ++ words) t p (ih numbers words p t l (le_of_suc-le-suc k))

  ticks_beside : (is : List ℕ) (q : State) → Beside is q (sheet_ticks s is q)
  ticks_beside =
      ticks_all (k_of s) (sheet_step s) Beside (λ q. none [] q 0) (λ i is q _. none (i ∷ is) q _) (λ i is q _ ih. beside_more i is q _ ih)
    where
      none : (is : List ℕ) (q : State) (e : ℕ) → Beside is q (stops e q)
      none is q e = unfold Beside stops in (λ _ _ _ _ _ h. absurd (not-suc-le-zero h))

pub numbers_taken_lem : NumbersTaken
unfolding NumbersTaken sheet_run with_numbers overwritten ran stops Beside
numbers_taken_lem s q inputs out numbers p t l =
    let o = sheet_ticks s inputs q in
    let ns = sheet_numbers s (take o.done inputs) q in
    run_all (k_of s) (sheet_step s) (sheet_refusal s) (state_ok s q) (output_short inputs out || numbers_short inputs numbers) q inputs out
    (λ r. p < r.done → AsTaken (overwritten (sheet_numbers s (take r.done inputs) q) numbers) r.out p t)
    (λ _ h. absurd (not-suc-le-zero h)) (ticks_beside s inputs q (drop (length ns) numbers) (drop (length o.words) out) p t l)
