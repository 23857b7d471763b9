-- What is served from power-on, done tick by done tick. Assumes nothing.
use mathlib.Core.Path.{◌≡◌, refl, sym, ap, ◌∙◌, subst}
use mathlib.Core.List.{List, [], ◌∷◌, ◌++◌, map, flatten}
use Prim.Native.Nat.{ℕ, zero, suc, ◌*◌, ◌≤◌, zero-le, ◌<◌}
use native.Mathlib.Omega.{arith}
use lib.Dec.{T}
use lib.ListN.{length, get_or, take, drop, take-append-drop, length-append}
use lib.Seq.{length-take-le, take-suc, split_at, take-append-add, take_at, drop_at}
use Rattle.meaning.specs.Sheet.{k_of}
use Rattle.meaning.specs.Hierarchy.{consistent}
use Rattle.meaning.specs.Tick.{five_words}
use Rattle.meaning.specs.Run.{State, power_on, Ticks, stops, tick_then, tick_refusal, ticks, Run}
use Rattle.meaning.specs.SheetRun.{tick_from, state_after, sheet_step, sheet_ticks}
use Rattle.meaning.specs.WholeList.{Call, done_sets, runs_from, all_done, done_set, sheet_state, sheet_tick, run_of, state_before, tick_words, done_by, RunRight, Served}
use Rattle.meaning.proofs.RunLaws.{ticks_then, tick_done, ticks_go, first_done, ticks_split, front_done, done_all, words_five}
use Rattle.meaning.proofs.SheetTicksLaws.{five_long}
use Rattle.meaning.proofs.ServedLaws.{run_from, state_from, sheet_by, RunRightFrom, ServedFrom}

-- ---- what the first calls of a list give is the front part of what all give

module _ (f : Call → List ℕ) where
  front_of : (n : ℕ) (cs : List Call) → take (length (flatten (map f (take n cs)))) (flatten (map f cs)) ≡ flatten (map f (take n cs))
  unfolding flatten
  front_of zero cs = refl
  front_of (suc n) [] = refl
  front_of (suc n) (c ∷ cs) =
      rw (length-append (f c) (flatten (map f (take n cs))), take-append-add (f c) (flatten (map f cs)) (length (flatten (map f (take n cs)))))
      (ap (λ (l : List ℕ). f c ++ l) (front_of n cs))

  pub front_le : (n : ℕ) (cs : List Call) → length (flatten (map f (take n cs))) ≤ length (flatten (map f cs))
  unfolding flatten
  front_le zero cs = zero-le
  front_le (suc n) [] = zero-le
  front_le (suc n) (c ∷ cs) =
      omega (arith, front_le n cs, length-append (f c) (flatten (map f (take n cs))), length-append (f c) (flatten (map f cs)))

module _ (s w : List ℕ) (cs : List Call) (h : ServedFrom s w power_on power_on cs) where
  abbrev rs : List Run
  rs = runs_from w power_on cs

  abbrev ds : List ℕ
  ds = all_done s cs

  -- ---- the sheet's ticks on the first i done sets, and the tick after them

  abbrev first : ℕ → Ticks
  first i = sheet_ticks s (take i ds) power_on

  first_good : (i : ℕ) → (first i).refusal ≡ 0
  first_good i =
      front_done (k_of s) (sheet_step s) (take i ds) (drop i ds) power_on
      (subst (λ (l : List ℕ). (sheet_ticks s l power_on).refusal ≡ 0) (sym (take-append-drop i ds)) h.unrefused)

  module _ (i : ℕ) (l : i < length ds) where
    abbrev q : State
    q = (first i).state

    abbrev x : ℕ
    x = get_or ds i 0

    abbrev later : Ticks
    later = sheet_ticks s (x ∷ drop (suc i) ds) q

    whole : sheet_ticks s ds power_on ≡ ticks_then (first i) later
    whole =
        ap (λ (a : List ℕ). sheet_ticks s a power_on) (split_at ds i 0 l)
        ∙ ticks_split (k_of s) (sheet_step s) (take i ds) (x ∷ drop (suc i) ds) power_on (first_good i)

    later_good : later.refusal ≡ 0
    unfolding ticks_then
    later_good = sym (ap (λ (o : Ticks). o.refusal) whole) ∙ h.unrefused

    step_good : tick_refusal (k_of s) (sheet_step s) q x ≡ 0
    step_good = (first_done (k_of s) (sheet_step s) x (drop (suc i) ds) q later_good).0

    tick_good : (tick_from s q x).refusal ≡ 0
    unfolding sheet_step
    tick_good = (tick_done (k_of s) (sheet_step s) q x step_good).1

    first_long : length (first i).words ≡ 5 * i
    first_long =
        words_five (k_of s) (sheet_step s) (five_long s) (take i ds) power_on
        ∙ ap (λ (n : ℕ). 5 * n) (done_all (k_of s) (sheet_step s) (take i ds) power_on (first_good i) ∙ length-take-le i ds (omega arith))

    words_at_lem : take 5 (drop (5 * i) (sheet_ticks s ds power_on).words) ≡ five_words (tick_from s q x).sets
    unfolding ticks_then tick_then sheet_step
    words_at_lem =
        ap (λ (o : Ticks). take 5 (drop (5 * i) o.words)) whole
        ∙ ap (take 5) (drop_at (first i).words later.words (5 * i) first_long)
        ∙ ap (λ (o : Ticks). take 5 o.words) (ticks_go (k_of s) (sheet_step s) x (drop (suc i) ds) q step_good)
        ∙ take_at (sheet_step s q x).words _ 5 (five_long s q x)

    state_next : (first (suc i)).state ≡ state_after s q (tick_from s q x).sets
    unfolding ticks_then tick_then sheet_step
    state_next =
        ap (λ (a : List ℕ). (sheet_ticks s a power_on).state) (take-suc ds i 0 l)
        ∙ ap (λ (o : Ticks). o.state) (ticks_split (k_of s) (sheet_step s) (take i ds) (x ∷ []) power_on (first_good i))
        ∙ ap (λ (o : Ticks). o.state) (ticks_go (k_of s) (sheet_step s) x [] q step_good)
        ∙ (unfold ticks stops in refl)

  pub sheet_state_lem : (i : ℕ) → i ≤ length ds → (first i).state ≡ sheet_state s cs i
  unfolding sheet_state done_set
  sheet_state_lem zero l = unfold ticks stops in refl
  sheet_state_lem (suc i) l =
      state_next i l ∙ ap (λ (p : State). state_after s p (tick_from s p (get_or ds i 0)).sets) (sheet_state_lem i (omega arith))

  -- ---- run by run

  -- the sheet's state after runs 0 to j
  by_is : (j : ℕ) → sheet_by s w power_on power_on cs j ≡ sheet_state s cs (done_by s cs j)
  unfolding sheet_by done_by all_done
  by_is j =
      ap (λ (l : List ℕ). (sheet_ticks s l power_on).state) (sym (front_of (done_sets (k_of s)) (suc j) cs))
      ∙ sheet_state_lem (done_by s cs j) (front_le (done_sets (k_of s)) (suc j) cs)

  before_is : (j : ℕ) → state_from s w power_on power_on cs j ≡ state_before rs j
  unfolding state_from state_before run_from run_of
  before_is zero = refl
  before_is (suc j) = refl

  run_right : (j : ℕ) (c : Call) → RunRightFrom s w power_on power_on cs j c → RunRight s w cs rs j c
  unfolding run_from run_of
  run_right j c r =
      record {
        refusal = r.refusal;
        done = r.done;
        none = λ z. r.none z ∙ before_is j;
        readings = λ l. r.readings l ∙ ap (λ (p : State). p.readings) (by_is j);
        ages = λ l. r.ages l ∙ ap (λ (p : State). p.ages) (by_is j);
        block = r.block;
        mask = λ l. r.mask l ∙ ap (λ (p : State). p.at) (by_is j);
      }

  pub served_each : Served s w cs (runs_from w power_on cs)
  unfolding sheet_tick tick_words done_set
  served_each =
      record {
        unrefused = λ i l. subst (λ (p : State). (tick_from s p (get_or ds i 0)).refusal ≡ 0) (sheet_state_lem i (omega arith)) (tick_good i l);
        words = λ i l. ap (λ (v : List ℕ). take 5 (drop (5 * i) v)) h.words ∙ words_at_lem i l
            ∙ ap (λ (p : State). five_words (tick_from s p (get_or ds i 0)).sets) (sheet_state_lem i (omega arith));
        consistently = λ i l. subst (λ (p : State). T (consistent s p.at)) (sheet_state_lem (suc i) l) (h.consistently i l);
        runs = λ j l. run_right j _ (h.runs j l);
      }
