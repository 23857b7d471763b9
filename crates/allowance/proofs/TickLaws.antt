-- What a turn judges; a tick of a table of sound layout leaves a state that is not refused 14. Assumes nothing.
use mathlib.Core.Path.{◌≡◌, refl, sym, ap, ◌∙◌, subst}
use mathlib.Core.Logic.{⊎_elim}
use mathlib.Core.Bool.{Bool, true, false, not, ◌&&◌, cond}
use mathlib.Core.List.{List, [], ◌∷◌}
use Prim.Native.Nat.{ℕ, ◌-◌, ◌^◌, ◌≤◌, ◌<◌}
use native.Mathlib.Nat.{le_refl}
use native.Mathlib.Omega.{arith}
use lib.Dec.{T, eqb, ltb, eqb→eq, ltb→lt, lt→ltb}
use lib.ListN.{length}
use borrow.Author.Tests.{leb-false, eq-eqb}
use Rattle.sets.specs.Sets.{has, every}
use Rattle.sets.proofs.Tests.{is_true, of_true, of_false, and_l, and_r, and_i, or_e, or_r}
use Rattle.sets.proofs.Facts.{every_e, some_in_i}
use Rattle.meaning.specs.Lists.{refused_if, first_refusal}
use Rattle.meaning.specs.Ages.{next_ages, ages_ok}
use Rattle.meaning.specs.Run.{State, reading, is_fresh, readings_ok, next_readings, next_state, stops, input_foreign, tick_refusal}
use Rattle.meaning.specs.Table.{k_in, b_in, source_in, delay_in, mask_in, timers_in, cells_in, cell_word, table_ok}
use Rattle.meaning.specs.TableRun.{table_timers_ok, table_state_ok, cell_of, state_after_cell, is_stale, table_step, table_ticks}
use Rattle.meaning.specs.Stations.{turn_refusal}
use Rattle.meaning.proofs.ListLaws.{row_from-length}
use Rattle.meaning.proofs.RefusalLaws.{first_met, first_passed, first_alone, none_met, unmet, test_passed_e, test_passed_i, test_failed}
use Rattle.meaning.proofs.ReadingLaws.{next_reading, readings_ok_running, readings_ok_zero, readings_ok_i}
use Rattle.meaning.proofs.AgeLaws.{ages_next}
use Rattle.meaning.proofs.RunLaws.{tick_done, ticks_refused}
use Rattle.meaning.proofs.TableLaws.{cell_lt}
use Rattle.meaning.proofs.LayoutLaws.{b_pos, next_pos, next_lt}

foreign_lt : (k i : ℕ) → input_foreign k i ≡ false → i < 2 ^ k
unfolding input_foreign
foreign_lt k i e = leb-false (2 ^ k) i e

module _ (w : List ℕ) where
  -- five words for each tick
  pub five_words_lem : (q : State) (i : ℕ) → length (table_step w q i).words ≡ 5
  unfolding table_step
  five_words_lem q i = row_from-length (cell_word w q.at (cell_of w q i)) 1 5

  -- ---- what a turn judges

  module _ (q : State) (i : ℕ) where
    -- a turn that serves a tick
    pub turn_passes : turn_refusal w q i ≡ 0 → T (table_state_ok w q) × (tick_refusal (k_in w) (table_step w) q i ≡ 0)
    unfolding turn_refusal
    turn_passes h =
        let e = tick_refusal (k_in w) (table_step w) q i in
        let n = none_met (refused_if (not (table_state_ok w q)) 14) (e ∷ []) h in
        (test_passed_e (table_state_ok w q) 14 (λ z. omega arith) n.0, sym (first_alone e) ∙ n.1)

    -- in a state that is not refused the tick decides
    turn_ticks : T (table_state_ok w q) → turn_refusal w q i ≡ tick_refusal (k_in w) (table_step w) q i
    unfolding turn_refusal
    turn_ticks ok = first_passed (refused_if (not (table_state_ok w q)) 14) _ (test_passed_i (table_state_ok w q) 14 ok) ∙ first_alone _

    -- a turn that stops a station in such a state: a run's first tick is refused by the same number
    pub turn-stops : (is : List ℕ) → T (table_state_ok w q) → (turn_refusal w q i ≡ 0 → ⊥)
        → table_ticks w (i ∷ is) q ≡ stops (turn_refusal w q i) q
    turn-stops is ok d =
        let e = turn_ticks ok in
        ticks_refused (k_in w) (table_step w) i is q (λ z. d (e ∙ z)) ∙ ap (λ (x : ℕ). stops x q) (sym e)

    pub turn_bad_state : table_state_ok w q ≡ false → turn_refusal w q i ≡ 14
    unfolding turn_refusal
    turn_bad_state e =
        let t = tick_refusal (k_in w) (table_step w) q i in
        ap (λ (x : ℕ). first_refusal (x ∷ t ∷ [])) (test_failed (table_state_ok w q) 14 e) ∙ first_met 14 (t ∷ []) (λ z. omega arith)

  -- ---- a tick of a table of sound layout leaves a state that is not refused 14

  module _ (table : T (table_ok w)) where
    -- a state that is not refused is in a block that is there, and no reading is above its delay
    record Stands (q : State) : Type 0 where
      low : q.at < b_in w
      small : (t : ℕ) → t < 64 → reading q.readings t ≤ delay_in w t

    stands : (q : State) → T (table_state_ok w q) → Stands q
    unfolding table_state_ok table_timers_ok is_fresh
    stands q h =
        ⊎_elim first other
        (or_e (eqb q.at 0 && every 64 zero) (ltb 0 q.at && ltb q.at (b_in w) && right)
        (and_l (table_timers_ok w q) (ages_ok (mask_in w q.at) q.ages) h))
      where
        zero : ℕ → Bool
        zero t = eqb (reading q.readings t) 0

        right : Bool
        right = readings_ok (timers_in w q.at) (delay_in w) q.readings

        first : T (eqb q.at 0 && every 64 zero) → Stands q
        first k =
            record {
              low = omega (arith, eqb→eq q.at 0 (and_l (eqb q.at 0) (every 64 zero) k), b_pos w table);
              small = λ t l.
                  let z = every_e 64 zero (and_r (eqb q.at 0) (every 64 zero) k) t l in
                  omega (arith, eqb→eq (reading q.readings t) 0 z);
            }

        other : T (ltb 0 q.at && ltb q.at (b_in w) && right) → Stands q
        other k =
            record {
              low =
                  ltb→lt q.at (b_in w)
                  (and_r (ltb 0 q.at) (ltb q.at (b_in w)) (and_l (ltb 0 q.at && ltb q.at (b_in w)) right k));
              small = λ t l. within t l (has (timers_in w q.at) t) refl;
            }
          where
            ok : T (readings_ok (timers_in w q.at) (delay_in w) q.readings)
            ok = and_r (ltb 0 q.at && ltb q.at (b_in w)) right k

            within : (t : ℕ) → t < 64 → (b : Bool) → has (timers_in w q.at) t ≡ b → reading q.readings t ≤ delay_in w t
            within t l true e = (readings_ok_running (timers_in w q.at) (delay_in w) q.readings ok t l (of_true e)).1
            within t l false e = omega (arith, readings_ok_zero (timers_in w q.at) (delay_in w) q.readings ok t l e)

    module _ (q : State) (i : ℕ) (fine : turn_refusal w q i ≡ 0) where
      abbrev cell : ℕ
      cell = cell_of w q i

      -- the next block, the modes entered, the readings after the tick
      abbrev next : ℕ
      next = cell_word w q.at cell 0

      abbrev entered : ℕ
      entered = cell_word w q.at cell 1

      abbrev after : List ℕ
      after = next_readings (timers_in w next) entered (source_in w) (delay_in w) q.readings

      before : Stands q
      before = stands q (turn_passes q i fine).0

      done : (input_foreign (k_in w) i ≡ false) × ((table_step w q i).refusal ≡ 0)
      done = tick_done (k_in w) (table_step w) q i (turn_passes q i fine).1

      there : cell < cells_in w q.at
      there = cell_lt w q i (foreign_lt (k_in w) i done.0)

      timely : (t : ℕ) → t < 64 → T (has (timers_in w next) t) → reading after t ≡ 0 → ⊥
      unfolding table_step state_after_cell next_state is_stale
      timely t l on z =
          of_false (unmet (is_stale w (state_after_cell w q cell)) 15 (λ e. omega arith) done.1)
          (some_in_i 64 (timers_in w next) (λ u. eqb (reading after u) 0) t l on (of_true (eq-eqb (reading after t) 0 z)))

      value : (t : ℕ) → t < 64 → (b : Bool) → has (timers_in w next) t ≡ b
          → reading after t ≡ cond b (cond (has entered (source_in w t)) (delay_in w t) (reading q.readings t - 1)) 0
      value t l b e =
          next_reading (timers_in w next) entered (source_in w) (delay_in w) q.readings t l
          ∙ ap (λ (x : Bool). cond x (cond (has entered (source_in w t)) (delay_in w t) (reading q.readings t - 1)) 0) e

      small : (t : ℕ) → t < 64 → (b : Bool) → cond b (delay_in w t) (reading q.readings t - 1) ≤ delay_in w t
      small t l true = le_refl (delay_in w t)
      small t l false = let g : reading q.readings t - 1 ≤ delay_in w t = omega (arith, before.small t l) in g

      right : T (readings_ok (timers_in w next) (delay_in w) after)
      right =
          readings_ok_i (timers_in w next) (delay_in w) after
          (λ t l on.
          let d = timely t l on in
          let v = value t l true (is_true (has (timers_in w next) t) on) in
          (omega arith, subst (λ (x : ℕ). x ≤ delay_in w t) (sym v) (small t l (has entered (source_in w t)))))
          (λ t l off. value t l false off)

      kept : T (table_state_ok w (table_step w q i).state)
      unfolding table_state_ok table_timers_ok table_step state_after_cell next_state
      kept =
          and_i (table_timers_ok w (state_after_cell w q cell)) (ages_ok (mask_in w next) (next_ages (mask_in w next) entered q.ages))
          (or_r (is_fresh (state_after_cell w q cell)) (ltb 0 next && ltb next (b_in w) && readings_ok (timers_in w next) (delay_in w) after)
          (and_i (ltb 0 next && ltb next (b_in w)) (readings_ok (timers_in w next) (delay_in w) after)
          (and_i (ltb 0 next) (ltb next (b_in w)) (lt→ltb 0 next (next_pos w table q.at before.low cell there))
          (lt→ltb next (b_in w) (next_lt w table q.at before.low cell there)))
          right))
          (ages_next (mask_in w next) entered q.ages)

  pub tick_keeps : T (table_ok w) → (q : State) (i : ℕ) → turn_refusal w q i ≡ 0 → T (table_state_ok w (table_step w q i).state)
  tick_keeps table q i fine = kept table q i fine
