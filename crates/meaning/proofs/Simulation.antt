-- A tick of a faithful table is a tick of its sheet; so are the ticks of a list. Assumes nothing.
use mathlib.Core.Path.{◌≡◌, refl, sym, ap, ap₂, ◌∙◌, subst}
use mathlib.Core.Bool.{Bool, true, false, cond}
use mathlib.Core.List.{List, [], ◌∷◌, ◌++◌}
use Prim.Native.Nat.{ℕ, suc, ◌+◌, ◌*◌, ◌/◌, ◌%◌, ◌^◌, ◌<◌}
use native.Mathlib.Nat.{suc-ne-zero, zero-lt-suc}
use native.Mathlib.Omega.{arith}
use lib.Dec.{T, eqb, ltb, eqb→eq, leb-suc-suc}
use lib.Arith.{digits_div, digits_mod}
use lib.ListN.{length, get_or}
use borrow.Author.Tests.{leb-false, lt-ltb}
use Rattle.sets.specs.Sets.{has, members, some_in}
use Rattle.sets.proofs.Tests.{is_false}
use Rattle.sets.proofs.Facts.{some_in_e}
use Rattle.meaning.specs.Lists.{row_from, refused_if}
use Rattle.meaning.specs.Sheet.{k_of, source}
use Rattle.meaning.specs.Reaction.{TickSets, delay, running}
use Rattle.meaning.specs.Tick.{Tick, tick, five_words}
use Rattle.meaning.specs.Ages.{next_ages}
use Rattle.meaning.specs.Run.{State, reading, due_timers, next_readings, next_state, Step, Ticks, stops, tick_then, input_foreign, tick_refusal, ticks}
use Rattle.meaning.specs.SheetRun.{tick_from, state_after, sheet_step, sheet_ticks}
use Rattle.meaning.specs.Table.{k_in, b_in, source_in, delay_in, mask_in, timers_in, cells_in, cell_word, table_ok}
use Rattle.meaning.specs.TableRun.{due_number, cell_of, state_after_cell, is_stale, table_step, table_ticks}
use Rattle.meaning.specs.Walk.{due_set, cell_tick}
use Rattle.meaning.specs.Faithful.{faithful}
use Rattle.meaning.specs.WholeList.{legal}
use Rattle.meaning.proofs.SheetLaws.{Sound}
use Rattle.meaning.proofs.TickLaws.{running_e}
use Rattle.meaning.proofs.ReadingLaws.{Right, right_next, next_readings_ext}
use Rattle.meaning.proofs.RunLaws.{tick_known, ticks_foreign, ticks_go}
use Rattle.meaning.proofs.TableLaws.{due_set-due_timers, cell_lt}
use Rattle.meaning.proofs.LayoutLaws.{next_lt}
use Rattle.meaning.proofs.FaithfulLaws.{CellTrue, k_same, block-true, source_same, delay_same}

module _ (s : List ℕ) (sd : Sound s) (w : List ℕ) (ok : T (table_ok w)) (f : T (faithful s w)) where
  -- the table's state q stands for the sheet's state p
  pub record Stands (q p : State) : Type 0 where
    pub low : q.at < b_in w
    pub same : mask_in w q.at ≡ p.at
    pub readings : q.readings ≡ p.readings
    pub ages : q.ages ≡ p.ages

  -- ---- one tick

  module _ (q p : State) (st : Stands q p) where
    -- both have the same running timers and the same due ones
    pub timers_stand : timers_in w q.at ≡ running s p.at
    timers_stand = (block-true s w f q.at st.low).timers ∙ ap (running s) st.same

    due_stand : due_timers (timers_in w q.at) q.readings ≡ due_timers (running s p.at) p.readings
    due_stand = ap₂ due_timers timers_stand st.readings

    module _ (i : ℕ) (known : input_foreign (k_of s) i ≡ false) where
      abbrev timers : ℕ
      timers = running s p.at

      abbrev d : ℕ
      d = due_number (members 64 timers) (due_timers timers p.readings)

      abbrev c : ℕ
      c = cell_of w q i

      below : i < 2 ^ k_of s
      unfolding input_foreign
      below = leb-false (2 ^ k_of s) i known

      cell_is : c ≡ d * 2 ^ k_of s + i
      unfolding cell_of
      cell_is =
          ap₂ (λ (x y : ℕ). due_number (members 64 x) y * 2 ^ k_in w + i) timers_stand due_stand
          ∙ ap (λ (k : ℕ). d * 2 ^ k + i) (k_same s w f)

      there : c < cells_in w q.at
      there = cell_lt w q i (subst (λ (k : ℕ). i < 2 ^ k) (sym (k_same s w f)) below)

      -- the chosen cell is the sheet's tick
      cell_tick_lem : cell_tick s (mask_in w q.at) c ≡ tick_from s p i
      unfolding cell_tick tick_from
      cell_tick_lem =
          ap₂ (λ (x k : ℕ). tick s x (due_set (members 64 (running s x)) (k / 2 ^ k_of s)) (k % 2 ^ k_of s)) st.same cell_is
          ∙ ap₂ (λ (e j : ℕ). tick s p.at e j)
          (ap (due_set (members 64 timers)) (digits_div d below) ∙ due_set-due_timers timers p.readings)
          (digits_mod d below)

      true_cell : CellTrue s w q.at c
      true_cell = (block-true s w f q.at st.low).cells c there

      abbrev z : TickSets
      z = (tick_from s p i).sets

      pub tick_good : (tick_from s p i).refusal ≡ 0
      tick_good = ap (λ (o : Tick). o.refusal) (sym cell_tick_lem) ∙ true_cell.unrefused

      words_same : row_from 1 5 (cell_word w q.at c) ≡ five_words z
      words_same = true_cell.words ∙ ap (λ (o : Tick). five_words o.sets) cell_tick_lem

      entered_same : cell_word w q.at c 1 ≡ z.entered
      unfolding row_from five_words
      entered_same = ap (λ (l : List ℕ). get_or l 0 0) words_same

      abbrev next : ℕ
      next = cell_word w q.at c 0

      next_low : next < b_in w
      next_low = next_lt w ok q.at st.low c there

      next_same : mask_in w next ≡ z.modes
      next_same = true_cell.next ∙ ap (λ (o : Tick). o.sets.modes) cell_tick_lem

      next_timers_lem : timers_in w next ≡ running s z.modes
      next_timers_lem = (block-true s w f next next_low).timers ∙ ap (running s) next_same

      next_readings_lem : next_readings (timers_in w next) (cell_word w q.at c 1) (source_in w) (delay_in w) q.readings
          ≡ next_readings (running s z.modes) z.entered (source s) (delay s) p.readings
      next_readings_lem =
          ap₂ (λ (x y : ℕ). next_readings x y (source_in w) (delay_in w) q.readings) next_timers_lem entered_same
          ∙ ap (next_readings (running s z.modes) z.entered (source_in w) (delay_in w)) st.readings
          ∙ next_readings_ext (running s z.modes) z.entered (source_in w) (source s) (delay_in w) (delay s) p.readings
          (λ u h. let r = running_e s z.modes u h in (source_same s w f sd u r.small r.timer, delay_same s w f sd u r.small r.timer))

      next_ages_lem : next_ages (mask_in w next) (cell_word w q.at c 1) q.ages ≡ next_ages z.modes z.entered p.ages
      next_ages_lem =
          ap₂ (λ (x y : ℕ). next_ages x y q.ages) next_same entered_same ∙ ap (next_ages z.modes z.entered) st.ages

      pub stands_next : Stands (table_step w q i).state (sheet_step s p i).state
      unfolding table_step sheet_step state_after_cell state_after next_state
      stands_next = record { low = next_low; same = next_same; readings = next_readings_lem; ages = next_ages_lem }

      -- no timer of the next block is without a reading
      not-stale : Right s p → is_stale w (state_after_cell w q c) ≡ false
      unfolding is_stale Right state_after_cell state_after next_state
      not-stale right = is_false (some_in 64 (timers_in w next) (λ u. eqb (reading after u) 0)) none
        where
          after : List ℕ
          after = next_readings (timers_in w next) (cell_word w q.at c 1) (source_in w) (delay_in w) q.readings

          none : T (some_in 64 (timers_in w next) (λ u. eqb (reading after u) 0)) → ⊥
          none h =
              let r = some_in_e 64 (timers_in w next) (λ u. eqb (reading after u) 0) h in
              let on : T (has (running s z.modes) r.0) = subst (λ (x : ℕ). T (has x r.0)) next_timers_lem r.2 in
              omega (arith, (right_next s sd p i right tick_good r.0 on).0, ap (λ (l : List ℕ). reading l r.0) next_readings_lem, eqb→eq (reading after r.0) 0 r.3)

      -- neither tick is refused, and their words are the same
      pub table_good : Right s p → tick_refusal (k_in w) (table_step w) q i ≡ 0
      unfolding table_step refused_if
      table_good right =
          tick_known (k_in w) (table_step w) q i (subst (λ (k : ℕ). input_foreign k i ≡ false) (sym (k_same s w f)) known)
          ∙ ap (λ (b : Bool). cond b 15 0) (not-stale right)

      pub sheet_good : tick_refusal (k_of s) (sheet_step s) p i ≡ 0
      unfolding sheet_step
      sheet_good = tick_known (k_of s) (sheet_step s) p i known ∙ tick_good

      pub step_words : (table_step w q i).words ≡ (sheet_step s p i).words
      unfolding table_step sheet_step
      step_words = words_same

      pub right_step : Right s p → Right s (sheet_step s p i).state
      unfolding sheet_step
      right_step right = right_next s sd p i right tick_good

  -- ---- the ticks of a list

  -- the table's ticks R on a list, from q, and the sheet's ticks S on its done sets ds
  pub record Agree (q : State) (is ds : List ℕ) (R S : Ticks) : Type 0 where
    pub unrefused : S.refusal ≡ 0
    pub done : R.done ≡ length ds
    pub words : R.words ≡ S.words
    pub refusal : R.refusal ≡ cond (ltb (length ds) (length is)) 13 0
    pub stands : Stands R.state S.state
    pub right : Right s S.state
    pub still : length ds ≡ 0 → R.state ≡ q

  -- one tick before two lists of ticks that agree
  agree_then : (q q' : State) (i : ℕ) (is ds : List ℕ) (a b : Step) (R S : Ticks) → a.words ≡ b.words → Agree q' is ds R S
      → Agree q (i ∷ is) (i ∷ ds) (tick_then a R) (tick_then b S)
  unfolding tick_then
  agree_then q q' i is ds a b R S e h =
      record {
        unrefused = h.unrefused;
        done = ap suc h.done;
        words = ap₂ (λ (x y : List ℕ). x ++ y) e h.words;
        refusal = h.refusal ∙ ap (λ (c : Bool). cond c 13 0) (sym (leb-suc-suc (suc (length ds)) (length is)));
        stands = h.stands;
        right = h.right;
        still = λ z. absurd (suc-ne-zero (length ds) z);
      }

  pub ticks_agree : (is : List ℕ) (q p : State) → Stands q p → Right s p
      → Agree q is (legal (k_of s) is) (table_ticks w is q) (sheet_ticks s (legal (k_of s) is) p)
  unfolding legal
  ticks_agree [] q p st r =
      unfold ticks stops in record { unrefused = refl; done = refl; words = refl; refusal = refl; stands = st; right = r; still = λ e. refl }
  ticks_agree (i ∷ is) q p st r = go (input_foreign (k_of s) i) refl (ticks_agree is (table_step w q i).state (sheet_step s p i).state)
    where
      q' : State
      q' = (table_step w q i).state

      p' : State
      p' = (sheet_step s p i).state

      ds : List ℕ
      ds = legal (k_of s) is

      go : (b : Bool) → input_foreign (k_of s) i ≡ b
          → (Stands q' p' → Right s p' → Agree q' is ds (table_ticks w is q') (sheet_ticks s ds p'))
          → Agree q (i ∷ is) (cond b [] (i ∷ ds)) (table_ticks w (i ∷ is) q) (sheet_ticks s (cond b [] (i ∷ ds)) p)
      go true e ih =
          subst (λ (R : Ticks). Agree q (i ∷ is) [] R (sheet_ticks s [] p))
          (sym (ticks_foreign (k_in w) (table_step w) i is q (subst (λ (k : ℕ). input_foreign k i ≡ true) (sym (k_same s w f)) e)))
          (unfold ticks stops in
          record {
            unrefused = refl;
            done = refl;
            words = refl;
            refusal = ap (λ (b : Bool). cond b 13 0) (sym (lt-ltb 0 (suc (length is)) (zero-lt-suc (length is))));
            stands = st;
            right = r;
            still = λ k. refl;
          })
      go false e ih =
          subst (λ (R : Ticks). Agree q (i ∷ is) (i ∷ ds) R (sheet_ticks s (i ∷ ds) p)) (sym (ticks_go (k_in w) (table_step w) i is q (table_good q p st i e r)))
          (subst (λ (S : Ticks). Agree q (i ∷ is) (i ∷ ds) (tick_then (table_step w q i) (table_ticks w is q')) S)
          (sym (ticks_go (k_of s) (sheet_step s) i ds p (sheet_good q p st i e)))
          (agree_then q q' i is ds (table_step w q i) (sheet_step s p i) (table_ticks w is q') (sheet_ticks s ds p') (step_words q p st i e)
          (ih (stands_next q p st i e) (right_step q p st i e r))))
