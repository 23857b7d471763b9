-- Nobody overstays: on the ticks of a sheet, and on the runs of an accepted table, which report the sheet's ticks. Assumes nothing.
use mathlib.Core.Path.{◌≡◌, refl, sym, ap, ap₂, ◌∙◌, subst}
use mathlib.Core.Logic.{inl}
use mathlib.Core.Bool.{Bool, cond}
use mathlib.Core.List.{List, [], ◌∷◌, map, flatten}
use Prim.Native.Nat.{ℕ, suc, ◌*◌, ◌+◌, ◌≤◌, ◌<◌}
use native.Mathlib.Nat.{add-zero}
use native.Mathlib.Omega.{arith}
use lib.Dec.{T}
use lib.ListN.{length, get_or, take, drop, take-append-drop}
use lib.Seq.{get_or-take, get_or-drop}
use Rattle.meaning.specs.Sheet.{k_of}
use Rattle.meaning.specs.Tick.{five_words}
use Rattle.meaning.specs.Run.{State, power_on, entered_in, exited_in, Step, ticks, stops, Run}
use Rattle.meaning.specs.SheetRun.{sheet_step, sheet_ticks, sheet_at}
use Rattle.meaning.specs.Table.{table_ok}
use Rattle.meaning.specs.WholeList.{Call, legal, done_words, all_done, done_set, sheet_state, sheet_tick, done_by, tick_words, Served}
use Rattle.meaning.specs.Faithful.{faithful}
use Rattle.meaning.specs.Acceptance.{Accepted}
use Rattle.meaning.specs.Timeouts.{SheetKeepsTimeouts, mask_after, RunsKeepTimeouts}
use Rattle.meaning.proofs.SheetLaws.{Sound, sound}
use Rattle.meaning.proofs.Consistency.{keeps_consistent_lem}
use Rattle.meaning.proofs.ReadingLaws.{right_fresh}
use Rattle.meaning.proofs.RunLaws.{tick_done, first_done, front_done}
use Rattle.meaning.proofs.SheetTicksLaws.{nth_unrefused, nth_next, nth_entered, nth_exited}
use Rattle.meaning.proofs.TimeoutLaws.{Course, keeps_timeouts}
use Rattle.meaning.proofs.LayoutLaws.{b_pos, mask_first}
use Rattle.meaning.proofs.AcceptanceLaws.{accepted_e}
use Rattle.meaning.proofs.Simulation.{ticks_agree}
use Rattle.meaning.proofs.ServedLaws.{ServedFrom, served_from_power_on}
use Rattle.meaning.proofs.WholeListLaws.{sheet_state_lem, front_le}
use Rattle.meaning.proofs.StateLaws.{state_good}

-- ---- a sheet

pub sheet_keeps_timeouts_lem : SheetKeepsTimeouts
unfolding SheetKeepsTimeouts
sheet_keeps_timeouts_lem s h q ok inputs =
    keeps_timeouts s sd (sheet_ticks s inputs q).done (sheet_at s inputs q) (λ n. get_or inputs n 0) course (sheet_ticks s inputs q).words _
    (nth_entered s inputs q) (nth_exited s inputs q) (λ n l. refl)
  where
    sd : Sound s
    sd = sound s h

    course : Course s (sheet_ticks s inputs q).done (sheet_at s inputs q) (λ n. get_or inputs n 0)
    course =
        let good = state_good s sd q ok in
        record {
          right = unfold ticks stops in good.right;
          steady = unfold ticks stops in good.steady;
          unrefused = nth_unrefused s inputs q;
          next = nth_next s inputs q;
        }

-- ---- the runs of an accepted table

-- where no tick is refused, every set is legal
legal_all : (k : ℕ) (step : State → ℕ → Step) (is : List ℕ) (q : State) → (ticks k step is q).refusal ≡ 0 → legal k is ≡ is
unfolding legal
legal_all k step [] q h = refl
legal_all k step (i ∷ is) q h =
    let f = first_done k step i is q h in
    ap₂ (λ (b : Bool) (l : List ℕ). cond b [] (i ∷ l)) (tick_done k step q i f.0).0 (legal_all k step is (step q i).state f.1)

-- a word of the five of tick n
tick_word : (words : List ℕ) (n j : ℕ) → j < 5 → get_or (take 5 (drop (5 * n) words)) j 0 ≡ get_or words (5 * n + j) 0
tick_word words n j l = get_or-take 5 (drop (5 * n) words) j 0 l ∙ get_or-drop (5 * n) words j 0

module _ (s w : List ℕ) (a : Accepted s w) (cs : List Call) where
  abbrev ds : List ℕ
  ds = all_done s cs

  ok : T (table_ok w)
  ok = (accepted_e s w a).1

  f : T (faithful s w)
  f = (accepted_e s w a).2

  sd : Sound s
  sd = sound s (accepted_e s w a).0

  from : ServedFrom s w power_on power_on cs
  from = served_from_power_on s sd (keeps_consistent_lem s sd) w ok f cs

  -- the table's block after n ticks has the sheet's mode set as its mask
  mask_after_lem : (n : ℕ) → n ≤ length ds → mask_after s w cs n ≡ (sheet_state s cs n).at
  unfolding mask_after
  mask_after_lem n l =
      (ticks_agree s sd w ok f (take n ds) power_on power_on
      (unfold power_on in (record { low = b_pos w ok; same = mask_first w ok; readings = refl; ages = refl }))
      (right_fresh s power_on (unfold power_on in refl))).stands.same
      ∙ ap (λ (is : List ℕ). (sheet_ticks s is power_on).state.at) (legal_all (k_of s) (sheet_step s) (take n ds) power_on unrefused)
      ∙ ap (λ (p : State). p.at) (sheet_state_lem s w cs from n l)
    where
      unrefused : (sheet_ticks s (take n ds) power_on).refusal ≡ 0
      unrefused =
          front_done (k_of s) (sheet_step s) (take n ds) (drop n ds) power_on
          (subst (λ (is : List ℕ). (sheet_ticks s is power_on).refusal ≡ 0) (sym (take-append-drop n ds)) from.unrefused)

  -- whatever runs are what the sheet means
  module _ (rs : List Run) (h : Served s w cs rs) where
    course : Course s (length ds) (sheet_state s cs) (done_set s cs)
    unfolding sheet_tick
    course =
        record {
          right = unfold sheet_state power_on in (right_fresh s power_on (unfold power_on in refl));
          steady = unfold sheet_state power_on in (inl refl);
          unrefused = h.unrefused;
          next = λ n l. unfold sheet_state in refl;
        }

    word : (n : ℕ) → n < length ds → (j : ℕ) → j < 5
        → get_or (flatten (map done_words rs)) (5 * n + j) 0 ≡ get_or (five_words (sheet_tick s cs n).sets) j 0
    unfolding tick_words
    word n l j g = sym (tick_word (flatten (map done_words rs)) n j g) ∙ ap (λ (five : List ℕ). get_or five j 0) (h.words n l)

    entered : (n : ℕ) → n < length ds → entered_in (flatten (map done_words rs)) n ≡ (sheet_tick s cs n).sets.entered
    unfolding entered_in five_words
    entered n l = ap (λ (j : ℕ). get_or (flatten (map done_words rs)) j 0) (sym (add-zero (5 * n))) ∙ word n l 0 (omega arith)

    exited : (n : ℕ) → n < length ds → exited_in (flatten (map done_words rs)) n ≡ (sheet_tick s cs n).sets.exited
    unfolding exited_in five_words
    exited n l = word n l 1 (omega arith)

    pub runs_keep_timeouts : RunsKeepTimeouts s w cs rs
    unfolding sheet_tick
    runs_keep_timeouts =
        record {
          ticks = keeps_timeouts s sd (length ds) (sheet_state s cs) (done_set s cs) course (flatten (map done_words rs)) _ entered exited
              (λ n l. mask_after_lem (suc n) l);
          returned = λ i l done. (h.runs i l).mask done ∙ sym (mask_after_lem (done_by s cs i) (unfold done_by all_done in (front_le _ (suc i) cs)));
        }
