-- A report of Ask 1 beside the sheet run of the one input set: both are refused alike, and where neither is, the reason says what the
-- run's words and numbers say. Assumes nothing.
use mathlib.Core.Path.{◌≡◌, refl, sym, ap, ◌∙◌, subst}
use mathlib.Core.Bool.{Bool, true, false, not, ◌||◌, cond}
use mathlib.Core.List.{List, [], ◌∷◌, append-nil}
use Prim.Native.Nat.{ℕ, ◌+◌, ◌*◌, ◌^◌, ◌≤◌, ◌<◌}
use native.Mathlib.Nat.{lt_of_lt_of_le, mod-add-div}
use native.Mathlib.Omega.{arith}
use lib.Dec.{eqb}
use lib.ListN.{length, get_or, drop, get_or-append}
use borrow.Author.Tests.{eqb-true, eqb-false, eq-eqb, ne_eqb, le-leb, lt-leb, le-ltb}
use Rattle.sets.specs.Sets.{has}
use Rattle.sets.proofs.Tests.{is_true, of_true}
use Rattle.meaning.specs.Lists.{overwritten, refused_if, first_refusal}
use Rattle.meaning.specs.Sheet.{k_of, t_of, source}
use Rattle.meaning.specs.Check.{sheet_refusal}
use Rattle.meaning.specs.Reaction.{running}
use Rattle.meaning.specs.Tick.{tick, five_words}
use Rattle.meaning.specs.Alternatives.{numbers_short, fired, tick_numbers}
use Rattle.meaning.specs.Run.{State, due_timers, stops, tick_then, output_short, input_foreign, Run, ran, tick_refusal, run}
use Rattle.meaning.specs.SheetRun.{NumberedRun, state_ok, tick_from, sheet_step, sheet_ticks, numbers_from, sheet_numbers, with_numbers, sheet_run}
use Rattle.meaning.specs.Why.{Report, refused, never_active, never_triggered, gave_way_to, taken_in, refusal_of, reason_words, reason, no_transition, why_refusal, why}
use Rattle.meaning.specs.Reasons.{Says, ReasonHolds, SameRefusal, SameTick}
use Rattle.meaning.proofs.ListLaws.{row_at}
use Rattle.meaning.proofs.RefusalLaws.{first_met, first_passed, first_alone, none_met, test_passed_e, test_passed_i, test_failed}
use Rattle.meaning.proofs.SheetLaws.{sound, t_le}
use Rattle.meaning.proofs.RunLaws.{tick_foreign, tick_known, tick_done, ticks_alone, alone_refusal, run_refused, refusal_state, run_goes}
use Rattle.meaning.proofs.NumberLaws.{numbers_from_length}
use Rattle.meaning.proofs.ReasonLaws.{reason_holds_lem, reason_beside}

-- a report that is so is no refusal
said_not_refused : (s : List ℕ) (x d i t : ℕ) (r : Report) → Says s x d i t r → refusal_of r ≡ 0
unfolding refusal_of
said_not_refused s x d i t (refused e) h = absurd h
said_not_refused s x d i t never_active h = refl
said_not_refused s x d i t never_triggered h = refl
said_not_refused s x d i t (gave_way_to u) h = refl
said_not_refused s x d i t (taken_in r a) h = refl

-- ---- the report

module _ (s : List ℕ) (q : State) (i t : ℕ) where
  -- the due timers of the state
  abbrev due : ℕ
  due = due_timers (running s q.at) q.readings

  -- none of 1 to 6, 14, 13, 8 and 9
  record Passed : Type 0 where
    sheet_ok : sheet_refusal s ≡ 0
    state_ok_lem : state_ok s q ≡ true
    tick_ok : tick_refusal (k_of s) (sheet_step s) q i ≡ 0
    done : (tick s q.at due i).refusal ≡ 0

  passed : why_refusal s q i t ≡ 0 → Passed
  unfolding why_refusal
  passed h =
      let a = none_met (sheet_refusal s) _ h in
      let b = none_met (refused_if (not (state_ok s q)) 14) _ a.1 in
      let c = none_met (refused_if (no_transition s t) 16) _ b.1 in
      let d = none_met (tick_refusal (k_of s) (sheet_step s) q i) [] c.1 in
      record {
        sheet_ok = a.0;
        state_ok_lem = is_true (state_ok s q) (test_passed_e (state_ok s q) 14 (λ z. omega arith) b.0);
        tick_ok = d.0;
        done = unfold sheet_step tick_from in (tick_done (k_of s) (sheet_step s) q i d.0).1;
      }

  -- where nothing is refused it is a reason
  why-reason : why_refusal s q i t ≡ 0 → why s q i t ≡ reason s q.at due i t
  unfolding why
  why-reason z = rw (eq-eqb (why_refusal s q i t) 0 z) refl

  why_refusal_lem : refusal_of (why s q i t) ≡ why_refusal s q i t
  unfolding why ReasonHolds
  why_refusal_lem = go (eqb (why_refusal s q i t) 0) refl
    where
      go : (b : Bool) → eqb (why_refusal s q i t) 0 ≡ b → refusal_of (cond b (reason s q.at due i t) (refused (why_refusal s q i t))) ≡ why_refusal s q i t
      go true e =
          let z = eqb-true (why_refusal s q i t) 0 e in
          let p = passed z in
          said_not_refused s q.at due i t (reason s q.at due i t) (reason_holds_lem s p.sheet_ok q.at due i t p.done) ∙ sym z
      go false e = unfold refusal_of in refl

-- ---- each refusal in its order, and the reason

module _ (s : List ℕ) (q : State) (i t : ℕ) where
  refuses : {e : ℕ} → why_refusal s q i t ≡ e → (e ≡ 0 → ⊥) → refused e ≡ why s q i t
  unfolding why
  refuses {e} r n = rw (r, ne_eqb e 0 n)

  pub refused_sheet : (sheet_refusal s ≡ 0 → ⊥) → refused (sheet_refusal s) ≡ why s q i t
  unfolding why_refusal
  refused_sheet n = refuses (first_met (sheet_refusal s) _ n) n

  module _ (z : sheet_refusal s ≡ 0) where
    state_refusal : state_ok s q ≡ false → why_refusal s q i t ≡ 14
    unfolding why_refusal
    state_refusal f = first_passed (sheet_refusal s) _ z ∙ rw (test_failed (state_ok s q) 14 f) (first_met 14 _ (λ n. omega arith))

    pub refused_state : state_ok s q ≡ false → refused 14 ≡ why s q i t
    refused_state f = refuses (state_refusal f) (λ n. omega arith)

    module _ (ok : state_ok s q ≡ true) where
      -- 16, then the tick's own
      admitted_refusal : why_refusal s q i t ≡ first_refusal (refused_if (no_transition s t) 16 ∷ tick_refusal (k_of s) (sheet_step s) q i ∷ [])
      unfolding why_refusal
      admitted_refusal =
          first_passed (sheet_refusal s) _ z ∙ first_passed (refused_if (not (state_ok s q)) 14) _ (test_passed_i (state_ok s q) 14 (of_true ok))

      pub refused_transition : t_of s ≤ t → refused 16 ≡ why s q i t
      unfolding refused_if no_transition
      refused_transition l = refuses (admitted_refusal ∙ rw (le-leb (t_of s) t l) (first_met 16 _ (λ n. omega arith))) (λ n. omega arith)

      module _ (l : t < t_of s) where
        ticks_own : why_refusal s q i t ≡ tick_refusal (k_of s) (sheet_step s) q i
        unfolding refused_if no_transition
        ticks_own = admitted_refusal ∙ first_passed (refused_if (no_transition s t) 16) _ (rw (lt-leb (t_of s) t l)) ∙ first_alone (tick_refusal (k_of s) (sheet_step s) q i)

        pub refused_input : input_foreign (k_of s) i ≡ true → refused 13 ≡ why s q i t
        refused_input f = refuses (ticks_own ∙ tick_foreign (k_of s) (sheet_step s) q i f) (λ n. omega arith)

        module _ (k : input_foreign (k_of s) i ≡ false) where
          tick_refusal_lem : why_refusal s q i t ≡ (tick s q.at (due s q i t) i).refusal
          unfolding sheet_step tick_from
          tick_refusal_lem = ticks_own ∙ tick_known (k_of s) (sheet_step s) q i k

          pub refused_tick : {e : ℕ} → e ≡ (tick s q.at (due s q i t) i).refusal → (e ≡ 0 → ⊥) → refused e ≡ why s q i t
          refused_tick e = refuses (tick_refusal_lem ∙ sym e)

          pub tick_reports : (tick s q.at (due s q i t) i).refusal ≡ 0 → reason s q.at (due s q i t) i t ≡ why s q i t
          tick_reports e = sym (why-reason s q i t (tick_refusal_lem ∙ e))

-- ---- the sheet run of the one set, with lists long enough

module _ (s : List ℕ) (q : State) (i : ℕ) (out numbers : List ℕ) (five : 5 ≤ length out) (many : 64 ≤ length numbers) where
  long_enough : (output_short (i ∷ []) out || numbers_short (i ∷ []) numbers) ≡ false
  unfolding output_short numbers_short
  long_enough = rw (le-ltb (length out) 5 five, le-ltb (length numbers) 64 many) refl

  abbrev one : Run
  one = run (k_of s) (sheet_step s) (sheet_refusal s) (state_ok s q) (output_short (i ∷ []) out || numbers_short (i ∷ []) numbers) q (i ∷ []) out

  -- where the sheet and the state are not refused it goes on to the tick
  one_goes : sheet_refusal s ≡ 0 → state_ok s q ≡ true → one ≡ ran out (sheet_ticks s (i ∷ []) q)
  one_goes z e = run_goes (k_of s) (sheet_step s) (sheet_refusal s) (state_ok s q) _ q (i ∷ []) out z e long_enough

  -- it is refused as the report of a transition of the sheet is
  one_refusal : (t : ℕ) → t < t_of s → why_refusal s q i t ≡ one.refusal
  one_refusal t l = go (eqb (sheet_refusal s) 0) (state_ok s q) refl refl
    where
      go : (a b : Bool) → eqb (sheet_refusal s) 0 ≡ a → state_ok s q ≡ b → why_refusal s q i t ≡ one.refusal
      go false b e f =
          let n = eqb-false (sheet_refusal s) 0 e in
          unfold why_refusal in (first_met (sheet_refusal s) _ n)
          ∙ sym (ap (λ (r : Run). r.refusal) (run_refused (k_of s) (sheet_step s) (sheet_refusal s) (state_ok s q) _ q (i ∷ []) out n) ∙ (unfold ran stops in refl))
      go true false e f =
          let z = eqb-true (sheet_refusal s) 0 e in
          state_refusal s q i t z f
          ∙ sym (refusal_state (k_of s) (sheet_step s) (sheet_refusal s) (state_ok s q) _ q (i ∷ []) out z f)
      go true true e f =
          let z = eqb-true (sheet_refusal s) 0 e in
          ticks_own s q i t z f l ∙ sym (ap (λ (r : Run). r.refusal) (one_goes z f) ∙ (unfold ran in (alone_refusal (k_of s) (sheet_step s) i q)))

pub same_refusal_lem : SameRefusal
unfolding SameRefusal sheet_run with_numbers
same_refusal_lem s q i t out numbers l five many = why_refusal_lem s q i t ∙ one_refusal s q i out numbers five many t l

-- ---- the run of one done tick beside a reason

module _ (s : List ℕ) (q : State) (i t : ℕ) (out numbers : List ℕ) where
  -- a report says of t what the words and the numbers of a run say
  abbrev Match : Report → NumberedRun → Type 0
  Match r o =
      (eqb (get_or (reason_words r) 0 4) 3 ≡ has (get_or o.run.out 3 0 + 2 ^ 32 * get_or o.run.out 4 0) t)
      × (get_or (reason_words r) 2 0 ≡ get_or o.numbers t 0)
      × (eqb (get_or (reason_words r) 0 4) 0 ≡ not (has (get_or o.run.out 2 0) (source s t)))

  abbrev done_run : Run
  done_run = ran out (tick_then (sheet_step s q i) (stops 0 (sheet_step s q i).state))

  number_at : t < 64 → get_or (with_numbers s q (i ∷ []) numbers done_run).numbers t 0 ≡ fired s q.at (due s q i t) i t
  unfolding with_numbers ran tick_then stops overwritten sheet_numbers
  number_at l =
      rw (append-nil (numbers_from s q i))
      (get_or-append (numbers_from s q i) (drop (length (numbers_from s q i)) numbers) 0 t (rw (numbers_from_length s q i) l)
      ∙ (unfold numbers_from tick_numbers in (row_at 64 (fired s q.at (due s q i t) i) t l)))

  match : Passed s q i t → t < t_of s → Match (reason s q.at (due s q i t) i t) (with_numbers s q (i ∷ []) numbers done_run)
  unfolding with_numbers ran tick_then overwritten sheet_step five_words tick_from
  match p l =
      let b = reason_beside s q.at (due s q i t) i t p.sheet_ok p.done in (
        b.0 ∙ ap (λ (x : ℕ). has x t) (sym (mod-add-div (tick_from s q i).sets.taken (2 ^ 32))),
        b.1 ∙ sym (number_at (lt_of_lt_of_le l (t_le s (sound s p.sheet_ok)))),
        b.2,
      )

pub same_tick_lem : SameTick
unfolding SameTick sheet_run
same_tick_lem s q i t out numbers l five many e =
    let z = sym (why_refusal_lem s q i t) ∙ e in
    let p = passed s q i t z in
    let goes = one_goes s q i out numbers five many p.sheet_ok p.state_ok_lem ∙ ap (ran out) (ticks_alone (k_of s) (sheet_step s) i q p.tick_ok) in
    subst (λ (r : Report). Match s q i t out numbers r (sheet_run s q (i ∷ []) out numbers)) (sym (why-reason s q i t z))
    (subst (λ (o : Run). Match s q i t out numbers (reason s q.at (due s q i t) i t) (with_numbers s q (i ∷ []) numbers o)) (sym goes)
    (match s q i t out numbers p l))
