-- States that differ only in ages run alike: a tick reads no age, and what it leaves differs only in ages again. Assumes nothing.
use mathlib.Core.Path.{◌≡◌, refl, sym, ap, ap₂, ◌∙◌, subst}
use mathlib.Core.Bool.{Bool, true, false, ◌||◌, cond}
use mathlib.Core.List.{List, [], ◌∷◌, ◌++◌}
use Prim.Native.Nat.{ℕ, suc, ◌+◌}
use lib.Dec.{T, eqb}
use lib.ListN.{take}
use Rattle.sets.proofs.Tests.{is_true}
use Rattle.meaning.specs.Lists.{overwritten, refused_if, first_refusal}
use Rattle.meaning.specs.Sheet.{k_of}
use Rattle.meaning.specs.Check.{sheet_refusal}
use Rattle.meaning.specs.Alternatives.{numbers_short}
use Rattle.meaning.specs.Run.{State, next_state, Step, Ticks, stops, tick_then, output_short, input_foreign, Run, ran, tick_refusal, ticks, run}
use Rattle.meaning.specs.SheetRun.{state_ok, tick_from, state_after, sheet_step, numbers_from, sheet_numbers, with_numbers, sheet_run}
use Rattle.meaning.specs.Why.{why_refusal, why}
use Rattle.meaning.specs.Table.{k_in}
use Rattle.meaning.specs.TableRun.{table_state_ok, cell_of, state_after_cell, is_stale, table_step, table_run}
use Rattle.meaning.specs.ModeAges.{ButAges, RunsButAges, AgesApartInSheet, AgesApartInTable, AgesApartInWhy}
use Rattle.meaning.proofs.RunLaws.{ticks_end, ticks_refused, ticks_go, ticks_all, refused_first}

-- q with other ages
abbrev aged : State → List ℕ → State
aged q ages = record { at = q.at; readings = q.readings; ages = ages }

-- what holds of q with p's ages holds of p
with_ages : (q p : State) → ButAges q p → (P : State → Type 0) → P (aged q p.ages) → P p
with_ages q p h P k =
    subst (λ (l : List ℕ). P (record { at = p.at; readings = l; ages = p.ages })) h.readings
    (subst (λ (x : ℕ). P (record { at = x; readings = q.readings; ages = p.ages })) h.at k)

-- ---- over any step that reads no age

record StepsButAges (o u : Step) : Type 0 where
  refusal : o.refusal ≡ u.refusal
  words : o.words ≡ u.words
  rounds : o.rounds ≡ u.rounds
  state : ButAges o.state u.state

record TicksButAges (x y : Ticks) : Type 0 where
  done : x.done ≡ y.done
  state : ButAges x.state y.state
  refusal : x.refusal ≡ y.refusal
  words : x.words ≡ y.words
  rounds : x.rounds ≡ y.rounds

stops_apart : (e : ℕ) (q p : State) → ButAges q p → TicksButAges (stops e q) (stops e p)
unfolding stops
stops_apart e q p h = record { done = refl; state = h; refusal = refl; words = refl; rounds = refl }

then_apart : (o u : Step) (x y : Ticks) → StepsButAges o u → TicksButAges x y → TicksButAges (tick_then o x) (tick_then u y)
unfolding tick_then
then_apart o u x y g h =
    record {
      done = ap suc h.done;
      state = h.state;
      refusal = h.refusal;
      words = ap₂ (λ (a b : List ℕ). a ++ b) g.words h.words;
      rounds = ap₂ (λ (a b : ℕ). a + b) g.rounds h.rounds;
    }

module _ (k : ℕ) (step : State → ℕ → Step) (alike : (q p : State) (i : ℕ) → ButAges q p → StepsButAges (step q i) (step p i)) where
  refusal_apart : (q p : State) (i : ℕ) → ButAges q p → tick_refusal k step q i ≡ tick_refusal k step p i
  unfolding tick_refusal
  refusal_apart q p i h = ap (λ (e : ℕ). first_refusal (refused_if (input_foreign k i) 13 ∷ e ∷ [])) (alike q p i h).refusal

  ticks_apart : (is : List ℕ) (q p : State) → ButAges q p → TicksButAges (ticks k step is q) (ticks k step is p)
  ticks_apart =
      ticks_all k step (λ is q x. (p : State) → ButAges q p → TicksButAges x (ticks k step is p))
      (λ q p h. subst (TicksButAges (stops 0 q)) (sym (ticks_end k step p)) (stops_apart 0 q p h))
      (λ i is q n p h.
      let e = refusal_apart q p i h in
      subst (TicksButAges (stops (tick_refusal k step q i) q))
      (ap (λ (a : ℕ). stops a p) e ∙ sym (ticks_refused k step i is p (λ z. n (e ∙ z)))) (stops_apart _ q p h))
      (λ i is q e ih p h.
      let a = alike q p i h in
      subst (TicksButAges (tick_then (step q i) (ticks k step is (step q i).state))) (sym (ticks_go k step i is p (sym (refusal_apart q p i h) ∙ e)))
      (then_apart (step q i) (step p i) _ _ a (ih (step p i).state a.state)))

  -- a run whose state is admitted
  run_apart : (refusal : ℕ) (a b short : Bool) (q p : State) → ButAges q p → T a → T b → (inputs out : List ℕ)
      → RunsButAges (run k step refusal a short q inputs out) (run k step refusal b short p inputs out)
  unfolding run ran
  run_apart refusal false b short q p h x3 _ inputs out = elim x3 [ ]
  run_apart refusal true false short q p h _ x8 inputs out = elim x8 [ ]
  run_apart refusal true true short q p h _ _ inputs out =
      let e = refused_first k step refusal true short q inputs out in
      ran_apart _ _ (either e (eqb e 0))
    where
      either : (e : ℕ) (b : Bool) → TicksButAges (cond b (ticks k step inputs q) (stops e q)) (cond b (ticks k step inputs p) (stops e p))
      either e true = ticks_apart inputs q p h
      either e false = stops_apart e q p h

      ran_apart : (x y : Ticks) → TicksButAges x y → RunsButAges (ran out x) (ran out y)
      ran_apart x y g =
          record {
            done = g.done;
            state = g.state;
            refusal = g.refusal;
            rounds = g.rounds;
            out = ap (λ (words : List ℕ). overwritten words out) g.words;
          }

-- ---- sheet runs

module _ (s : List ℕ) where
  sheet_alike : (q p : State) (i : ℕ) → ButAges q p → StepsButAges (sheet_step s q i) (sheet_step s p i)
  unfolding sheet_step tick_from state_after next_state
  sheet_alike q p i h =
      with_ages q p h (λ x. StepsButAges (sheet_step s q i) (sheet_step s x i))
      (record { refusal = refl; words = refl; rounds = refl; state = record { at = refl; readings = refl } })

  numbers_apart : (is : List ℕ) (q p : State) → ButAges q p → sheet_numbers s is q ≡ sheet_numbers s is p
  unfolding sheet_numbers numbers_from
  numbers_apart [] q p h = refl
  numbers_apart (i ∷ is) q p h =
      ap₂ (λ (a b : List ℕ). a ++ b) (with_ages q p h (λ x. numbers_from s q i ≡ numbers_from s x i) refl)
      (numbers_apart is (sheet_step s q i).state (sheet_step s p i).state (sheet_alike q p i h).state)

pub ages_apart_in_sheet_lem : AgesApartInSheet
unfolding AgesApartInSheet sheet_run with_numbers
ages_apart_in_sheet_lem s q p h a b inputs out numbers = (
  r,
  ap (λ (n : ℕ). overwritten (sheet_numbers s (take n inputs) q) numbers) r.done
      ∙ ap (λ (l : List ℕ). overwritten l numbers) (numbers_apart s (take (run_on p).done inputs) q p h),
)
  where
    run_on : State → Run
    run_on x = run (k_of s) (sheet_step s) (sheet_refusal s) (state_ok s x) (output_short inputs out || numbers_short inputs numbers) x inputs out

    r : RunsButAges (run_on q) (run_on p)
    r = run_apart (k_of s) (sheet_step s) (sheet_alike s) (sheet_refusal s) (state_ok s q) (state_ok s p) _ q p h a b inputs out

-- ---- table runs

table_alike : (w : List ℕ) (q p : State) (i : ℕ) → ButAges q p → StepsButAges (table_step w q i) (table_step w p i)
unfolding table_step cell_of state_after_cell next_state is_stale
table_alike w q p i h =
    with_ages q p h (λ x. StepsButAges (table_step w q i) (table_step w x i))
    (record { refusal = refl; words = refl; rounds = refl; state = record { at = refl; readings = refl } })

pub ages_apart_in_table_lem : AgesApartInTable
unfolding AgesApartInTable table_run
ages_apart_in_table_lem w q p h a b inputs out = run_apart (k_in w) (table_step w) (table_alike w) _ (table_state_ok w q) (table_state_ok w p) _ q p h a b inputs out

-- ---- reports

pub ages_apart_in_why_lem : AgesApartInWhy
unfolding AgesApartInWhy why why_refusal tick_refusal sheet_step tick_from
ages_apart_in_why_lem s q p h a b i t =
    with_ages q p h (λ x. T (state_ok s x) → why s q i t ≡ why s x i t)
    (λ c. rw (is_true (state_ok s q) a, is_true (state_ok s (aged q p.ages)) c) refl) b
