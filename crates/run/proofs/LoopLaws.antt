-- A run's loop, over any step: the input set tested, a run's words from the place of tick i on, what is left from here gives what
-- all gives from the start; and a run that stops before any tick. Assumes nothing.
use mathlib.Core.Path.{◌≡◌, refl, sym, ap, ◌∙◌}
use mathlib.Core.Bool.{Bool, true, false}
use mathlib.Core.List.{List, [], ◌∷◌}
use Prim.Native.Nat.{ℕ, suc, ◌+◌, ◌*◌, ◌/◌, ◌^◌, ◌≤◌, ◌<◌, zero-le}
use native.Mathlib.Nat.{zero-add, add-zero, mod-lt, div-eq_of_lt, div-add-mod', le_of_lt, lt_of_not-le, zero-mul}
use native.Mathlib.Decide.{dec_le}
use native.Mathlib.Numerals.{add-one}
use native.Mathlib.Omega.{arith}
use lib.Dec.{T, eqb, leb}
use lib.ListN.{length, get_or, drop, drop_of_length-le}
use lib.Pow.{pow_pos}
use lib.Seq.{drop-cons}
use borrow.Author.Tests.{le-leb, lt-leb, lt-ltb, le-ltb}
use Rattle.sets.specs.Sets.{has, those}
use Rattle.sets.proofs.Tests.{is_true, of_true}
use Rattle.sets.proofs.Facts.{has-lt}
use Rattle.rows.specs.Over.{over}
use Rattle.rows.proofs.OverLaws.{length_over, over_more, over_nil, over_front}
use Rattle.meaning.specs.Lists.{overwritten}
use Rattle.meaning.specs.Run.{State, Step, Ticks, stops, tick_then, output_short, input_foreign, due_timers, Run, ran, tick_refusal, ticks, run}
use Rattle.meaning.proofs.RunLaws.{tick_known, ticks_end, ticks_refused, ticks_foreign, ticks_go, run_refused, run_state, run_short, run_goes}
use Rattle.run.specs.Runs.{ended_run}
use Rattle.run.proofs.DeadlineLaws.{readings_from, state_from, due_deadlines, state_word}
use Rattle.run.proofs.EntryLaws.{Young}

-- ---- the input set

module _ (k i : ℕ) where
  pub input_foreign_lem : (i / 2 ^ k ≡ 0 → ⊥) → input_foreign k i ≡ true
  unfolding input_foreign
  input_foreign_lem n = is_true (leb (2 ^ k) i) (go (dec_le (2 ^ k) i))
    where
      go : Dec (2 ^ k ≤ i) → T (leb (2 ^ k) i)
      go (yes h) = of_true (le-leb (2 ^ k) i h)
      go (no h) = absurd (n (div-eq_of_lt (lt_of_not-le h)))

  pub input_below : i / 2 ^ k ≡ 0 → i < 2 ^ k
  input_below e = omega (arith, div-add-mod' i (2 ^ k), mod-lt i (pow_pos k), ap (λ (x : ℕ). x * 2 ^ k) e, zero-mul (2 ^ k))

  pub input_fits : i / 2 ^ k ≡ 0 → input_foreign k i ≡ false
  unfolding input_foreign
  input_fits e = lt-leb (2 ^ k) i (input_below e)

-- ---- a run's words, five to a tick, from the place of tick i on; the other words stay

unfoldable pub placed : ℕ → ℕ → List ℕ → Ticks → Run
placed i total out o =
    record { done = i + o.done; state = o.state; refusal = o.refusal; rounds = total + o.rounds; out = over out (5 * i) o.words }

pub placed_all : (out : List ℕ) (o : Ticks) → placed 0 0 out o ≡ ran out o
unfolding placed ran overwritten
placed_all out o = simp (zero-add, over_front)

pub placed_stops : (i total : ℕ) (out : List ℕ) (e : ℕ) (q : State)
    → placed i total out (stops e q) ≡ record { done = i; state = q; refusal = e; rounds = total; out = out }
unfolding placed stops
placed_stops i total out e q = simp (add-zero, over_nil)

pub placed_more : (i total : ℕ) (out : List ℕ) (o : Step) (on : Ticks) → length o.words ≡ 5 → 5 * i + 5 ≤ length out
    → placed i total out (tick_then o on) ≡ placed (i + 1) (total + o.rounds) (over out (5 * i) o.words) on
unfolding placed tick_then
placed_more i total out o on n h =
    let a : i + suc on.done ≡ i + 1 + on.done = omega arith in
    let b : total + (o.rounds + on.rounds) ≡ total + o.rounds + on.rounds = omega arith in
    let e : 5 * (i + 1) ≡ 5 * i + length o.words = omega arith in
    cc (over_more out (5 * i) o.words (omega arith) on.words (5 * (i + 1)) e)

-- ---- the loop, from the state q₀ and the output words out₀: at input i, in the state q

module _ (k : ℕ) (step : State → ℕ → Step) (inputs out₀ : List ℕ) (q₀ : State) where
  abbrev all : Run
  all = ran out₀ (ticks k step inputs q₀)

  pub record Reached (out : List ℕ) (total i : ℕ) (q : State) : Type 0 where
    pub within : i ≤ length inputs
    pub room : 5 * length inputs ≤ length out
    pub same : length out ≡ length out₀
    pub rest : placed i total out (ticks k step (drop i inputs) q) ≡ all

  pub reached_start : 5 * length inputs ≤ length out₀ → Reached out₀ 0 0 q₀
  reached_start room = record { within = zero-le; room = room; same = refl; rest = placed_all out₀ (ticks k step inputs q₀) }

  module _ {out : List ℕ} {total i : ℕ} {q : State} (r : Reached out total i q) where
    -- the run that ends here
    abbrev pub ends_here : ℕ → Run
    ends_here e = record { done = i; state = q; refusal = e; rounds = total; out = out }

    ends : (e : ℕ) → ticks k step (drop i inputs) q ≡ stops e q → ends_here e ≡ all
    ends e z = sym (ap (placed i total out) z ∙ placed_stops i total out e q) ∙ r.rest

    -- no input is left
    pub reached_end : length inputs ≤ i → ends_here 0 ≡ all
    reached_end l = ends 0 (rw (drop_of_length-le inputs l) (ticks_end k step q))

    module _ (l : i < length inputs) where
      abbrev input : ℕ
      input = get_or inputs i 0

      pub reached_foreign : (input / 2 ^ k ≡ 0 → ⊥) → ends_here 13 ≡ all
      reached_foreign n = ends 13 (rw (drop-cons inputs i 0 l) (ticks_foreign k step input (drop (suc i) inputs) q (input_foreign_lem k input n)))

      module _ (b : input / 2 ^ k ≡ 0) where
        known : tick_refusal k step q input ≡ (step q input).refusal
        known = tick_known k step q input (input_fits k input b)

        pub reached_refused : {e : ℕ} → (step q input).refusal ≡ e → (e ≡ 0 → ⊥) → ends_here e ≡ all
        reached_refused {e} z n =
            ends e (rw (drop-cons inputs i 0 l) (ticks_refused k step input (drop (suc i) inputs) q (λ h. n (sym (known ∙ z) ∙ h)) ∙ ap (λ (x : ℕ). stops x q) (known ∙ z)))

        pub reached_turn : (step q input).refusal ≡ 0 → length (step q input).words ≡ 5
            → Reached (over out (5 * i) (step q input).words) (total + (step q input).rounds) (i + 1) (step q input).state
        reached_turn z five =
            let o = step q input in
            let long : length (over out (5 * i) o.words) ≡ length out = length_over out (5 * i) o.words (omega (arith, r.room)) in
            record {
              within = omega arith;
              room = omega (arith, r.room);
              same = long ∙ r.same;
              rest =
                  sym (rw (drop-cons inputs i 0 l) (ap (placed i total out) (ticks_go k step input (drop (suc i) inputs) q (known ∙ z))
                  ∙ placed_more i total out o (ticks k step (drop (suc i) inputs) o.state) five (omega (arith, r.room)) ∙ rw add-one refl)) ∙ r.rest;
            }

-- ---- the loop by deadlines: those of the timers that run are ahead, by less than 2^16; no active mode is yet to be entered

pub record ByDeadlines (k : ℕ) (step : State → ℕ → Step) (inputs out₀ : List ℕ) (q₀ : State) (out ends limits : List ℕ) (at active timers total i : ℕ) : Type 0 where
  pub reached : Reached k step inputs out₀ q₀ out total i (state_from at active timers ends limits i)
  pub long : length ends ≡ 64
  pub ahead : (t : ℕ) → T (has timers t) → (i < get_or ends t 0) × (get_or ends t 0 ≤ i + 65535)
  pub young : Young active limits i

-- with the active modes and the timers as the code has them
module _ {k : ℕ} {step : State → ℕ → Step} {inputs out₀ : List ℕ} {q₀ : State} {out ends limits : List ℕ} {at active timers total i : ℕ}
    (r : ByDeadlines k step inputs out₀ q₀ out ends limits at active timers total i) {modes now : ℕ} (ae : modes ≡ active) (te : now ≡ timers) where
  -- no deadline of theirs is past
  pub later : (t : ℕ) → has now t ≡ true → i ≤ get_or ends t 0
  later t e = le_of_lt (r.ahead t (of_true (rw te at e))).0

  -- none of theirs is yet to be entered
  pub entered_before : modes < 2 ^ 32 → (m : ℕ) → has modes m ≡ true → get_or limits m 0 ≤ i + 65535
  entered_before fits m e = r.young m (has-lt 32 modes m fits (of_true e)) (of_true (rw ae at e))

  pub due_now : {d : ℕ} → d ≡ those 64 now (λ t. eqb (get_or ends t 0) (i + 1)) → d ≡ due_timers timers (readings_from timers ends i)
  due_now e = e ∙ rw te (due_deadlines timers ends i (λ t _ h. (r.ahead t h).0))

  -- what a run that ends now returns
  ends_now : (e : ℕ) → ended_run ends limits at modes now i total e out ≡ ends_here k step inputs out₀ q₀ r.reached e
  ends_now e = rw (ae, te, state_word timers ends i at active limits (λ t l h. omega (arith, (r.ahead t h).1)))

  pub ends_done : length inputs ≤ i → ended_run ends limits at modes now i total 0 out ≡ ran out₀ (ticks k step inputs q₀)
  ends_done l = ends_now 0 ∙ reached_end k step inputs out₀ q₀ r.reached l

  module _ (l : i < length inputs) where
    pub ends_foreign : (get_or inputs i 0 / 2 ^ k ≡ 0 → ⊥) → ended_run ends limits at modes now i total 13 out ≡ ran out₀ (ticks k step inputs q₀)
    ends_foreign n = ends_now 13 ∙ reached_foreign k step inputs out₀ q₀ r.reached l n

    pub ends_refused : get_or inputs i 0 / 2 ^ k ≡ 0 → {e : ℕ} → (step (state_from at active timers ends limits i) (get_or inputs i 0)).refusal ≡ e → (e ≡ 0 → ⊥)
        → ended_run ends limits at modes now i total e out ≡ ran out₀ (ticks k step inputs q₀)
    ends_refused b {e} z n = ends_now e ∙ reached_refused k step inputs out₀ q₀ r.reached l b z n

-- ---- the whole run: what is refused before any tick, else the ticks

-- a run that stops before any tick
abbrev pub stopped : State → List ℕ → ℕ → Run
stopped q out e = record { done = 0; state = q; refusal = e; rounds = 0; out = out }

-- fewer than five output words for an input set, or five for each
module _ (inputs out : List ℕ) where
  pub output_short_lem : length out / 5 < length inputs → output_short inputs out ≡ true
  unfolding output_short
  output_short_lem h = lt-ltb (length out) (5 * length inputs) (omega arith)

  pub output_room_lem : 5 * length inputs ≤ length out → output_short inputs out ≡ false
  unfolding output_short
  output_room_lem h = le-ltb (length out) (5 * length inputs) h

module _ (k : ℕ) (step : State → ℕ → Step) (refusal : ℕ) (ok short : Bool) (q : State) (inputs out : List ℕ) where
  stopped_is : (e : ℕ) → stopped q out e ≡ ran out (stops e q)
  unfolding ran stops overwritten
  stopped_is e = refl

  pub stopped_refused : {e : ℕ} → e ≡ refusal → (e ≡ 0 → ⊥) → stopped q out e ≡ run k step refusal ok short q inputs out
  stopped_refused z n = ap (stopped q out) z ∙ stopped_is refusal ∙ sym (run_refused k step refusal ok short q inputs out (λ h. n (z ∙ h)))

  pub stopped_state : refusal ≡ 0 → ok ≡ false → stopped q out 14 ≡ run k step refusal ok short q inputs out
  stopped_state z e = stopped_is 14 ∙ sym (run_state k step refusal ok short q inputs out z e)

  pub stopped_short : refusal ≡ 0 → ok ≡ true → short ≡ true → stopped q out 12 ≡ run k step refusal ok short q inputs out
  stopped_short z e h = stopped_is 12 ∙ sym (run_short k step refusal ok short q inputs out z e h)

  pub goes_on_lem : refusal ≡ 0 → ok ≡ true → short ≡ false → ran out (ticks k step inputs q) ≡ run k step refusal ok short q inputs out
  goes_on_lem z e h = sym (run_goes k step refusal ok short q inputs out z e h)

-- with no input set no tick is done
pub stopped_none : (k : ℕ) (step : State → ℕ → Step) (q : State) (inputs out : List ℕ) → length inputs ≡ 0 → stopped q out 0 ≡ ran out (ticks k step inputs q)
unfolding ticks ran stops overwritten
stopped_none k step q [] out e = refl
stopped_none k step q (i ∷ is) out e = absurd (omega (arith, e))
