-- The sheet run by deadlines and limits: what is left from here, in a mode set by those now, gives what all gives from the start; the
-- numbers so far. Assumes nothing.
use mathlib.Core.Path.{◌≡◌, refl, sym, ap, ◌∙◌, subst}
use mathlib.Core.Logic.{◌⊎◌, inl, inr, ⊎_elim}
use mathlib.Core.Bool.{Bool, true, false, ◌||◌, cond, and-true}
use mathlib.Core.List.{List, [], ◌∷◌}
use Prim.Native.Nat.{ℕ, suc, ◌+◌, ◌-◌, ◌*◌, ◌/◌, ◌^◌, ◌≤◌, ◌<◌, zero-le}
use native.Mathlib.Nat.{add-zero, lt_of_lt_of_le, pow-le-pow_right}
use native.Mathlib.Omega.{arith}
use lib.Dec.{T, eqb, ltb→lt}
use lib.ListN.{length, get_or, drop}
use Rattle.sets.specs.Sets.{has, union, meet, minus, those}
use Rattle.sets.proofs.Tests.{is_true, is_false}
use Rattle.sets.proofs.Facts.{those_e}
use Rattle.sets.proofs.Membership.{has_none, has_meet, those-lt, lt_of_members}
use Rattle.sets.proofs.Members.{empty}
use Rattle.rows.specs.Over.{over, zeros}
use Rattle.meaning.specs.Lists.{row_from}
use Rattle.meaning.specs.Sheet.{n_of, k_of, t_of, source}
use Rattle.meaning.specs.Check.{sheet_refusal}
use Rattle.meaning.specs.Hierarchy.{consistent}
use Rattle.meaning.specs.Reaction.{TickSets, delay, running, triggered}
use Rattle.meaning.specs.Tick.{Tick, begin, tick, five_words}
use Rattle.meaning.specs.Alternatives.{numbers_short, tick_numbers}
use Rattle.meaning.specs.Run.{State, reading, due_timers, stops, output_short, Run, ran}
use Rattle.meaning.specs.SheetRun.{NumberedRun, state_ok, tick_from, state_after, sheet_step, sheet_ticks, numbers_from, with_numbers, sheet_run}
use Rattle.meaning.specs.Promises.{RunRounds}
use Rattle.meaning.proofs.ListLaws.{all_of_e, row_from-length, row_from_ext, row_from-get_or}
use Rattle.meaning.proofs.SheetLaws.{Sound, n_le, t_le}
use Rattle.meaning.proofs.TickLaws.{tick_quiet, stayed_or_entered, rounds_le, Runs, running_e, running_i}
use Rattle.meaning.proofs.Consistency.{keeps_consistent_lem}
use Rattle.meaning.proofs.ReadingLaws.{delay_small, Right, right_next}
use Rattle.meaning.proofs.RunLaws.{run_all}
use Rattle.meaning.proofs.SheetTicksLaws.{run_rounds_lem, five_long}
use Rattle.reaction.specs.Plan.{sources_in, timer_delay}
use Rattle.reaction.specs.Rounds.{start_sets, rounds_by, Known, StartOf, Before}
use Rattle.reaction.specs.Causes.{fired_by}
use Rattle.reaction.specs.declared.tick.Start.{Start}
use Rattle.reaction.proofs.PlanLaws.{has-sources_in}
use Rattle.reaction.proofs.EarlyLaws.{begins}
use Rattle.reaction.proofs.StartLaws.{start_sets_lem, tick_by}
use Rattle.reaction.proofs.FiredLaws.{numbers_by, numbers_quiet}
use Rattle.run.specs.Entries.{entered_at, limits_by}
use Rattle.run.specs.Runs.{ended_run}
use Rattle.run.proofs.DeadlineLaws.{state_from, reading_from, state_next, deadline_after, state_start, start_within}
use Rattle.run.proofs.EntryLaws.{young_start, ages_start, Moved, young_next, ages_next, moved_by, moved_none}
use Rattle.run.proofs.LoopLaws.{reached_start, reached_turn, ByDeadlines, entered_before, due_now, ends_refused, goes_on_lem}
use Rattle.simulator.proofs.DelayLaws.{delay_at}
use Rattle.simulator.proofs.NumbersLoop.{Written, written_start, written_next, short_neither}
use Rattle.simulator.proofs.SheetStateLaws.{admitted, admitted_aged, admitted_known}
use Rattle.simulator.proofs.LiveLaws.{sources_none}

-- the state after i ticks, in the mode set x
abbrev pub state_at : List ℕ → ℕ → List ℕ → List ℕ → ℕ → State
state_at s x ends limits i = state_from x x (running s x) ends limits i

-- the modes of a known set are below 32
known_fits : (s : List ℕ) → Sound s → (x : ℕ) → Known s x → x < 2 ^ 32
unfolding consistent
known_fits s sd x = ⊎_elim (λ z. omega arith) (λ c. lt_of_lt_of_le (ltb→lt x (2 ^ n_of s) (all_of_e _ c).0) (pow-le-pow_right (omega arith) (n_le s sd)))

-- the deadline of a running timer is ahead, by its delay at most
right_ahead : (s : List ℕ) → Sound s → (x : ℕ) (ends limits : List ℕ) (i : ℕ) → Right s (state_at s x ends limits i)
    → (t : ℕ) → T (has (running s x) t) → (i < get_or ends t 0) × (get_or ends t 0 ≤ i + 65535)
unfolding Right reading
right_ahead s sd x ends limits i r t h =
    let on = running_e s x t h in
    let e = reading_from (running s x) ends i t (lt_of_lt_of_le on.small (t_le s sd)) h in
    let d = delay_small s sd t on.small on.timer in
    (omega (arith, (r t h).0), omega (arith, (r t h).1))

-- what a tick from the mode set x begins with, and the timers that are due in it
module _ (s : List ℕ) {x : ℕ} (known : Known s x) {d : ℕ} (readings : List ℕ) (e : d ≡ due_timers (running s x) readings) where
  pub due_word : d < 2 ^ 64
  unfolding due_timers
  due_word = rw e (those-lt 64 (running s x) _)

  pub due_runs : (t : ℕ) → T (has d t) → Runs s x t
  unfolding due_timers
  due_runs t m = running_e s x t (those_e 64 (running s x) _ t (rw e at m)).1

  unfoldable pub begins_by : {b : Start} → StartOf s x b → Before s b d
  begins_by st =
      record {
        set = x;
        known = known;
        start = st;
        small = lt_of_members 64 (t_of s) d due_word (λ t l _. is_false (has d t) (λ m. let on = due_runs t m in omega (arith, on.small)));
        timing = λ t m. (due_runs t m).timer;
        none =
            λ z. empty 64 due_word (λ t l.
            is_false (has d t) (λ m. subst T (ap (λ (y : ℕ). has y (source s t)) z ∙ has_none (source s t)) (due_runs t m).on));
      }

-- ---- the limits by the words of the ticks done, after one more tick

module _ (limits out : List ℕ) (i seen x : ℕ) (room : 5 * i + 5 ≤ length out) where
  -- its entries, as the code has them, are noted
  pub noted_moved : (z : TickSets) (limits' : List ℕ) (seen' : ℕ) {e : ℕ} {out' : List ℕ} → e ≡ z.entered → out' ≡ over out (5 * i) (five_words z)
      → ((l ws : List ℕ) → length ws ≡ 4 → 5 * i + 5 ≤ length l
      → limits_by limits' (over l (5 * i) (e ∷ ws)) seen' (i + 1)
      ≡ entered_at e (i + 1) (entered_at (minus z.modes (union x e)) i (limits_by limits l seen i)))
      → Moved i x z.modes z.entered (limits_by limits out seen i) (limits_by limits' out' seen' (i + 1))
  unfolding five_words
  noted_moved z limits' seen' ee oe noted = rw (oe, ← ee, noted out (drop 1 (five_words z)) refl room) (moved_by i x z.modes _ (limits_by limits out seen i) refl)

-- ---- input i is reached in the mode set x, by the deadlines ends and the limits of ages

pub record ReachedModes (s inputs out₀ numbers₀ : List ℕ) (q₀ : State) (out numbers ends limits : List ℕ) (x live soon total i : ℕ) : Type 0 where
  pub timed : ByDeadlines (k_of s) (sheet_step s) inputs out₀ q₀ out ends limits x x (running s x) total i
  pub written : Written s inputs numbers₀ q₀ numbers (state_at s x ends limits i) i
  pub sound : Sound s
  pub sources : live ≡ sources_in s x
  pub known : Known s x
  pub right : Right s (state_at s x ends limits i)
  pub later : (t : ℕ) → T (has (running s x) t) → soon ≤ get_or ends t 0
  pub few : total ≤ 64 * i

-- at the start the deadlines are the readings, and the limits of ages are as many ticks later as they lack
module _ (s : List ℕ) (sd : Sound s) (q : State) (ok : state_ok s q ≡ true) {ends limits : List ℕ} (ee : ends ≡ q.readings) (long : length ends ≡ 64)
    (se : limits ≡ row_from 0 32 (λ m. 65535 - get_or q.ages m 0)) (many : length q.ages ≡ 32) where
  pub start_state : state_at s q.at ends limits 0 ≡ q
  start_state =
      ap (λ (l : List ℕ). state_at s q.at l limits 0) ee
      ∙ state_start (running s q.at) (delay s) q (admitted s q ok) q.at limits (sym (ap length ee) ∙ long)
      (ages_start q.at q.ages (admitted_aged s q ok) se many)

  start_right : Right s q
  unfolding Right reading
  start_right t h =
      start_within (running s q.at) (delay s) q (admitted s q ok) t (lt_of_lt_of_le (running_e s q.at t h).small (t_le s sd)) h

  pub start_modes : {inputs out numbers : List ℕ} {live : ℕ} → live ≡ sources_in s q.at → 5 * length inputs ≤ length out → 64 * length inputs ≤ length numbers
      → ReachedModes s inputs out numbers (state_at s q.at ends limits 0) out numbers ends limits q.at live 0 0 0
  start_modes {inputs} {out} {numbers} l room numbers-room =
      let right = subst (Right s) (sym start_state) start_right in
      record {
        timed = record {
          reached = reached_start (k_of s) (sheet_step s) inputs out (state_at s q.at ends limits 0) room;
          long = long;
          ahead = right_ahead s sd q.at ends limits 0 right;
          young = young_start q.at q.ages (admitted_aged s q ok) se;
        };
        written = written_start s inputs numbers (state_at s q.at ends limits 0) numbers-room;
        sound = sd;
        sources = l;
        known = admitted_known s q ok;
        right = right;
        later = λ t h. zero-le;
        few = zero-le;
      }

module _ {s inputs out₀ numbers₀ : List ℕ} {q₀ : State} {out numbers ends limits : List ℕ} {x live soon total i : ℕ}
    (k : ReachedModes s inputs out₀ numbers₀ q₀ out numbers ends limits x live soon total i) where
  abbrev now : State
  now = state_at s x ends limits i

  abbrev input : ℕ
  input = get_or inputs i 0

  -- no mode of the set is yet to be entered
  pub entered_by_now : (m : ℕ) → has x m ≡ true → get_or limits m 0 ≤ i + 65535
  entered_by_now = entered_before k.timed refl refl (known_fits s k.sound x k.known)

  -- ---- the state that a tick leaves, by the deadlines and limits then

  abbrev o : Tick
  o = tick_from s now input

  abbrev z : TickSets
  z = o.sets

  -- the deadlines after it: of the timers that start, whose source was entered and is active, and of the others
  module _ (done : o.refusal ≡ 0) {set : ℕ} {delays ends' : List ℕ} (se : set ≡ meet (sources_in s z.entered) (running s z.modes))
      (ye : delays ≡ row_from 0 64 (timer_delay s))
      (ee : ends' ≡ row_from 0 64 (λ t. cond (has set t) (i + 1 + get_or delays t 0) (get_or ends t 0))) where
    module _ (t : ℕ) (l : t < 64) (h : T (has (running s z.modes) t)) where
      on : Runs s z.modes t
      on = running_e s z.modes t h

      starts : has set t ≡ has z.entered (source s t)
      starts = rw (se, has_meet, has-sources_in s z.entered t on.small, is_true (has (running s z.modes) t) h, and-true)

      -- a timer that runs and was not entered ran before
      ran_before : has z.entered (source s t) ≡ false → T (has (running s x) t)
      unfolding tick_from
      ran_before e =
          running_i s x t (record { small = on.small; timer = on.timer; on = was (stayed_or_entered s _ input x (source s t) on.on) })
        where
          was : T (has x (source s t)) ⊎ T (has z.entered (source s t)) → T (has x (source s t))
          was (inl r) = r
          was (inr r) = absurd (subst T e r)

      reading_after : get_or ends' t 0 - (i + 1) ≡ cond (has z.entered (source s t)) (delay s t) (reading now.readings t - 1)
      unfolding reading
      reading_after =
          ap (λ (e : ℕ). e - (i + 1)) (deadline_after set i delays ends ee t l starts (delay_at s ye t l on)) ∙ at (has z.entered (source s t)) refl
        where
          at : (b : Bool) → has z.entered (source s t) ≡ b
              → cond b (i + 1 + delay s t) (get_or ends t 0) - (i + 1) ≡ cond b (delay s t) (get_or now.readings t 0 - 1)
          at true e = omega arith
          at false e = let r = reading_from (running s x) ends i t l (ran_before e) in omega arith

    -- and the limits
    module _ (limits' : List ℕ) (aged : Moved i x z.modes z.entered limits limits') where
      next_state_lem : state_at s z.modes ends' limits' (i + 1) ≡ state_after s now z
      unfolding state_after
      next_state_lem =
          state_next (running s z.modes) ends' (i + 1) z.modes z.modes z.entered limits' (source s) (delay s) now reading_after
          (ages_next i x z.modes z.entered limits limits' k.timed.young aged)

      next_modes : i < length inputs → input / 2 ^ k_of s ≡ 0 → {soon' : ℕ}
          → ((t : ℕ) → T (has (running s z.modes) t) → i + 1 < get_or ends' t 0 → soon' ≤ get_or ends' t 0)
          → ReachedModes s inputs out₀ numbers₀ q₀ (over out (5 * i) (five_words z)) (over numbers (64 * i) (numbers_from s now input)) ends' limits'
          z.modes (sources_in s z.modes) soon' (total + o.rounds) (i + 1)
      unfolding sheet_step
      next_modes l b later =
          let rounds : o.rounds ≤ t_of s = unfold tick_from in (rounds_le s (due_timers (running s x) now.readings) input x) in
          let right = subst (Right s) (sym next_state_lem) (right_next s k.sound now input k.right done) in
          let ahead = right_ahead s k.sound z.modes ends' limits' (i + 1) right in
          record {
            timed = record {
              reached = rw next_state_lem (reached_turn (k_of s) (sheet_step s) inputs out₀ q₀ k.timed.reached l b done (five_long s now input));
              long = ap length ee ∙ row_from-length (λ t. cond (has set t) (i + 1 + get_or delays t 0) (get_or ends t 0)) 0 64;
              ahead = ahead;
              young = young_next i x z.modes z.entered limits limits' k.timed.young aged;
            };
            written = written_next s inputs numbers₀ q₀ k.written l next_state_lem;
            sound = k.sound;
            sources = refl;
            known = unfold tick_from in (inr (keeps_consistent_lem s k.sound x _ input k.known));
            right = right;
            later = λ t h. later t h (ahead t h).0;
            few = omega (arith, k.few, t_le s k.sound);
          }

  -- ---- the tick: its due timers are those whose deadline it is

  module _ {timers d : ℕ} (te : timers ≡ running s x) (de : d ≡ those 64 timers (λ t. eqb (get_or ends t 0) (i + 1))) where
    due_is : d ≡ due_timers (running s x) now.readings
    due_is = due_now k.timed refl te de

    pub tick_begins : {b : Start} → StartOf s x b → Before s b d
    tick_begins = begins_by s k.known now.readings due_is

    -- the rounds from what is triggered first
    pub tick_of_lem : sheet_refusal s ≡ 0 → input < 2 ^ k_of s → {b : Start} {first : ℕ} {r : Tick} → StartOf s x b → first ≡ triggered s d input (start_sets b)
        → r ≡ rounds_by s (suc (t_of s)) input (start_sets b) first 0 → r ≡ tick s x d input
    unfolding tick_begins begins_by
    tick_of_lem h v st e g = tick_by s h (tick_begins st) v e g

    -- its numbers
    pub numbers_of : sheet_refusal s ≡ 0 → input < 2 ^ k_of s → {b : Start} {first : ℕ} → StartOf s x b → first ≡ triggered s d input (start_sets b)
        → row_from 0 64 (fired_by s (suc (t_of s)) input (start_sets b) first) ≡ tick_numbers s x d input
    unfolding tick_begins begins_by
    numbers_of h v st e = numbers_by s h (tick_begins st) v e

    module _ (l : i < length inputs) (b : input / 2 ^ k_of s ≡ 0) {r : Tick} (re : r ≡ tick s x d input) where
      tick_now : r ≡ o
      unfolding tick_from
      tick_now = re ∙ ap (λ (y : ℕ). tick s x y input) due_is

      pub tick_refused : (r.refusal ≡ 0 → ⊥) → ended_run ends limits x x timers i total r.refusal out ≡ ran out₀ (sheet_ticks s inputs q₀)
      unfolding sheet_step
      tick_refused n = ends_refused k.timed refl te l b (ap (λ (y : Tick). y.refusal) (sym tick_now)) n

      -- a mode that is in the set at its end was there before it or was entered
      pub tick_stayed : (m : ℕ) → T (has r.sets.modes m) → T (has x m) ⊎ T (has r.sets.entered m)
      tick_stayed = rw re (stayed_or_entered s d input x)

      numbers_now : tick_numbers s x d input ≡ numbers_from s now input
      unfolding numbers_from
      numbers_now = ap (λ (y : ℕ). tick_numbers s x y input) due_is

      module _ (n : r.refusal ≡ 0) {live' total' : ℕ} {out' numbers' row : List ℕ} (oe : out' ≡ over out (5 * i) (five_words r.sets))
          (ne : numbers' ≡ over numbers (64 * i) row) (we : row ≡ tick_numbers s x d input) (le : live' ≡ sources_in s r.sets.modes) (tt : total' ≡ total + r.rounds) where
        -- the deadlines of the timers that start are set
        pub next_turn_lem : {set : ℕ} {delays ends' limits' : List ℕ} → set ≡ meet (sources_in s r.sets.entered) (running s r.sets.modes)
            → delays ≡ row_from 0 64 (timer_delay s) → ends' ≡ row_from 0 64 (λ t. cond (has set t) (i + 1 + get_or delays t 0) (get_or ends t 0))
            → Moved i x r.sets.modes r.sets.entered limits limits'
            → {soon' : ℕ} → ((t : ℕ) → T (has (running s r.sets.modes) t) → i + 1 < get_or ends' t 0 → soon' ≤ get_or ends' t 0)
            → ReachedModes s inputs out₀ numbers₀ q₀ out' numbers' ends' limits' r.sets.modes live' soon' total' (i + 1)
        next_turn_lem {limits' = limits'} se ye ee aged later =
            rw (oe, ne, we, numbers_now, le, tt, tick_now)
            (next_modes (sym (ap (λ (y : Tick). y.refusal) tick_now) ∙ n) (rw tick_now at se) ye ee limits' (rw tick_now at aged) l b (rw tick_now at later))

    -- nothing is triggered in it: the modes and the deadlines stay, and none of those that run was due
    pub next_quiet : i < length inputs → input / 2 ^ k_of s ≡ 0 → {b : Start} {first : ℕ} → StartOf s x b
        → first ≡ triggered s d input (start_sets b) → first ≡ 0 → (x ≡ 0 → ⊥) → {soon' : ℕ} {out' numbers' limits' : List ℕ}
        → ((t : ℕ) → has timers t ≡ true → soon' ≤ get_or ends t 0)
        → out' ≡ over out (5 * i) (0 ∷ 0 ∷ x ∷ 0 ∷ 0 ∷ []) → numbers' ≡ over numbers (64 * i) (zeros 64)
        → limits' ≡ limits
        → ReachedModes s inputs out₀ numbers₀ q₀ out' numbers' ends limits' x live soon' total (i + 1)
    unfolding five_words
    next_quiet l b st e z n {soon'} later oe ne ae =
        next_turn_lem l b
        (ap (λ (y : TickSets). record { refusal = 0; sets = y; rounds = 0 }) (begins s x n) ∙ sym (tick_quiet s x d input none_first))
        refl oe ne (sym (numbers_quiet s x d input none_first)) k.sources (sym (add-zero total)) refl refl same
        (rw ae (moved_none i x limits)) (λ t h _. later t (rw te (is_true (has (running s x) t) h)))
      where
        none_first : triggered s d input (begin s x) ≡ 0
        none_first = sym (ap (triggered s d input) (start_sets_lem s st)) ∙ sym e ∙ z

        set : ℕ
        set = meet (sources_in s 0) (running s x)

        delays : List ℕ
        delays = row_from 0 64 (timer_delay s)

        same : ends ≡ row_from 0 64 (λ t. cond (has set t) (i + 1 + get_or delays t 0) (get_or ends t 0))
        same =
            (rw k.timed.long at (row_from-get_or ends 0))
            ∙ row_from_ext (λ t. get_or ends t 0) (λ t. cond (has set t) (i + 1 + get_or delays t 0) (get_or ends t 0)) 0 64
            (λ t _ _. sym (ap (λ (c : Bool). cond c (i + 1 + get_or delays t 0) (get_or ends t 0)) (none t)))
          where
            none : (t : ℕ) → has set t ≡ false
            none t = has_meet (sources_in s 0) (running s x) t ∙ rw (sources_none s, has_none t)

-- ---- the whole run

module _ (s inputs out numbers : List ℕ) (q : State) where
  -- nothing is refused before its ticks
  pub runs_on : {o : NumberedRun} → sheet_refusal s ≡ 0 → state_ok s q ≡ true → 5 * length inputs ≤ length out → 64 * length inputs ≤ length numbers
      → o ≡ with_numbers s q inputs numbers (ran out (sheet_ticks s inputs q)) → o ≡ sheet_run s q inputs out numbers
  unfolding sheet_run
  runs_on z ok a b e =
      e
      ∙ ap (with_numbers s q inputs numbers) (goes_on_lem (k_of s) (sheet_step s) (sheet_refusal s) (state_ok s q) _ q inputs out z ok (short_neither inputs out numbers a b))

  -- at most T rounds for each done tick
  pub answered : {r : Run} {written : List ℕ} {low : ℕ} → record { run = r; numbers = written } ≡ sheet_run s q inputs out numbers → low < 2 ^ 32
      → (record { run = r; numbers = written } ≡ sheet_run s q inputs out numbers) × (r.rounds ≤ t_of s * r.done) × (low < 2 ^ 32)
  unfolding sheet_run with_numbers ran stops RunRounds
  answered e l =
      let few =
      run_all (k_of s) (sheet_step s) (sheet_refusal s) (state_ok s q) (output_short inputs out || numbers_short inputs numbers) q inputs out
      (λ r. r.rounds ≤ t_of s * r.done) (λ e. zero-le) (run_rounds_lem s inputs q) in
      (e, rw (ap (λ (o : NumberedRun). o.run) e) few, l)
