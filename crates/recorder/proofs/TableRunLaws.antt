-- The table run by deadlines and limits: what is left from here, in a block by those now, gives what all gives from the start. Assumes nothing.
use mathlib.Core.Path.{◌≡◌, refl, sym, ap, ap₂, ◌∙◌, subst}
use mathlib.Core.Bool.{Bool, true, false, not, ◌&&◌, cond}
use mathlib.Core.List.{List}
use Prim.Native.Nat.{ℕ, ◌+◌, ◌-◌, ◌*◌, ◌/◌, ◌^◌, ◌≤◌, ◌<◌}
use native.Mathlib.Nat.{add-zero, mul_comm, pow-le-pow_right, lt_of_lt_of_le, lt_of_le_of_lt}
use native.Mathlib.Omega.{arith}
use lib.Dec.{T, eqb, eqb→eq}
use lib.ListN.{length, get_or}
use borrow.Author.Tests.{not-false}
use Rattle.sets.specs.Sets.{has, meet, minus, set_of, those, members, size, some_in}
use Rattle.sets.proofs.Tests.{is_true, of_true, and_l, and_r, and_i}
use Rattle.sets.proofs.Facts.{has-lt, every_in_e}
use Rattle.sets.proofs.Membership.{has_none, has_meet, has-minus, minus-le}
use Rattle.sets.proofs.Quantifiers.{minus_every}
use Rattle.rows.specs.Over.{over}
use Rattle.meaning.specs.Lists.{row_from, refused_if}
use Rattle.meaning.specs.Ages.{ages_ok}
use Rattle.meaning.specs.Run.{State, reading, due_timers, ran}
use Rattle.meaning.specs.Table.{word_in, k_in, b_in, source_in, delay_in, offset_in, mask_in, timers_in, cells_in, cell_word, table_ok}
use Rattle.meaning.specs.TableRun.{due_number, table_state_ok, cell_of, state_after_cell, is_stale, table_step, table_ticks}
use Rattle.meaning.proofs.TableLaws.{due_number-lt}
use Rattle.run.specs.Entries.{limits_by}
use Rattle.run.specs.Runs.{ended_run}
use Rattle.run.proofs.DeadlineLaws.{state_from, state_next, deadline_after, state_start, start_within}
use Rattle.run.proofs.EntryLaws.{Young, young_start, ages_start, Moved, young_next, ages_next, moved_none, limits_none}
use Rattle.run.proofs.LoopLaws.{input_below, reached_start, reached_turn, ByDeadlines, due_now, ends_refused}
use Rattle.meaning.proofs.TableLaws.{cell_lt}
use Rattle.meaning.proofs.LayoutLaws.{next_lt}
use Rattle.table.proofs.LayoutFacts.{shape_of, k_le, timers_few, timer_lt, delay_pos, delay-lt, cell_inside}
use Rattle.recorder.specs.Timers.{timer_delay_in, timers_from}
use Rattle.recorder.specs.Runs.{five_in}
use Rattle.meaning.proofs.ListLaws.{row_at, row_from-length}
use Rattle.recorder.proofs.BlockPlaceLaws.{cell_small}
use Rattle.recorder.proofs.TimerLaws.{delay_at}
use Rattle.recorder.proofs.TableStateLaws.{admitted}
use Rattle.recorder.proofs.RestartLaws.{started_there, reading_after, reading_left, stale_is, stays}

-- the state after i ticks, in block b
abbrev pub state_at : List ℕ → ℕ → List ℕ → List ℕ → ℕ → State
state_at w b ends limits i = state_from b (mask_in w b) (timers_in w b) ends limits i

-- what a run works out of its table once: how many events it has, the delays, the timers of each source, the sources
pub record Known (w : List ℕ) (k : ℕ) (delays from : List ℕ) (timed : ℕ) : Type 0 where
  pub sound : T (table_ok w)
  pub events_are : k ≡ k_in w
  pub delays_are : delays ≡ row_from 0 64 (timer_delay_in w)
  pub timers_are : from ≡ row_from 0 32 (timers_from w)
  pub sources_are : timed ≡ set_of 32 (λ m. not (eqb (get_or from m 0) 0))

-- ---- input i is reached in block b, by the deadlines ends and the limits of ages

pub record ReachedBlock (w inputs out₀ : List ℕ) (q₀ : State) (out ends limits : List ℕ) (b i : ℕ) : Type 0 where
  pub timed : ByDeadlines (k_in w) (table_step w) inputs out₀ q₀ out ends limits b (mask_in w b) (timers_in w b) 0 i
  pub sound : T (table_ok w)
  pub low : b < b_in w
  pub fits : timers_in w b < 2 ^ 64

-- at the start the deadlines are the readings, and the limits of ages are as many ticks later as they lack
module _ (w : List ℕ) (h : T (table_ok w)) (q : State) (ok : table_state_ok w q ≡ true) {b : ℕ} {ends limits : List ℕ} (be : b ≡ q.at)
    (ee : ends ≡ q.readings) (se : limits ≡ row_from 0 32 (λ m. 65535 - get_or q.ages m 0)) (long : length ends ≡ 64) where
  young : T (ages_ok (mask_in w q.at) q.ages)
  young = (admitted w h q ok).2

  pub start_state : length q.ages ≡ 32 → state_at w b ends limits 0 ≡ q
  start_state n =
      ap₂ (λ (x : ℕ) (l : List ℕ). state_at w x l limits 0) be ee
      ∙ state_start (timers_in w q.at) (delay_in w) q (admitted w h q ok).1 (mask_in w q.at) limits (sym (ap length ee) ∙ long)
      (ages_start (mask_in w q.at) q.ages young se n)

  pub start_block : {inputs out : List ℕ} → timers_in w b < 2 ^ 64 → 5 * length inputs ≤ length out
      → ReachedBlock w inputs out (state_at w b ends limits 0) out ends (limits_by limits out 0 0) b 0
  start_block {inputs} {out} fits room =
      subst (λ (l : List ℕ). ReachedBlock w inputs out (state_at w b ends limits 0) out ends l b 0)
      (sym (limits_none limits out 0 (ap length se ∙ row_from-length _ 0 32)))
      record {
        timed = record {
          reached = reached_start (k_in w) (table_step w) inputs out (state_at w b ends limits 0) room;
          long = long;
          ahead = rw (be, ee) ahead;
          young = subst (λ (x : ℕ). Young (mask_in w x) limits 0) (sym be) (young_start (mask_in w q.at) q.ages young se);
        };
        sound = h;
        low = subst (λ (x : ℕ). x < b_in w) (sym be) (admitted w h q ok).0;
        fits = fits;
      }
    where
      ahead : (t : ℕ) → T (has (timers_in w q.at) t) → (0 < get_or q.readings t 0) × (get_or q.readings t 0 ≤ 0 + 65535)
      ahead t m =
          let r = start_within (timers_in w q.at) (delay_in w) q (admitted w h q ok).1 t (has-lt 64 (timers_in w q.at) t (rw be at fits) m) m in
          (omega (arith, r.0), omega (arith, r.1, delay-lt w t))

-- the deadline v of a timer with a reading f left after a tick, started in it or not, and running before it or not
deadline_left : (i : ℕ) (started on : Bool) {v f r e d : ℕ} → v ≡ cond started (i + 1 + d) e → f ≡ cond started d (r - 1) → 0 < f
    → r ≡ cond on (e - i) 0 → d < 65536 → (T on → e ≤ i + 65535)
    → (i + 1 < v) × (v ≤ i + 1 + 65535) × (v - (i + 1) ≡ cond started d (r - 1))
deadline_left i true on v f l r d far = (omega arith, omega arith, omega arith)
deadline_left i false true v f l r d far = (omega arith, omega (arith, far tt), omega arith)
deadline_left i false false v f l r d far = absurd (omega arith)

module _ {w inputs out₀ : List ℕ} {q₀ : State} {out ends limits : List ℕ} {b i : ℕ} (k : ReachedBlock w inputs out₀ q₀ out ends limits b i) where
  abbrev now : State
  now = state_at w b ends limits i

  reading-now : (t : ℕ) → t < 64 → reading now.readings t ≡ cond (has (timers_in w b) t) (get_or ends t 0 - i) 0
  unfolding reading
  reading-now t l = row_at 64 (λ u. cond (has (timers_in w b) u) (get_or ends u 0 - i) 0) t l

  idle : (t : ℕ) → t < 64 → has (timers_in w b) t ≡ false → reading now.readings t ≡ 0
  idle t l e = reading-now t l ∙ ap (λ (a : Bool). cond a (get_or ends t 0 - i) 0) e

  -- six timers at most: there is room for their number above the input set, and with it the cell's number is small
  few : {timers : ℕ} → timers ≡ timers_in w b → size 64 timers ≤ 6
  few te = rw te (timers_few w (shape_of w k.sound) b k.low)

  pub number_room : {timers e : ℕ} → timers ≡ timers_in w b → e ≡ k_in w → e + size 64 timers ≤ 64
  number_room te ke = omega (arith, few te, ke, k_le w (shape_of w k.sound))

  pub cell_below : {timers e : ℕ} → timers ≡ timers_in w b → e ≡ k_in w → (d : ℕ) {n input : ℕ} → n ≡ 2 ^ e * due_number (members 64 timers) d → input < 2 ^ e → n + input < 4096
  unfolding size
  cell_below {timers} {e} te ke d {n} {input} ne l =
      let small = lt_of_lt_of_le (due_number-lt (members 64 timers) d) (pow-le-pow_right (omega arith) {i = size 64 timers} (few te)) in
      subst (λ (x : ℕ). x + input < 4096) (sym (ne ∙ mul_comm (2 ^ e) (due_number (members 64 timers) d)))
      (cell_small e small (omega (arith, ke, k_le w (shape_of w k.sound))) l)

  -- ---- the state after a cell, by the deadlines and limits then

  module _ (c : ℕ) (n : cell_word w b c 0 < b_in w) (s : is_stale w (state_after_cell w now c) ≡ false) (ends' limits' : List ℕ)
      (e : (t : ℕ) → t < 64 → T (has (timers_in w (cell_word w b c 0)) t)
      → get_or ends' t 0 ≡ cond (has (cell_word w b c 1) (source_in w t)) (i + 1 + delay_in w t) (get_or ends t 0))
      (aged : Moved i (mask_in w b) (mask_in w (cell_word w b c 0)) (cell_word w b c 1) limits limits') where
    abbrev next : ℕ
    next = cell_word w b c 0

    after : (t : ℕ) → t < 64 → T (has (timers_in w next) t)
        → (i + 1 < get_or ends' t 0) × (get_or ends' t 0 ≤ i + 1 + 65535)
        × (get_or ends' t 0 - (i + 1) ≡ cond (has (cell_word w b c 1) (source_in w t)) (delay_in w t) (reading now.readings t - 1))
    after t l m =
        deadline_left i (has (cell_word w b c 1) (source_in w t)) (has (timers_in w b) t) (e t l m) (reading_after w k.sound now c n t l m)
        (reading_left w k.sound now c n t l m s) (reading-now t l) (delay-lt w t) (λ g. (k.timed.ahead t g).1)

    next_state_lem : state_at w next ends' limits' (i + 1) ≡ state_after_cell w now c
    unfolding state_after_cell
    next_state_lem =
        state_next (timers_in w next) ends' (i + 1) next (mask_in w next) (cell_word w b c 1) limits' (source_in w) (delay_in w) now (λ t l m. (after t l m).2)
        (ages_next i (mask_in w b) (mask_in w next) (cell_word w b c 1) limits limits' k.timed.young aged)

-- the number of the due timers, in the place above the input set
pub number_scaled : (w : List ℕ) {e n : ℕ} (d : ℕ) → e ≡ k_in w → n ≡ 2 ^ e * d → n ≡ d * 2 ^ k_in w
number_scaled w {e} d ke ne = ne ∙ mul_comm (2 ^ e) d ∙ ap (λ (x : ℕ). d * 2 ^ x) ke

-- ---- the tick of an input set below 2^k: its due timers choose the cell

-- the code's values: the timers that run, those due and their number, and the place of the cell's words
pub record Chosen (w inputs out₀ : List ℕ) (q₀ : State) (out ends limits : List ℕ) (b i active timers d n cell : ℕ) : Type 0 where
  pub here : ReachedBlock w inputs out₀ q₀ out ends limits b i
  pub active_is : active ≡ mask_in w b
  pub running : timers ≡ timers_in w b
  pub more : i < length inputs
  pub below : get_or inputs i 0 / 2 ^ k_in w ≡ 0
  pub due : d ≡ those 64 timers (λ t. eqb (get_or ends t 0) (i + 1))
  pub number : n ≡ due_number (members 64 timers) d
  pub place : cell ≡ offset_in w b + 3 + 6 * (n * 2 ^ k_in w + get_or inputs i 0)

module _ {w inputs out₀ : List ℕ} {q₀ : State} {out ends limits : List ℕ} {b i active timers d n cell : ℕ} (p : Chosen w inputs out₀ q₀ out ends limits b i active timers d n cell) where
  abbrev k : ReachedBlock w inputs out₀ q₀ out ends limits b i
  k = p.here

  abbrev h : T (table_ok w)
  h = k.sound

  abbrev q : State
  q = state_at w b ends limits i

  abbrev input : ℕ
  input = get_or inputs i 0

  abbrev c : ℕ
  c = cell_of w q input

  -- what the cell says: the next block, its timers, the modes entered
  abbrev next_block : ℕ
  next_block = cell_word w b c 0

  abbrev next_timers : ℕ
  next_timers = timers_in w next_block

  abbrev entered : ℕ
  entered = cell_word w b c 1

  due_is : d ≡ due_timers (timers_in w b) q.readings
  due_is = due_now k.timed p.active_is p.running p.due

  place_is : cell ≡ offset_in w b + 3 + 6 * c
  unfolding cell_of
  place_is = p.place ∙ rw (p.number, p.running, due_is)

  there : c < cells_in w b
  there = cell_lt w q input (input_below (k_in w) input p.below)

  pub cell_room : cell + 6 ≤ length w
  cell_room = omega (arith, place_is, cell_inside w (shape_of w h) b k.low c there)

  next_is : get_or w cell 0 ≡ next_block
  unfolding cell_word word_in
  next_is = ap (λ (x : ℕ). get_or w x 0) (place_is ∙ sym (add-zero (offset_in w b + 3 + 6 * c)))

  entered_is : get_or w (cell + 1) 0 ≡ entered
  unfolding cell_word word_in
  entered_is = ap (λ (x : ℕ). get_or w (x + 1) 0) place_is

  five_is : five_in w cell ≡ row_from 1 5 (cell_word w b c)
  unfolding row_from cell_word word_in
  five_is = ap (λ (x : ℕ). five_in w x) place_is

  low : next_block < b_in w
  low = next_lt w h b k.low c there

  pub next_below : get_or w cell 0 < b_in w
  next_below = subst (λ (x : ℕ). x < b_in w) (sym next_is) low

  -- the tick of the definition: refused 15, or done
  turn : is_stale w (state_after_cell w q c) ≡ false → (ends' limits' : List ℕ) → length ends' ≡ 64 → next_timers < 2 ^ 64
      → ((t : ℕ) → t < 64 → T (has next_timers t) → get_or ends' t 0 ≡ cond (has entered (source_in w t)) (i + 1 + delay_in w t) (get_or ends t 0))
      → Moved i (mask_in w b) (mask_in w next_block) entered limits limits'
      → ReachedBlock w inputs out₀ q₀ (over out (5 * i) (row_from 1 5 (cell_word w b c))) ends' limits' next_block (i + 1)
  unfolding table_step refused_if
  turn s ends' limits' long fits e aged =
      record {
        timed = record {
          reached =
              rw (next_state_lem k c low s ends' limits' e aged)
              (reached_turn (k_in w) (table_step w) inputs out₀ q₀ k.timed.reached p.more p.below (rw s refl) (row_from-length (cell_word w b c) 1 5));
          long = long;
          ahead = λ t m. let r = after k c low s ends' limits' e aged t (has-lt 64 next_timers t fits m) m in (r.0, r.1);
          young = young_next i (mask_in w b) (mask_in w next_block) entered limits limits' k.timed.young aged;
        };
        sound = h;
        low = low;
        fits = fits;
      }

  -- a tick that stays in its block, with no timer due and no mode entered, moves no deadline and no limit
  pub turn-stays : (eqb (get_or w cell 0) b && eqb d 0 && eqb (get_or w (cell + 1) 0) 0) ≡ true → {out' ends' limits' : List ℕ} {b' : ℕ}
      → out' ≡ over out (5 * i) (five_in w cell) → ends' ≡ ends → limits' ≡ limits → b' ≡ b
      → ReachedBlock w inputs out₀ q₀ out' ends' limits' b' (i + 1)
  turn-stays st oe ee se be =
      rw (oe, five_is, ee, se, be)
      (subst (λ (x : ℕ). ReachedBlock w inputs out₀ q₀ (over out (5 * i) (row_from 1 5 (cell_word w b c))) ends limits x (i + 1)) same
      (turn (stays w h q c low (idle k) d due_is fits (ap (timers_in w) same) dz none) ends limits k.timed.long fits
      (λ t u m. ap (λ (a : Bool). cond a (i + 1 + delay_in w t) (get_or ends t 0)) (sym (none t u m)))
      (rw (same, quiet) (moved_none i (mask_in w b) limits))))
    where
      there_still : T (eqb (get_or w cell 0) b && eqb d 0)
      there_still = and_l (eqb (get_or w cell 0) b && eqb d 0) (eqb (get_or w (cell + 1) 0) 0) (of_true st)

      same : next_block ≡ b
      same = sym next_is ∙ eqb→eq (get_or w cell 0) b (and_l (eqb (get_or w cell 0) b) (eqb d 0) there_still)

      dz : d ≡ 0
      dz = eqb→eq d 0 (and_r (eqb (get_or w cell 0) b) (eqb d 0) there_still)

      quiet : entered ≡ 0
      quiet = sym entered_is ∙ eqb→eq (get_or w (cell + 1) 0) 0 (and_r (eqb (get_or w cell 0) b && eqb d 0) (eqb (get_or w (cell + 1) 0) 0) (of_true st))

      fits : next_timers < 2 ^ 64
      fits = rw same k.fits

      none : (t : ℕ) → t < 64 → T (has next_timers t) → has entered (source_in w t) ≡ false
      none t u m = ap (λ (x : ℕ). has x (source_in w t)) quiet ∙ has_none (source_in w t)

  module _ {j : ℕ} {delays from : List ℕ} {timed : ℕ} (v : Known w j delays from timed) where
    -- any other tick: the number and the timers of the next block, and those of them that start again
    module _ {number mask later again : ℕ} (nu : number ≡ get_or w cell 0) (me : mask ≡ mask_in w number) (small : later < 2 ^ 64) (le : later ≡ timers_in w number)
        (ae : again ≡ meet later (set_of 64 (λ t. some_in 32 (meet (get_or w (cell + 1) 0) timed) (λ m. has (get_or from m 0) t)))) where
      next_timers_lem : later ≡ next_timers
      next_timers_lem = le ∙ ap (timers_in w) (nu ∙ next_is)

      next_fits : next_timers < 2 ^ 64
      next_fits = subst (λ (x : ℕ). x < 2 ^ 64) next_timers_lem small

      again_there : (t : ℕ) → t < 64 → T (has next_timers t) → has again t ≡ has entered (source_in w t)
      again_there t u m =
          let s = set_of 64 (λ u. some_in 32 (meet (get_or w (cell + 1) 0) timed) (λ m. has (get_or from m 0) u)) in
          rw (ae, has_meet later s t, next_timers_lem, is_true (has next_timers t) m, entered_is)
          (started_there w h from timed v.timers_are v.sources_are entered t (timer_lt w (shape_of w h) next_block low t m u) (delay_pos w (shape_of w h) next_block low t m u))

      stale-now : is_stale w (state_after_cell w q c) ≡ not (eqb (minus (minus later again) (minus timers d)) 0)
      stale-now = rw (next_timers_lem, p.running) (stale_is w h q c low (idle k) d due_is again next_fits again_there)

      pub ends_stale : not (eqb (minus (minus later again) (minus timers d)) 0) ≡ true → ended_run ends limits b active timers i 0 15 out ≡ ran out₀ (table_ticks w inputs q₀)
      unfolding table_step refused_if
      ends_stale g = ends_refused k.timed p.active_is p.running p.more p.below (rw (stale-now ∙ g)) (λ z. omega arith)

      -- no timer of the next block is due before a tick that is not after soon and before which none that starts again is
      soon_moves : not (eqb (minus (minus later again) (minus timers d)) 0) ≡ false → {ends' : List ℕ} {soon first : ℕ}
          → ends' ≡ row_from 0 64 (λ t. cond (has again t) (i + 1 + get_or delays t 0) (get_or ends t 0))
          → ((t : ℕ) → has timers t ≡ true → soon ≤ get_or ends t 0) → first ≤ soon → ((t : ℕ) → has again t ≡ true → first ≤ get_or ends' t 0)
          → (t : ℕ) → has later t ≡ true → first ≤ get_or ends' t 0
      soon_moves g {ends'} {soon} {first} ee before near started t h = at (has again t) refl
        where
          low_enough : t < 64
          low_enough = has-lt 64 later t small (of_true h)

          -- it does not start again, so it ran
          lasts : has again t ≡ false → has timers t ≡ true
          lasts e =
              let fits = lt_of_le_of_lt (minus-le later again) small in
              let within = of_true (sym (minus_every 64 (minus later again) (minus timers d) fits) ∙ not-false _ g) in
              let on = subst T (sym (has-minus later again t)) (and_i (has later t) (not (has again t)) (of_true h) (of_true (ap not e))) in
              is_true (has timers t)
              (and_l (has timers t) (not (has d t))
              (subst T (has-minus timers d t) (every_in_e 64 (minus later again) (has (minus timers d)) within t low_enough on)))

          at : (b : Bool) → has again t ≡ b → first ≤ get_or ends' t 0
          at true e = started t e
          at false e =
              omega (arith, near, before t (lasts e), deadline_after again i delays ends ee t low_enough e refl)

      turn_moves : not (eqb (minus (minus later again) (minus timers d)) 0) ≡ false
          → {out' ends' limits' : List ℕ} → out' ≡ over out (5 * i) (five_in w cell)
          → ends' ≡ row_from 0 64 (λ t. cond (has again t) (i + 1 + get_or delays t 0) (get_or ends t 0))
          → Moved i active mask (get_or w (cell + 1) 0) limits limits'
          → ReachedBlock w inputs out₀ q₀ out' ends' limits' number (i + 1)
      turn_moves g {out'} {ends'} {limits'} oe ee aged =
          rw (oe, five_is, nu, next_is)
          (turn (stale-now ∙ g) ends' limits' (ap length ee ∙ row_from-length f 0 64) next_fits at (rw (p.active_is, me, nu, next_is, entered_is) at aged))
        where
          f : ℕ → ℕ
          f t = cond (has again t) (i + 1 + get_or delays t 0) (get_or ends t 0)

          at : (t : ℕ) → t < 64 → T (has next_timers t) → get_or ends' t 0 ≡ cond (has entered (source_in w t)) (i + 1 + delay_in w t) (get_or ends t 0)
          at t u m =
              deadline_after again i delays ends ee t u (again_there t u m)
              (ap (λ (r : List ℕ). get_or r t 0) v.delays_are ∙ delay_at w t u (timer_lt w (shape_of w h) next_block low t m u))

      pub moves_on : not (eqb (minus (minus later again) (minus timers d)) 0) ≡ false
          → {out' ends' limits' : List ℕ} {soon first : ℕ} → out' ≡ over out (5 * i) (five_in w cell)
          → ends' ≡ row_from 0 64 (λ t. cond (has again t) (i + 1 + get_or delays t 0) (get_or ends t 0))
          → Moved i active mask (get_or w (cell + 1) 0) limits limits'
          → ((t : ℕ) → has timers t ≡ true → soon ≤ get_or ends t 0) → first ≤ soon → ((t : ℕ) → has again t ≡ true → first ≤ get_or ends' t 0)
          → ReachedBlock w inputs out₀ q₀ out' ends' limits' number (i + 1) × ((t : ℕ) → has later t ≡ true → first ≤ get_or ends' t 0)
      moves_on g oe ee aged before near started = (turn_moves g oe ee aged, soon_moves g ee before near started)
