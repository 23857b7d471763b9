-- Turns of one station by itself, one after the other, are one table run on its own sets. Assumes nothing.
use mathlib.Core.Path.{◌≡◌, refl, sym, ap, ◌∙◌}
use mathlib.Core.Bool.{Bool, true, false, not, ◌&&◌, and-false}
use mathlib.Core.List.{List, [], ◌∷◌, ◌++◌, append_assoc}
use Prim.Native.Nat.{ℕ, zero, suc, ◌+◌, ◌-◌, ◌*◌, ◌≤◌, zero-le, ◌<◌, min}
use native.Mathlib.Nat.{add-zero, sub-zero}
use native.Mathlib.Omega.{arith}
use lib.Dec.{T, eqb, ltb}
use lib.ListN.{length, set, take, drop, take-append-drop, length-drop}
use lib.Seq.{sets, sets-eq, drop-cons, drop-drop, drop-append-le, length-take-le}
use borrow.Author.Tests.{eqb-true, eqb-false, eq-eqb, ne_eqb, lt-ltb, le-ltb, ltb-true}
use borrow.Rule.Slice.PartMut.{put_mid}
use Rattle.sets.proofs.Tests.{is_true, is_false, of_true, and_l, and_r, and_i}
use Rattle.meaning.specs.Lists.{overwritten, refused_if}
use Rattle.meaning.specs.Run.{State, Ticks, stops, tick_then, output_short, Run, ran, tick_refusal}
use Rattle.meaning.specs.Table.{k_in, cell_word, table_ok}
use Rattle.meaning.specs.TableRun.{table_state_ok, cell_of, table_step, table_ticks, table_run}
use Rattle.meaning.specs.Stations.{Station, ticked, stopped, has_work, Standing, next_set, turn_refusal, turn, standing_at}
use Rattle.meaning.proofs.ListLaws.{row_from-length}
use Rattle.meaning.proofs.RefusalLaws.{first_met, first_passed, first_alone, test_passed_i, test_failed}
use Rattle.meaning.proofs.RunLaws.{ticks_end, ticks_refused, ticks_go, done_le, words_five, run_state, run_goes}
use Rattle.turns.specs.Sweeps.{turns_of}
use Rattle.turns.proofs.Commuting.{work_e}

-- ---- lists

-- a row of stores, then the row after it
sets_more : (us vs l : List ℕ) (i n : ℕ) → n ≡ i + length us → sets (sets l i us) n vs ≡ sets l i (us ++ vs)
sets_more [] vs l i n e = ap (λ (k : ℕ). sets l k vs) (e ∙ add-zero i)
sets_more (u ∷ us) vs l i n e = sets_more us vs (set l i u) (suc i) n (omega arith)

-- words put at the front of a part that was lent are words put from the part's place on
part_overwritten : (l : List ℕ) (o k : ℕ) (vs : List ℕ) → length vs ≤ k → o + k ≤ length l
    → put_mid o k l (overwritten vs (take k (drop o l))) ≡ sets l o vs
unfolding overwritten
part_overwritten l o k vs h room =
    let d = drop o l in
    let n = length vs in
    let long : length (take k d) ≡ k = length-take-le k d (omega (arith, length-drop o l)) in
    let rest : drop n (take k d) ++ drop k d ≡ drop (o + n) l =
    sym (drop-append-le n (take k d) (drop k d) (omega (arith, long))) ∙ ap (drop n) (take-append-drop k d) ∙ drop-drop n o l in
    ap (λ (r : List ℕ). take o l ++ r) (append_assoc vs (drop n (take k d)) (drop k d) ∙ ap (λ (r : List ℕ). vs ++ r) rest)
    ∙ sym (append_assoc (take o l) vs (drop (o + n) l)) ∙ sym (sets-eq vs l o (omega arith))

-- the fewest of turns, ticks left and sets to come, after one of each
fewest_one : (p left d n : ℕ) → suc n ≡ min (suc p) (min left d) → n ≡ min p (min (left - 1) (d - 1))
fewest_one p left d n e = omega arith

fewest_next : (p left len at n : ℕ) → suc n ≡ min (suc p) (min left (len - at)) → n ≡ min p (min (left - 1) (len - suc at))
fewest_next p left len at n e =
    let d : len - at - 1 ≡ len - suc at = omega arith in
    fewest_one p left (len - at) n e ∙ ap (λ (x : ℕ). min p (min (left - 1) x)) d

-- ---- a station after a run of its own, of which so many ticks were done, that left a state and a refusal

abbrev pub after_run : Station → ℕ → State → ℕ → Station
after_run s done state refusal =
    record {
      state = state;
      position = s.position + done;
      mark = refusal;
      in_start = s.in_start;
      in_length = s.in_length;
      out_start = s.out_start;
      out_length = s.out_length;
    }

-- it has work before its part's end, where it has no mark
pub work_i : (s : Station) → s.mark ≡ 0 → s.position < s.in_length → T (has_work s)
unfolding has_work
work_i s e l =
    and_i (eqb s.mark 0) (ltb s.position s.in_length) (of_true (eq-eqb s.mark 0 e))
    (of_true (lt-ltb s.position s.in_length l))

-- where its words stand
abbrev pub words_at : Station → ℕ
words_at s = s.out_start + 5 * s.position

-- where the ticks x of its own leave a call of it alone
abbrev ticks_leave : Station → List ℕ → ℕ → Ticks → Standing
ticks_leave s out left x =
    standing_at (after_run s x.done x.state x.refusal ∷ []) (sets out (words_at s) x.words) (left - x.done)

module _ (w inputs : List ℕ) where
  -- a call of one station
  abbrev alone : Station → List ℕ → ℕ → Standing
  alone s out left = standing_at (s ∷ []) out left

  -- ---- a turn of it

  -- where a turn does nothing, none after it does
  pub turns_idle : (p : ℕ) (s : Station) (out : List ℕ) (left : ℕ) → (ltb 0 left && has_work s) ≡ false
      → turns_of w inputs p 0 (alone s out left) ≡ alone s out left
  unfolding turns_of turn
  turns_idle zero s out left e = refl
  turns_idle (suc p) s out left e = rw e (turns_idle p s out left e)

  -- without work none does
  pub turns_no_work : (p : ℕ) (s : Station) (out : List ℕ) (left : ℕ) → has_work s ≡ false
      → turns_of w inputs p 0 (alone s out left) ≡ alone s out left
  turns_no_work p s out left e = turns_idle p s out left (ap (λ (b : Bool). ltb 0 left && b) e ∙ and-false (ltb 0 left))

  module _ (s : Station) (out : List ℕ) (left : ℕ) (some : 0 < left) (works : T (has_work s)) where
    goes : (ltb 0 left && has_work s) ≡ true
    goes = is_true _ (and_i (ltb 0 left) (has_work s) (of_true (lt-ltb 0 left some)) works)

    turn_serves : turn_refusal w s.state (next_set inputs s) ≡ 0
        → turn w inputs 0 (alone s out left)
        ≡ alone (ticked s (table_step w s.state (next_set inputs s)).state)
        (sets out (words_at s) (table_step w s.state (next_set inputs s)).words) (left - 1)
    unfolding turn
    turn_serves e = rw (goes, eq-eqb (turn_refusal w s.state (next_set inputs s)) 0 e) refl

    turn_halts : (e : ℕ) → turn_refusal w s.state (next_set inputs s) ≡ e → (e ≡ 0 → ⊥)
        → turn w inputs 0 (alone s out left) ≡ alone (stopped s e) out left
    unfolding turn
    turn_halts e h n = rw (goes, h, ne_eqb e 0 n) refl

  -- a station that is stopped has no more turns
  halted : (p : ℕ) (s : Station) (e : ℕ) (out : List ℕ) (left : ℕ) → (e ≡ 0 → ⊥)
      → turns_of w inputs p 0 (alone (stopped s e) out left) ≡ alone (stopped s e) out left
  halted p s e out left n =
      turns_idle p (stopped s e) out left
      (is_false _ (λ h. n (work_e (stopped s e) (and_r (ltb 0 left) (has_work (stopped s e)) h)).0))

  -- why it would stop: the state first, then the tick
  stops_state : (q : State) (i : ℕ) → table_state_ok w q ≡ false → turn_refusal w q i ≡ 14
  unfolding turn_refusal
  stops_state q i e = rw (test_failed (table_state_ok w q) 14 e) (first_met 14 _ (λ h. omega arith))

  stops_tick : (q : State) (i : ℕ) → T (table_state_ok w q) → turn_refusal w q i ≡ tick_refusal (k_in w) (table_step w) q i
  unfolding turn_refusal
  stops_tick q i h =
      first_passed _ _ (test_passed_i (table_state_ok w q) 14 h) ∙ first_alone (tick_refusal (k_in w) (table_step w) q i)

  five : (q : State) (i : ℕ) → length (table_step w q i).words ≡ 5
  unfolding table_step
  five q i = row_from-length (cell_word w q.at (cell_of w q i)) 1 5

  -- ---- turns of it: none, one that stops it, one that serves it a tick and the rest

  none : (s : Station) (out : List ℕ) (left : ℕ) → s.mark ≡ 0 → alone s out left ≡ ticks_leave s out left (table_ticks w [] s.state)
  unfolding stops
  none s out left e =
      rw (ticks_end (k_in w) (table_step w) s.state, add-zero s.position, sub-zero left, ← e) refl

  one_stops : (s : Station) (out : List ℕ) (left i : ℕ) (is : List ℕ) → (tick_refusal (k_in w) (table_step w) s.state i ≡ 0 → ⊥)
      → alone (stopped s (tick_refusal (k_in w) (table_step w) s.state i)) out left
      ≡ ticks_leave s out left (table_ticks w (i ∷ is) s.state)
  unfolding stops
  one_stops s out left i is n =
      rw (ticks_refused (k_in w) (table_step w) i is s.state n, add-zero s.position, sub-zero left) refl

  one_more : (s : Station) (out : List ℕ) (left i : ℕ) (is : List ℕ) → tick_refusal (k_in w) (table_step w) s.state i ≡ 0
      → let o = table_step w s.state i in
      ticks_leave (ticked s o.state) (sets out (words_at s) o.words) (left - 1) (table_ticks w is o.state)
      ≡ ticks_leave s out left (table_ticks w (i ∷ is) s.state)
  unfolding tick_then
  one_more s out left i is e =
      let o = table_step w s.state i in
      let x = table_ticks w is o.state in
      let at : suc s.position + x.done ≡ s.position + suc x.done = omega arith in
      let rest : left - 1 - x.done ≡ left - suc x.done = omega arith in
      let row =
      sets_more o.words x.words out (words_at s) (s.out_start + 5 * suc s.position) (omega (arith, five s.state i)) in
      rw (ticks_go (k_in w) (table_step w) i is s.state e, at, rest, row) refl

  -- ---- all of them

  -- a tick of the table leaves a state that is not refused
  module _ (keeps : (q : State) (i : ℕ) → turn_refusal w q i ≡ 0 → T (table_state_ok w (table_step w q i).state)) where
    -- as many sets as there are turns, ticks left and sets to come
    sets_of_lem : (s : Station) (n : ℕ) → s.in_start + s.in_length ≤ length inputs → s.position < s.in_length
        → take (suc n) (drop (s.in_start + s.position) inputs)
        ≡ next_set inputs s ∷ take n (drop (s.in_start + suc s.position) inputs)
    unfolding next_set
    sets_of_lem s n h l =
        let e : suc (s.in_start + s.position) ≡ s.in_start + suc s.position = omega arith in
        rw (drop-cons inputs (s.in_start + s.position) 0 (omega arith), e) refl

    -- the first turn, and then the rest
    turns_more : (p n : ℕ) (s : Station) (out : List ℕ) (left : ℕ) → 0 < left → s.mark ≡ 0 → s.position < s.in_length
        → T (table_state_ok w s.state) → s.in_start + s.in_length ≤ length inputs
        → let o = table_step w s.state (next_set inputs s) in
        let out' = sets out (words_at s) o.words in
        (T (table_state_ok w o.state)
        → turns_of w inputs p 0 (alone (ticked s o.state) out' (left - 1))
        ≡ ticks_leave (ticked s o.state) out' (left - 1)
        (table_ticks w (take n (drop (s.in_start + suc s.position) inputs)) o.state))
        → turns_of w inputs p 0 (turn w inputs 0 (alone s out left))
        ≡ ticks_leave s out left (table_ticks w (take (suc n) (drop (s.in_start + s.position) inputs)) s.state)
    turns_more p n s out left some m l ok h ih = rw (sets_of_lem s n h l) (go (eqb refused 0) refl)
      where
        i : ℕ
        i = next_set inputs s

        is : List ℕ
        is = take n (drop (s.in_start + suc s.position) inputs)

        refused : ℕ
        refused = tick_refusal (k_in w) (table_step w) s.state i

        go : (b : Bool) → eqb refused 0 ≡ b
            → turns_of w inputs p 0 (turn w inputs 0 (alone s out left)) ≡ ticks_leave s out left (table_ticks w (i ∷ is) s.state)
        go true z =
            let e = eqb-true refused 0 z in
            let f = stops_tick s.state i ok ∙ e in
            ap (turns_of w inputs p 0) (turn_serves s out left some (work_i s m l) f) ∙ ih (keeps s.state i f)
            ∙ one_more s out left i is e
        go false z =
            let e = eqb-false refused 0 z in
            ap (turns_of w inputs p 0) (turn_halts s out left some (work_i s m l) refused (stops_tick s.state i ok) e)
            ∙ halted p s refused out left e ∙ one_stops s out left i is e

    turns_ticks : (p : ℕ) (s : Station) (out : List ℕ) (left n : ℕ) → n ≡ min p (min left (s.in_length - s.position))
        → s.mark ≡ 0 → T (table_state_ok w s.state) → s.in_start + s.in_length ≤ length inputs
        → turns_of w inputs p 0 (alone s out left)
        ≡ ticks_leave s out left (table_ticks w (take n (drop (s.in_start + s.position) inputs)) s.state)
    unfolding turns_of
    turns_ticks zero s out left n e m ok h =
        let z : n ≡ 0 = omega arith in
        rw z (none s out left m)
    turns_ticks (suc p) s out left zero e m ok h =
        turns_idle (suc p) s out left (is_false _ no_turn) ∙ none s out left m
      where
        no_turn : T (ltb 0 left && has_work s) → ⊥
        no_turn t =
            let a = ltb-true 0 left (is_true _ (and_l (ltb 0 left) (has_work s) t)) in
            let b = (work_e s (and_r (ltb 0 left) (has_work s) t)).1 in
            omega arith
    turns_ticks (suc p) s out left (suc n) e m ok h =
        turns_more p n s out left (omega arith) m (omega arith) ok h
        (λ ok'. turns_ticks p (ticked s _) _ (left - 1) n (fewest_next p left s.in_length s.position n e) m ok' h)

    -- ---- the batch law

    -- p turns, of which n can have a tick; o: where their words go; k: how many these are
    module _ (sound : table_ok w ≡ true) (s : Station) (out : List ℕ) (left p n o k : ℕ) (works : T (has_work s)) (some : 0 < left)
        (turns : 0 < p) (h : s.in_start + s.in_length ≤ length inputs) (room : o + k ≤ length out)
        (at : o ≡ words_at s) (count : n ≡ min p (min left (s.in_length - s.position))) (words : k ≡ 5 * n) where
      -- the sets and the output words that the run is lent
      abbrev own : List ℕ
      own = take n (drop (s.in_start + s.position) inputs)

      abbrev lent : List ℕ
      lent = take k (drop o out)

      -- where the run leaves the call
      abbrev run_leaves : Run → Standing
      run_leaves r = alone (after_run s r.done r.state r.refusal) (put_mid o k out r.out) (left - r.done)

      own_length : length own ≡ n
      own_length =
          let l = (work_e s works).1 in
          length-take-le n (drop (s.in_start + s.position) inputs) (omega (arith, length-drop (s.in_start + s.position) inputs))

      lent_length : length lent ≡ k
      lent_length = length-take-le k (drop o out) (omega (arith, length-drop o out))

      layout : refused_if (not (table_ok w)) 15 ≡ 0
      layout = test_passed_i (table_ok w) 15 (of_true sound)

      enough : output_short own lent ≡ false
      unfolding output_short
      enough = le-ltb (length lent) (5 * length own) (omega (arith, own_length, lent_length))

      -- ticks put their words into the lent part
      ticks_leave_lem : (x : Ticks) → length x.words ≤ k → run_leaves (ran lent x) ≡ ticks_leave s out left x
      unfolding ran
      ticks_leave_lem x l =
          let e : put_mid o k out (overwritten x.words lent) ≡ sets out (words_at s) x.words =
          part_overwritten out o k x.words l room ∙ ap (λ (j : ℕ). sets out j x.words) at in
          rw e refl

      fits : length (table_ticks w own s.state).words ≤ k
      fits =
          omega (arith, words_five (k_in w) (table_step w) five own s.state, done_le (k_in w) (table_step w) own s.state, own_length)

      -- a state that is refused stops the station
      halts : (p : ℕ) → 0 < p → turn_refusal w s.state (next_set inputs s) ≡ 14
          → turns_of w inputs p 0 (alone s out left) ≡ ticks_leave s out left (stops 14 s.state)
      unfolding turns_of stops
      halts zero l e = absurd (omega arith)
      halts (suc p) l e =
          ap (turns_of w inputs p 0) (turn_halts s out left some works 14 e (λ h. omega arith))
          ∙ halted p s 14 out left (λ h. omega arith)
          ∙ (rw (add-zero s.position, sub-zero left) refl)

      -- the turns are the run
      pub batch : turns_of w inputs p 0 (alone s out left) ≡ run_leaves (table_run w s.state own lent)
      unfolding table_run
      batch = go (table_state_ok w s.state) refl
        where
          go : (b : Bool) → table_state_ok w s.state ≡ b
              → turns_of w inputs p 0 (alone s out left) ≡ run_leaves (table_run w s.state own lent)
          go true e =
              turns_ticks p s out left n count (work_e s works).0 (of_true e) h ∙ sym (ticks_leave_lem (table_ticks w own s.state) fits)
              ∙ ap run_leaves (sym (run_goes (k_in w) (table_step w) _ _ _ s.state own lent layout e enough))
          go false e =
              halts p turns (stops_state s.state (next_set inputs s) e)
              ∙ sym (ticks_leave_lem (stops 14 s.state) (unfold stops in zero-le))
              ∙ ap run_leaves (sym (run_state (k_in w) (table_step w) _ _ _ s.state own lent layout e))
