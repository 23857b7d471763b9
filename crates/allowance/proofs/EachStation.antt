-- Each station of a call: alone, its mark, its share. Assumes nothing.
use mathlib.Core.Path.{◌≡◌, refl, sym, ap, ap₂, ◌∙◌, subst}
use mathlib.Core.Logic.{◌⊎◌, inl, inr}
use mathlib.Core.Bool.{Bool, true, false, ◌&&◌}
use mathlib.Core.List.{List, [], ◌∷◌, ◌++◌}
use Prim.Native.Nat.{ℕ, suc, ◌+◌, ◌-◌, ◌*◌, ◌/◌, ◌≤◌, ◌<◌}
use native.Mathlib.Nat.{le_refl, le_of_eq, add-zero, eq-zero-or-pos, div-lt_iff_lt-mul, mul_comm, le_of_suc-le-suc}
use native.Mathlib.Omega.{arith}
use lib.Dec.{T, eqb, ltb}
use lib.ListN.{length, get_or, take, drop, take-append-drop}
use lib.Seq.{length-take-le, take_all, drop-cons}
use borrow.Author.Tests.{ltb-false}
use Rattle.sets.proofs.Tests.{of_true, of_false}
use Rattle.meaning.specs.Lists.{overwritten, sum_to}
use Rattle.meaning.specs.Run.{State, Ticks, stops, Run, ran, ticks}
use Rattle.meaning.specs.Table.{k_in, table_ok}
use Rattle.meaning.specs.TableRun.{table_state_ok, table_step, table_ticks}
use Rattle.meaning.specs.Stations.{Station, has_work, Standing, station_at, station_count, next_set, turn_refusal, all_passes}
use Rattle.meaning.specs.TickAllowance.{words_of, rest_of, alone_on, Written, Alone, Marked}
use Rattle.meaning.proofs.RunLaws.{ticks_then, ticks_split, words_five}
use Rattle.turns.proofs.Sums.{same_or, sum_to-minus, sum_to_below, serve_sum, serve_left, serve_ends}
use Rattle.turns.proofs.Parts.{Parts}
use Rattle.turns.proofs.Commuting.{work_e}
use Rattle.allowance.proofs.TickLaws.{five_words_lem, turn-stops, turn_bad_state}
use Rattle.allowance.proofs.Own.{Shape, alone_ticks, Halted, Own, Kept, kept}
use Rattle.allowance.proofs.Share.{serve_near}
use Rattle.allowance.proofs.AloneLaws.{rest_length, rest_at, first_sets_lem, part_before, part_laid, run_ticks, run_bad_state, run_none}

-- a station without mark or work has no set left
past : (s : Station) → s.mark ≡ 0 → has_work s ≡ false → s.in_length ≤ s.position
unfolding has_work
past s m h = ltb-false s.position s.in_length (ap (λ (x : ℕ). eqb x 0 && ltb s.position s.in_length) (sym m) ∙ h)

-- from what every turn keeps
module _ (w inputs : List ℕ) (table : T (table_ok w)) (a₀ : Standing) (parts : Parts inputs a₀) where
  abbrev b : Standing
  b = all_passes w inputs a₀

  pub all : Kept w inputs table a₀ parts b
  all = (kept w inputs table a₀ parts).0

  -- ---- one station

  -- station i as lent and as left, and its ticks
  module _ (i : ℕ) (l : i < station_count a₀) where
    abbrev s : Station
    s = station_at a₀ i

    abbrev s' : Station
    s' = station_at b i

    abbrev j : ℕ
    j = s'.position - s.position

    -- its words from its position on, as lent
    abbrev words : List ℕ
    words = drop (5 * s.position) (words_of s a₀.out)

    abbrev run : List ℕ → Run
    run is = alone_on w s is a₀.out

    abbrev OwnLast : Type 0
    OwnLast = Own w inputs s s' b.out j

    abbrev AloneLast : Type 0
    AloneLast = Alone w inputs a₀.out b.out s s' j

    sh : Shape s s'
    sh = all.shape i l

    -- a word of its part that is none of its done ticks is written by nobody
    untouched : (k : ℕ) → s.out_start ≤ k → k < s.out_start + s.out_length → (Written s.out_start s.position j k → ⊥)
        → get_or b.out k 0 ≡ get_or a₀.out k 0
    untouched k lo hi d = all.outside k (λ m y wr. go m y wr (same_or m i))
      where
        By : ℕ → Type 0
        By m = Written (station_at a₀ m).out_start (station_at a₀ m).position ((station_at b m).position - (station_at a₀ m).position) k

        go : (m : ℕ) → m < station_count a₀ → By m → (m ≡ i) ⊎ (m ≡ i → ⊥) → ⊥
        go m y wr (inl z) = d (subst By z wr)
        go m y wr (inr z) =
            let x = wr.from in
            let v = wr.below in
            let f = parts.five m y in
            let g = (all.shape m y).inside (omega arith) in
            parts.apart m i y l z k (omega arith) (omega arith) lo hi

    -- its words, where those of its done ticks are ws
    words_are : (ws : List ℕ) → length ws ≡ 5 * j → 5 * j ≤ s.out_length - 5 * s.position
        → ((u : ℕ) → u < 5 * j → get_or b.out (s.out_start + 5 * s.position + u) 0 ≡ get_or ws u 0)
        → drop (5 * s.position) (words_of s b.out) ≡ overwritten ws words
    words_are ws e k h =
        part_laid s.out_start s.out_length a₀.out b.out (parts.out_fits i l) all.room (5 * s.position) ws (omega arith)
        (λ u q. h u (omega arith))
        (λ u q y. untouched (s.out_start + 5 * s.position + u) (omega arith) (omega arith) (λ wr. let v = wr.below in omega arith))

    words_first : take (5 * s.position) (words_of s b.out) ≡ take (5 * s.position) (words_of s a₀.out)
    words_first =
        part_before s.out_start s.out_length a₀.out b.out (parts.out_fits i l) all.room (5 * s.position)
        (λ u q y. untouched (s.out_start + u) (omega arith) (omega arith) (λ wr. let v = wr.from in omega arith))

    -- the rest of its list: as many sets, and the first x of them
    rest_long : length (rest_of s inputs) ≡ s.in_length - s.position
    rest_long = rest_length s.in_start s.in_length s.position inputs (parts.in_fits i l)

    abbrev first_of : ℕ → List ℕ
    first_of x = take x (drop (s.in_start + s.position) inputs)

    first_are : (x : ℕ) → s.position + x ≤ s.in_length → take x (rest_of s inputs) ≡ first_of x
    first_are x h = first_sets_lem s.in_start s.in_length s.position x inputs (parts.in_fits i l) h

    -- there is room for their words
    room_for : (is : List ℕ) → s.position ≤ s.in_length → length is ≤ s.in_length - s.position → 5 * length is ≤ length words
    room_for is h k =
        let f = parts.five i l in
        omega (arith, rest_length s.out_start s.out_length (5 * s.position) a₀.out (parts.out_fits i l))

    -- the run alone on its first x sets
    run_first : T (table_state_ok w s.state) → (x : ℕ) → s.position + x ≤ s.in_length
        → run (take x (rest_of s inputs)) ≡ ran words (alone_ticks w inputs s x)
    run_first ok x h =
        let long = length-take-le x (rest_of s inputs) (omega (arith, rest_long)) in
        let room = room_for (take x (rest_of s inputs)) (omega arith) (omega (arith, long)) in
        run_ticks w table s.state (take x (rest_of s inputs)) words ok room
        ∙ ap (λ (y : List ℕ). ran words (table_ticks w y s.state)) (first_are x h)

    -- ---- alone: no tick, some ticks

    alone_none : j ≡ 0 → s'.state ≡ s.state → AloneLast
    alone_none e q =
        let r = run_none w s.state words in
        let g = sh.grows in
        record {
          position = omega arith;
          inside = λ z. absurd (omega arith);
          done = subst (λ (x : ℕ). (run (take x (rest_of s inputs))).done ≡ x) (sym e) r.0;
          state = q ∙ sym (subst (λ (x : ℕ). (run (take x (rest_of s inputs))).state ≡ s.state) (sym e) r.1);
          words =
              words_are [] (omega arith) (omega arith) (λ u z. absurd (omega arith)) ∙ nothing
              ∙ sym (subst (λ (x : ℕ). (run (take x (rest_of s inputs))).out ≡ words) (sym e) r.2);
          words_before_lem = words_first;
          in_start = sh.in_start;
          in_length_lem = sh.in_length_lem;
          out_start_lem = sh.out_start_lem;
          out_length_lem = sh.out_length_lem;
        }
      where
        nothing : overwritten [] words ≡ words
        nothing = unfold overwritten in refl

    alone_some : OwnLast → 0 < j → AloneLast
    unfolding ran
    alone_some o p =
        let r = run_first (o.ok p).0 j within in
        record {
          position = o.position;
          inside = λ z. in_part;
          done = ap (λ (x : Run). x.done) r ∙ o.done;
          state = sym (ap (λ (x : Run). x.state) r ∙ o.state);
          words = words_are (alone_ticks w inputs s j).words long room o.words ∙ sym (ap (λ (x : Run). x.out) r);
          words_before_lem = words_first;
          in_start = sh.in_start;
          in_length_lem = sh.in_length_lem;
          out_start_lem = sh.out_start_lem;
          out_length_lem = sh.out_length_lem;
        }
      where
        in_part : s'.position ≤ s.in_length
        in_part = sh.inside (omega arith)

        within : s.position + j ≤ s.in_length
        within = let q = o.position in let z = in_part in omega arith

        room : 5 * j ≤ s.out_length - 5 * s.position
        room = let f = parts.five i l in let z = within in omega arith

        long : length (alone_ticks w inputs s j).words ≡ 5 * j
        long = words_five (k_in w) (table_step w) (five_words_lem w) (first_of j) s.state ∙ ap (λ (x : ℕ). 5 * x) o.done

    -- where it had work
    own : has_work s ≡ true → OwnLast
    own e =
        let o = all.own i l e in
        let p = o.1.position in
        subst (λ (x : ℕ). Own w inputs s s' b.out x) (omega arith) o.1

    still : OwnLast → j ≡ 0 → s'.state ≡ s.state
    still o e = sym (subst (λ (x : ℕ). (alone_ticks w inputs s x).state ≡ s'.state) e o.state) ∙ none
      where
        none : (alone_ticks w inputs s 0).state ≡ s.state
        none = unfold ticks stops in refl

    pub alone : Alone w inputs a₀.out b.out s s' j
    alone = go (has_work s) refl
      where
        some : OwnLast → (j ≡ 0) ⊎ (0 < j) → AloneLast
        some o (inl e) = alone_none e (still o e)
        some o (inr p) = alone_some o p

        go : (x : Bool) → has_work s ≡ x → AloneLast
        go false e =
            let q = all.passed i l e in
            let z = ap (λ (x : Station). x.position) q in
            alone_none (omega arith) (ap (λ (x : Station). x.state) q)
        go true e = some (own e) (eq-zero-or-pos j)

    -- ---- its mark

    abbrev whole : Run
    whole = run (rest_of s inputs)

    -- it has its ticks and its mark of the run alone on the rest of its list
    abbrev Settled : Type 0
    Settled = (s'.mark ≡ whole.refusal) × (j ≡ whole.done)

    run_whole : T (table_state_ok w s.state) → s.position ≤ s.in_length → whole ≡ ran words (table_ticks w (rest_of s inputs) s.state)
    run_whole ok h = run_ticks w table s.state (rest_of s inputs) words ok (room_for (rest_of s inputs) h (le_of_eq rest_long))

    -- it has no more sets
    finished : OwnLast → s.position < s.in_length → s'.mark ≡ 0 → s.in_length ≤ s'.position → Settled
    unfolding ran
    finished o p m h =
        let r = run_whole (o.ok (omega arith)).0 (omega arith) in (
          m ∙ sym (ap (λ (x : Run). x.refusal) r ∙ ap (λ (x : List ℕ). (table_ticks w x s.state).refusal) same ∙ o.fine),
          sym (ap (λ (x : Run). x.done) r ∙ ap (λ (x : List ℕ). (table_ticks w x s.state).done) same ∙ o.done),
        )
      where
        ends : j ≡ s.in_length - s.position
        ends = let z = sh.inside (omega arith) in omega arith

        same : rest_of s inputs ≡ first_of j
        same = let z = ends in sym (take_all j (rest_of s inputs) (omega (arith, rest_long))) ∙ first_are j (omega arith)

    -- it was stopped
    halted : OwnLast → Halted w inputs s' → Settled
    unfolding ran stops ticks_then
    halted o h = go (table_state_ok w s'.state) refl (eq-zero-or-pos j)
      where
        here : s.position + j < s.in_length
        here = let p = o.position in let e = sh.in_length_lem in let z = h.early in omega arith

        -- the refused set, and those after it
        next : ℕ
        next = next_set inputs s'

        later : List ℕ
        later = drop (suc j) (rest_of s inputs)

        set_is : get_or (rest_of s inputs) j 0 ≡ next
        set_is = unfold next_set in
            (rest_at s.in_start s.in_length s.position inputs j here
            ∙ ap (λ (x : ℕ). get_or inputs x 0) (let p = o.position in let y = sh.in_start in omega arith))

        split : rest_of s inputs ≡ first_of j ++ next ∷ later
        split =
            sym (take-append-drop j (rest_of s inputs))
            ∙ ap₂ (λ (x y : List ℕ). x ++ y) (first_are j (let z = here in omega arith))
            (drop-cons (rest_of s inputs) j 0 (let z = here in omega (arith, rest_long)) ∙ ap (λ (x : ℕ). x ∷ later) set_is)

        fine : T (table_state_ok w s.state) → T (table_state_ok w s'.state) → Settled
        fine ok ok' =
            let r = run_whole ok (let z = here in omega arith) in
            let before = alone_ticks w inputs s j in
            let t : table_ticks w (rest_of s inputs) s.state ≡ ticks_then before (stops (turn_refusal w s'.state next) s'.state) =
            ap (λ (x : List ℕ). table_ticks w x s.state) split
            ∙ ticks_split (k_in w) (table_step w) (first_of j) (next ∷ later) s.state o.fine
            ∙ ap (λ (x : State). ticks_then before (table_ticks w (next ∷ later) x)) o.state
            ∙ ap (ticks_then before) (turn-stops w s'.state next later ok' (λ z. h.nonzero (h.refused ∙ z))) in (
              h.refused ∙ sym (ap (λ (x : Run). x.refusal) r ∙ ap (λ (x : Ticks). x.refusal) t),
              sym (ap (λ (x : Run). x.done) r ∙ ap (λ (x : Ticks). x.done) t ∙ add-zero _ ∙ o.done),
            )

        go : (x : Bool) → table_state_ok w s'.state ≡ x → (j ≡ 0) ⊎ (0 < j) → Settled
        go x e (inr q) = fine (o.ok q).0 (o.ok q).1
        go true e (inl q) = fine (subst (λ (x : State). T (table_state_ok w x)) (still o q) (of_true e)) (of_true e)
        go false e (inl q) =
            let r = run_bad_state w table s.state (rest_of s inputs) words (ap (table_state_ok w) (sym (still o q)) ∙ e) in
            let bad = turn_bad_state w s'.state next e in
            (h.refused ∙ bad ∙ sym (ap (λ (x : Run). x.refusal) r), q ∙ sym (ap (λ (x : Run). x.done) r))

    pub marked : Marked w inputs a₀.out b.out s s' j
    marked = record { passed_over = all.passed i l; settled = λ e z. go (own e) e z (own e).mark }
      where
        go : OwnLast → has_work s ≡ true → has_work s' ≡ false → (s'.mark ≡ 0) ⊎ Halted w inputs s' → Settled
        go o e z (inl m) =
            finished o (work_e s (of_true e)).1 m (subst (λ (x : ℕ). x ≤ s'.position) sh.in_length_lem (past s' m z))
        go o e z (inr m) = halted o m

  -- ---- the whole call

  abbrev n : ℕ
  n = station_count a₀

  abbrev gotten : ℕ → ℕ
  gotten i = (station_at b i).position - (station_at a₀ i).position

  pub served_sum : sum_to n gotten ≡ a₀.left - b.left
  served_sum =
      let x = sum_to-minus n (λ i. (station_at a₀ i).position) (λ i. (station_at b i).position) (λ i l. (all.shape i l).grows) in
      let y = serve_sum w inputs a₀ in
      let z = serve_left w inputs a₀ in
      omega arith

  pub number_same : station_count b ≡ n
  number_same = (kept w inputs table a₀ parts).1

  -- with ticks left nobody has work
  idle_left : 0 < b.left → (i : ℕ) → i < n → has_work (station_at b i) ≡ false
  idle_left h i l = serve_ends w inputs a₀ h i (subst (λ (x : ℕ). i < x) (sym number_same) l)

  pub idle_end : a₀.left - b.left < a₀.left → (i : ℕ) → i < n → has_work (station_at b i) ≡ false
  idle_end h = idle_left (omega arith)

  -- with work left, the share
  pub share_of : (i : ℕ) → i < n → T (has_work (station_at b i)) → a₀.left / n ≤ gotten i
  share_of i l t = le_of_suc-le-suc ((div-lt_iff_lt-mul (pos l)).1 (subst (λ (x : ℕ). a₀.left < x) (mul_comm n (suc (gotten i))) under))
    where
      pos : i < n → 0 < n
      pos q = omega arith

      sum : sum_to n gotten < n * suc (gotten i)
      sum = sum_to_below n (gotten i) i gotten ((serve_near w inputs a₀ i l).near t) l (le_refl (gotten i))

      spent : (b.left ≡ 0) ⊎ (0 < b.left) → b.left ≡ 0
      spent (inl e) = e
      spent (inr q) = absurd (of_false (idle_left q i l) t)

      under : a₀.left < n * suc (gotten i)
      under =
          let x = served_sum in
          let z = spent (eq-zero-or-pos b.left) in
          let e : sum_to n gotten ≡ a₀.left = omega arith in
          subst (λ (v : ℕ). v < n * suc (gotten i)) e sum
