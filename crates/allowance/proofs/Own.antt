-- What every turn keeps of every station: its parts, its words, and that it is where it would be alone. Assumes nothing.
use mathlib.Core.Path.{◌≡◌, refl, sym, ap, ◌∙◌, subst}
use mathlib.Core.Logic.{◌⊎◌, inl, inr}
use mathlib.Core.Bool.{true, false}
use mathlib.Core.List.{List, [], ◌∷◌, ◌++◌, append-nil}
use Prim.Native.Nat.{ℕ, zero, suc, ◌+◌, ◌-◌, ◌*◌, ◌≤◌, ◌<◌}
use native.Mathlib.Nat.{le_refl, le_of_eq, not-suc-le-zero, add-zero, eq-zero-or-pos}
use native.Mathlib.Omega.{arith}
use lib.Dec.{T}
use lib.ListN.{length, get_or, set, take, drop, length-set, length-drop, get_or-append}
use lib.Seq.{sets, length-sets, get_or-set_same, get_or-set_other, take-suc, get_or-drop, get_or-append-add}
use Rattle.sets.proofs.Tests.{of_true, of_false, below_or_not}
use Rattle.meaning.specs.Run.{State, Ticks, stops, tick_then, tick_refusal, ticks}
use Rattle.meaning.specs.Table.{k_in, table_ok}
use Rattle.meaning.specs.TableRun.{table_state_ok, table_step, table_ticks}
use Rattle.meaning.specs.Stations.{Station, ticked, stopped, has_work, Standing, station_at, station_count, next_set, turn_refusal, after_tick, all_passes}
use Rattle.meaning.specs.TickAllowance.{Written}
use Rattle.meaning.proofs.RunLaws.{ticks_then, ticks_split, ticks_alone, words_five}
use Rattle.turns.proofs.Turns.{refusal_now, Step, idles, serves, halts, step_other, tick_own, stop_own, serve_keeps}
use Rattle.turns.proofs.Sums.{same_or}
use Rattle.turns.proofs.Parts.{Parts}
use Rattle.turns.proofs.Commuting.{work_e}
use Rattle.allowance.proofs.TickLaws.{five_words_lem, turn_passes, tick_keeps}
use Rattle.allowance.proofs.Share.{effect}

-- ---- stores in a row: the other places stay, and their own have the words

get_or-sets_other : (vs l : List ℕ) (at k : ℕ) → (at ≤ k → k < at + length vs → ⊥) → get_or (sets l at vs) k 0 ≡ get_or l k 0
get_or-sets_other [] l at k h = refl
get_or-sets_other (a ∷ vs) l at k h =
    get_or-sets_other vs (set l at a) (suc at) k (λ x y. h (omega arith) (omega arith))
    ∙ get_or-set_other l at k a 0 (λ e. h (omega arith) (omega arith))

get_or-sets_own : (vs l : List ℕ) (at u : ℕ) → u < length vs → at + length vs ≤ length l → get_or (sets l at vs) (at + u) 0 ≡ get_or vs u 0
get_or-sets_own [] l at u h r = absurd (not-suc-le-zero h)
get_or-sets_own (a ∷ vs) l at zero h r =
    ap (λ (x : ℕ). get_or (sets (set l at a) (suc at) vs) x 0) (add-zero at)
    ∙ get_or-sets_other vs (set l at a) (suc at) at (λ x y. omega arith) ∙ get_or-set_same l at a 0 (omega arith)
get_or-sets_own (a ∷ vs) l at (suc u) h r =
    let e : at + suc u ≡ suc at + u = omega arith in
    ap (λ (x : ℕ). get_or (sets (set l at a) (suc at) vs) x 0) e
    ∙ get_or-sets_own vs (set l at a) (suc at) u (omega arith) (omega (arith, length-set l at a))

-- ---- a station

-- what no turn changes of a station s, now s'
pub record Shape (s s' : Station) : Type 0 where
  pub in_start : s'.in_start ≡ s.in_start
  pub in_length_lem : s'.in_length ≡ s.in_length
  pub out_start_lem : s'.out_start ≡ s.out_start
  pub out_length_lem : s'.out_length ≡ s.out_length
  pub grows : s.position ≤ s'.position
  pub inside : s.position < s'.position → s'.position ≤ s.in_length

shape_start : (s : Station) → Shape s s
shape_start s =
    record {
      in_start = refl;
      in_length_lem = refl;
      out_start_lem = refl;
      out_length_lem = refl;
      grows = le_refl _;
      inside = λ h. absurd (omega arith);
    }

shape_tick : (s s' : Station) (q : State) → s'.position < s'.in_length → Shape s s' → Shape s (ticked s' q)
shape_tick s s' q l h =
    let g = h.grows in
    let e = h.in_length_lem in
    record {
      in_start = h.in_start;
      in_length_lem = h.in_length_lem;
      out_start_lem = h.out_start_lem;
      out_length_lem = h.out_length_lem;
      grows = omega arith;
      inside = λ z. omega arith;
    }

shape_stop : (s s' : Station) (e : ℕ) → Shape s s' → Shape s (stopped s' e)
shape_stop s s' e h =
    record {
      in_start = h.in_start;
      in_length_lem = h.in_length_lem;
      out_start_lem = h.out_start_lem;
      out_length_lem = h.out_length_lem;
      grows = h.grows;
      inside = h.inside;
    }

module _ (w inputs : List ℕ) where
  -- the sets that a station has left, to the end of the list; the ticks of the first j of them alone
  abbrev rest_from : Station → List ℕ
  rest_from s = drop (s.in_start + s.position) inputs

  abbrev pub alone_ticks : Station → ℕ → Ticks
  alone_ticks s j = table_ticks w (take j (rest_from s)) s.state

  -- where its words go
  abbrev words_from : Station → ℕ
  words_from s = s.out_start + 5 * s.position

  -- why a turn of a station would stop it
  abbrev stop_of : Station → ℕ
  stop_of s = turn_refusal w s.state (next_set inputs s)

  -- a station that was stopped: it has sets left, and a turn would stop it by its mark
  pub record Halted (s : Station) : Type 0 where
    pub early : s.position < s.in_length
    pub refused : s.mark ≡ turn_refusal w s.state (next_set inputs s)
    pub nonzero : s.mark ≡ 0 → ⊥

  -- a station with work, lent as s, is where it would be alone after j ticks; out: the output list now
  pub record Own (s s' : Station) (out : List ℕ) (j : ℕ) : Type 0 where
    pub position : s'.position ≡ s.position + j
    pub fine : (alone_ticks s j).refusal ≡ 0
    pub done : (alone_ticks s j).done ≡ j
    pub state : (alone_ticks s j).state ≡ s'.state
    pub ok : 0 < j → T (table_state_ok w s.state) × T (table_state_ok w s'.state)
    pub words : (u : ℕ) → u < 5 * j → get_or out (words_from s + u) 0 ≡ get_or (alone_ticks s j).words u 0
    pub mark : (s'.mark ≡ 0) ⊎ Halted s'

  module _ (table : T (table_ok w)) (a₀ : Standing) (parts : Parts inputs a₀) where
    abbrev n : ℕ
    n = station_count a₀

    -- a station as lent
    abbrev lent : ℕ → Station
    lent i = station_at a₀ i

    -- word k is one of those that station i wrote up to position x
    abbrev WrittenTo : ℕ → ℕ → ℕ → Type 0
    WrittenTo x i k = Written (lent i).out_start (lent i).position (x - (lent i).position) k

    pub record Kept (a : Standing) : Type 0 where
      pub shape : (i : ℕ) → i < n → Shape (lent i) (station_at a i)
      pub room : length a.out ≡ length a₀.out
      pub outside : (k : ℕ) → ((i : ℕ) → i < n → WrittenTo (station_at a i).position i k → ⊥) → get_or a.out k 0 ≡ get_or a₀.out k 0
      pub passed : (i : ℕ) → i < n → has_work (lent i) ≡ false → station_at a i ≡ lent i
      pub own : (i : ℕ) → i < n → has_work (lent i) ≡ true → (j : ℕ) × Own (lent i) (station_at a i) a.out j

    -- ---- at the start

    start : Kept a₀
    start =
        record {
          shape = λ i l. shape_start (lent i);
          room = refl;
          outside = λ k h. refl;
          passed = λ i l h. refl;
          own = λ i l h. (0, own₀ (lent i) h);
        }
      where
        own₀ : (s : Station) → has_work s ≡ true → Own s s a₀.out 0
        own₀ s h =
            unfold ticks stops in
            (record {
              position = sym (add-zero s.position);
              fine = refl;
              done = refl;
              state = refl;
              ok = λ z. absurd (not-suc-le-zero z);
              words = λ u z. absurd (not-suc-le-zero z);
              mark = inl (work_e s (of_true h)).0;
            })

    -- ---- where the words of a tick of station m go, and what they are

    abbrev words_at : Standing → ℕ → ℕ
    words_at a m = words_from (station_at a m)

    abbrev words_now : Standing → ℕ → List ℕ
    words_now a m = (table_step w (station_at a m).state (next_set inputs (station_at a m))).words

    words_now_five : (a : Standing) (m : ℕ) → length (words_now a m) ≡ 5
    words_now_five a m = five_words_lem w (station_at a m).state (next_set inputs (station_at a m))

    -- in the part of m, right after the words of its done ticks
    record Place (a : Standing) (m : ℕ) : Type 0 where
      is : words_at a m ≡ (lent m).out_start + 5 * (station_at a m).position
      from : (lent m).out_start ≤ words_at a m
      ends : words_at a m + 5 ≤ (lent m).out_start + (lent m).out_length
      fits : words_at a m + 5 ≤ length a.out

    place : (m : ℕ) (a : Standing) → m < n → Kept a → T (has_work (station_at a m)) → Place a m
    place m a l h t =
        let sh = h.shape m l in
        let p = (work_e (station_at a m) t).1 in
        let f = parts.five m l in
        let o = parts.out_fits m l in
        let r = h.room in
        let os = sh.out_start_lem in
        let il = sh.in_length_lem in
        record { is = omega arith; from = omega arith; ends = omega arith; fits = omega arith }

    -- ---- one turn: of station m, from a to b

    module _ (m : ℕ) (a : Standing) (l : m < n) (k : station_count a ≡ n) (h : Kept a) where
      here : m < station_count a
      here = subst (λ (x : ℕ). m < x) (sym k) l

      shape_own : (b : Standing) → Step w inputs m a b → Shape (lent m) (station_at b m)
      shape_own b (idles _) = h.shape m l
      shape_own b (serves p t e) =
          subst (Shape (lent m)) (sym (tick_own w inputs m a here))
          (shape_tick (lent m) (station_at a m) _ (work_e (station_at a m) t).1 (h.shape m l))
      shape_own b (halts p t e) =
          subst (Shape (lent m)) (sym (stop_own w inputs (refusal_now w inputs a m) m a here))
          (shape_stop (lent m) (station_at a m) _ (h.shape m l))

      shape_step : (b : Standing) → Step w inputs m a b → (i : ℕ) → i < n → Shape (lent i) (station_at b i)
      shape_step b s i y = go (same_or i m)
        where
          go : (i ≡ m) ⊎ (i ≡ m → ⊥) → Shape (lent i) (station_at b i)
          go (inl e) = subst (λ (x : ℕ). Shape (lent x) (station_at b x)) (sym e) (shape_own b s)
          go (inr d) = subst (Shape (lent i)) (sym (step_other w inputs m a b s i d)) (h.shape i y)

      -- the length of the output list
      room_step : (b : Standing) → Step w inputs m a b → length b.out ≡ length a.out
      room_step b (idles _) = refl
      room_step b (serves _ _ _) = length-sets a.out (words_at a m) (words_now a m)
      room_step b (halts _ _ _) = refl

      -- a station that is passed over
      passed_step : (b : Standing) → Step w inputs m a b → (i : ℕ) → i < n → has_work (lent i) ≡ false → station_at b i ≡ lent i
      passed_step b s i y e = go b (same_or i m) s
        where
          none : i ≡ m → T (has_work (station_at a m)) → ⊥
          none z t = of_false (ap has_work (ap (station_at a) (sym z) ∙ h.passed i y e) ∙ e) t

          go : (c : Standing) → (i ≡ m) ⊎ (i ≡ m → ⊥) → Step w inputs m a c → station_at c i ≡ lent i
          go c (inr d) s = step_other w inputs m a c s i d ∙ h.passed i y e
          go c (inl z) (idles _) = h.passed i y e
          go c (inl z) (serves _ t _) = absurd (none z t)
          go c (inl z) (halts _ t _) = absurd (none z t)

      -- words outside: no position falls, so what was written stays written
      further : (b : Standing) → Step w inputs m a b → (i c : ℕ) → WrittenTo (station_at a i).position i c
          → WrittenTo (station_at b i).position i c
      further b s i c wr =
          let g = go (same_or i m) in
          let v = wr.below in
          record { from = wr.from; below = omega arith }
        where
          go : (i ≡ m) ⊎ (i ≡ m → ⊥) → (station_at a i).position ≤ (station_at b i).position
          go (inl z) =
              subst (λ (x : ℕ). (station_at a x).position ≤ (station_at b x).position) (sym z) (effect w inputs m a b here s).from
          go (inr d) = le_of_eq (ap (λ (x : Station). x.position) (sym (step_other w inputs m a b s i d)))

      outside_step : (b : Standing) → Step w inputs m a b → (c : ℕ) → ((i : ℕ) → i < n → WrittenTo (station_at b i).position i c → ⊥)
          → get_or b.out c 0 ≡ get_or a₀.out c 0
      outside_step b (idles _) c none = h.outside c none
      outside_step b (halts p t d) c none = h.outside c (λ i y wr. none i y (further _ (halts p t d) i c wr))
      outside_step b (serves p t d) c none =
          get_or-sets_other (words_now a m) a.out (words_at a m) c (λ lo hi. none m l (now lo hi))
          ∙ h.outside c (λ i y wr. none i y (further _ (serves p t d) i c wr))
        where
          now : words_at a m ≤ c → c < words_at a m + length (words_now a m)
              → WrittenTo (station_at (after_tick w inputs m a) m).position m c
          now lo hi =
              let g = (h.shape m l).grows in
              let q = (place m a l h t).is in
              let v = ap (λ (x : Station). x.position) (tick_own w inputs m a here) in
              let f = words_now_five a m in
              record { from = omega arith; below = omega arith }

      -- ---- a station with work: another station's tick leaves its words

      own_other : (i : ℕ) → i < n → (i ≡ m → ⊥) → T (has_work (station_at a m)) → (j : ℕ)
          → Own (lent i) (station_at a i) a.out j → Own (lent i) (station_at a i) (after_tick w inputs m a).out j
      own_other i y d t j o =
          record {
            position = o.position;
            fine = o.fine;
            done = o.done;
            state = o.state;
            ok = o.ok;
            words = λ u z. get_or-sets_other (words_now a m) a.out (words_at a m) (words_from (lent i) + u) (apart u z) ∙ o.words u z;
            mark = o.mark;
          }
        where
          apart : (u : ℕ) → u < 5 * j → words_at a m ≤ words_from (lent i) + u
              → words_from (lent i) + u < words_at a m + length (words_now a m) → ⊥
          apart u z lo hi =
              let pl = place m a l h t in
              let five = words_now_five a m in
              let p = o.position in
              let ins = (h.shape i y).inside (omega arith) in
              let f = parts.five i y in
              let q = pl.from in
              let r = pl.ends in
              parts.apart i m y l d (words_from (lent i) + u) (omega arith) (omega arith) (omega arith) (omega arith)

    -- its own stop
    own_stop : (s s' : Station) (out : List ℕ) (j : ℕ) → T (has_work s') → (stop_of s' ≡ 0 → ⊥) → Own s s' out j
        → Own s (stopped s' (stop_of s')) out j
    own_stop s s' out j t d o =
        record {
          position = o.position;
          fine = o.fine;
          done = o.done;
          state = o.state;
          ok = o.ok;
          words = o.words;
          mark = inr (record { early = (work_e s' t).1; refused = unfold next_set in refl; nonzero = d });
        }

    -- its own tick
    own_tick : (s s' : Station) (out : List ℕ) (j : ℕ) → Shape s s' → T (has_work s') → stop_of s' ≡ 0
        → s.in_start + s.in_length ≤ length inputs → s.out_start + 5 * s.in_length ≤ length out → Own s s' out j
        → let o = table_step w s'.state (next_set inputs s') in
        Own s (ticked s' o.state) (sets out (words_from s') o.words) (suc j)
    unfolding ticks_then tick_then stops next_set
    own_tick s s' out j sh t e fi fo o =
        record {
          position = let p = o.position in omega arith;
          fine = ap (λ (x : Ticks). x.refusal) all;
          done = ap (λ (x : Ticks). x.done) all ∙ (let d = o.done in omega arith);
          state = ap (λ (x : Ticks). x.state) all;
          ok = λ z. (first_ok_lem (eq-zero-or-pos j), tick_keeps w table s'.state i e);
          words = λ u z. at_word u z (below_or_not u (5 * j));
          mark = inl (work_e s' t).0;
        }
      where
        i : ℕ
        i = next_set inputs s'

        early : s'.position < s'.in_length
        early = (work_e s' t).1

        passes : T (table_state_ok w s'.state) × (tick_refusal (k_in w) (table_step w) s'.state i ≡ 0)
        passes = turn_passes w s'.state i e

        one : Ticks
        one = tick_then (table_step w s'.state i) (stops 0 (table_step w s'.state i).state)

        first_ok_lem : (j ≡ 0) ⊎ (0 < j) → T (table_state_ok w s.state)
        first_ok_lem (inr z) = (o.ok z).0
        first_ok_lem (inl z) =
            let first = subst (λ (x : ℕ). (alone_ticks s x).state ≡ s'.state) z o.state in
            subst (λ (x : State). T (table_state_ok w x)) (sym first ∙ none) passes.0
          where
            none : (alone_ticks s 0).state ≡ s.state
            none = unfold ticks stops in refl

        -- the set of this tick
        before_end_lem : j < length (rest_from s)
        before_end_lem =
            let p = o.position in
            let r = sh.in_length_lem in
            omega (arith, length-drop (s.in_start + s.position) inputs, early)

        set_is : get_or (rest_from s) j 0 ≡ i
        set_is = get_or-drop (s.in_start + s.position) inputs j 0 ∙ ap (λ (x : ℕ). get_or inputs x 0) here
          where
            here : s.in_start + s.position + j ≡ s'.in_start + s'.position
            here = let p = o.position in let r = sh.in_start in omega arith

        -- the ticks before it, and it
        all : alone_ticks s (suc j) ≡ ticks_then (alone_ticks s j) one
        all =
            ap (λ (x : List ℕ). table_ticks w x s.state)
            (take-suc (rest_from s) j 0 before_end_lem ∙ ap (λ (x : ℕ). take j (rest_from s) ++ (x ∷ [])) set_is)
            ∙ ticks_split (k_in w) (table_step w) (take j (rest_from s)) (i ∷ []) s.state o.fine
            ∙ ap (λ (x : State). ticks_then (alone_ticks s j) (table_ticks w (i ∷ []) x)) o.state
            ∙ ap (ticks_then (alone_ticks s j)) (ticks_alone (k_in w) (table_step w) i s'.state passes.1)

        five : List ℕ
        five = (table_step w s'.state i).words

        old : List ℕ
        old = (alone_ticks s j).words

        at_is : words_from s' ≡ words_from s + 5 * j
        at_is = let p = o.position in let r = sh.out_start_lem in omega arith

        long : length old ≡ 5 * j
        long = words_five (k_in w) (table_step w) (five_words_lem w) (take j (rest_from s)) s.state ∙ ap (λ (x : ℕ). 5 * x) o.done

        new : (alone_ticks s (suc j)).words ≡ old ++ five
        new = ap (λ (x : Ticks). x.words) all ∙ ap (λ (x : List ℕ). old ++ x) (append-nil five)

        at_word : (u : ℕ) → u < 5 * suc j → (u < 5 * j) ⊎ (5 * j ≤ u)
            → get_or (sets out (words_from s') five) (words_from s + u) 0 ≡ get_or (alone_ticks s (suc j)).words u 0
        at_word u z (inl l) =
            get_or-sets_other five out (words_from s') (words_from s + u) (λ x y. omega (arith, at_is))
            ∙ o.words u l ∙ sym (get_or-append old five 0 u (omega (arith, long))) ∙ ap (λ (x : List ℕ). get_or x u 0) (sym new)
        at_word u z (inr l) =
            let v = u - 5 * j in
            let a : words_from s + u ≡ words_from s' + v = omega (arith, at_is) in
            let b : u ≡ length old + v = omega (arith, long) in
            let f = five_words_lem w s'.state i in
            let r = sh.in_length_lem in
            let r' = sh.out_start_lem in
            ap (λ (x : ℕ). get_or (sets out (words_from s') five) x 0) a
            ∙ get_or-sets_own five out (words_from s') v (omega arith) (omega (arith, early))
            ∙ sym (get_or-append-add old five v 0) ∙ ap (λ (x : ℕ). get_or (old ++ five) x 0) (sym b)
            ∙ ap (λ (x : List ℕ). get_or x u 0) (sym new)

    -- every turn
    abbrev OwnNow : Standing → ℕ → Type 0
    OwnNow a i = (j : ℕ) × Own (lent i) (station_at a i) a.out j

    own_step : (m : ℕ) (a b : Standing) → m < n → station_count a ≡ n → Step w inputs m a b → Kept a → (i : ℕ) → i < n
        → has_work (lent i) ≡ true → OwnNow b i
    own_step m a b l k s h i y e = go b (same_or i m) s (h.own i y e)
      where
        own_turn : (c : Standing) → Step w inputs m a c → OwnNow a m → OwnNow c m
        own_turn c (idles _) o = o
        own_turn c (serves p t d) o = (
          suc o.0,
          subst (λ (x : Station). Own (lent m) x (after_tick w inputs m a).out (suc o.0))
              (sym (tick_own w inputs m a (here m a l k h)))
              (own_tick (lent m) (station_at a m) a.out o.0 (h.shape m l) t d (parts.in_fits m l)
              (let f = parts.five m l in let g = parts.out_fits m l in let r = h.room in omega arith) o.1),
        )
        own_turn c (halts p t d) o = (
          o.0,
          subst (λ (x : Station). Own (lent m) x a.out o.0)
              (sym (stop_own w inputs (refusal_now w inputs a m) m a (here m a l k h)))
              (own_stop (lent m) (station_at a m) a.out o.0 t d o.1),
        )

        other_turn : (c : Standing) → (i ≡ m → ⊥) → Step w inputs m a c → (j : ℕ) → Own (lent i) (station_at a i) a.out j
            → Own (lent i) (station_at a i) c.out j
        other_turn c d (idles _) j o = o
        other_turn c d (serves p t x) j o = own_other m a l k h i y d t j o
        other_turn c d (halts p t x) j o = o

        go : (c : Standing) → (i ≡ m) ⊎ (i ≡ m → ⊥) → Step w inputs m a c → OwnNow a i → OwnNow c i
        go c (inl z) s o = subst (OwnNow c) (sym z) (own_turn c s (subst (OwnNow a) z o))
        go c (inr d) s o = (
          o.0,
          subst (λ (x : Station). Own (lent i) x c.out o.0) (sym (step_other w inputs m a c s i d))
              (other_turn c d s o.0 o.1),
        )

    pub kept : Kept (all_passes w inputs a₀) × (station_count (all_passes w inputs a₀) ≡ n)
    kept =
        serve_keeps w inputs n Kept
        (λ m a b l k s h.
        record {
          shape = shape_step m a l k h b s;
          room = room_step m a l k h b s ∙ h.room;
          outside = outside_step m a l k h b s;
          passed = passed_step m a l k h b s;
          own = own_step m a b l k s h;
        }) a₀ refl start
