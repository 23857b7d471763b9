-- Laws of runs, over any step: how ticks end, a run split at any place, what done ticks keep, the tick of each set, what is refused
-- before any tick. Assumes nothing.
use mathlib.Core.Path.{◌≡◌, refl, sym, ap, ap₂, ◌∙◌}
use mathlib.Core.Bool.{Bool, true, false, not, cond}
use mathlib.Core.List.{List, [], ◌∷◌, ◌++◌, append_assoc}
use Prim.Native.Nat.{ℕ, zero, suc, ◌+◌, ◌*◌, ◌≤◌, zero-le, ◌<◌}
use native.Mathlib.Nat.{zero-add, add_assoc, mul-suc, not-suc-le-zero, le_of_suc-le-suc}
use native.Mathlib.Omega.{arith}
use lib.Dec.{eqb, T}
use lib.ListN.{length, get_or, take, length-append}
use borrow.Author.Tests.{eqb-true, eqb-false, eq-eqb, ne_eqb}
use Rattle.sets.proofs.Tests.{is_true, of_true}
use Rattle.meaning.specs.Lists.{refused_if, first_refusal}
use Rattle.meaning.specs.Run.{State, Step, Ticks, stops, tick_then, input_foreign, Run, ran, tick_refusal, ticks, state_at, run}
use Rattle.meaning.proofs.ListLaws.{block_first, block-later}
use Rattle.meaning.proofs.RefusalLaws.{first_met, first_passed, first_alone, none_met, unmet}

-- the ticks a, none of them refused, then the ticks b
unfoldable pub ticks_then : Ticks → Ticks → Ticks
ticks_then a b =
    record { done = a.done + b.done; state = b.state; refusal = b.refusal; words = a.words ++ b.words; rounds = a.rounds + b.rounds }

module _ (k : ℕ) (step : State → ℕ → Step) where
  -- ---- one tick

  module _ (q : State) (i : ℕ) where
    -- a foreign set is refused 13; on any other the step decides
    pub tick_foreign : input_foreign k i ≡ true → tick_refusal k step q i ≡ 13
    unfolding tick_refusal refused_if
    tick_foreign e = rw e (first_met 13 ((step q i).refusal ∷ []) (λ z. omega arith))

    pub tick_known : input_foreign k i ≡ false → tick_refusal k step q i ≡ (step q i).refusal
    unfolding tick_refusal refused_if
    tick_known e = rw e (first_passed 0 ((step q i).refusal ∷ []) refl ∙ first_alone (step q i).refusal)

    -- a tick that is not refused
    pub tick_done : tick_refusal k step q i ≡ 0 → (input_foreign k i ≡ false) × ((step q i).refusal ≡ 0)
    unfolding tick_refusal
    tick_done h =
        let n = none_met (refused_if (input_foreign k i) 13) ((step q i).refusal ∷ []) h in
        (unmet (input_foreign k i) 13 (λ z. omega arith) n.0, sym (first_alone (step q i).refusal) ∙ n.1)

  -- ---- the ticks of a list: none, one that is refused, one that is done and the rest

  pub ticks_end : (q : State) → ticks k step [] q ≡ stops 0 q
  unfolding ticks
  ticks_end q = refl

  pub ticks_refused : (i : ℕ) (is : List ℕ) (q : State) → (tick_refusal k step q i ≡ 0 → ⊥) → ticks k step (i ∷ is) q ≡ stops (tick_refusal k step q i) q
  unfolding ticks
  ticks_refused i is q n = rw (ne_eqb (tick_refusal k step q i) 0 n) refl

  pub ticks_foreign : (i : ℕ) (is : List ℕ) (q : State) → input_foreign k i ≡ true → ticks k step (i ∷ is) q ≡ stops 13 q
  ticks_foreign i is q e =
      let z = tick_foreign q i e in
      ticks_refused i is q (λ h. omega arith) ∙ ap (λ (n : ℕ). stops n q) z

  pub ticks_go : (i : ℕ) (is : List ℕ) (q : State) → tick_refusal k step q i ≡ 0
      → ticks k step (i ∷ is) q ≡ tick_then (step q i) (ticks k step is (step q i).state)
  unfolding ticks
  ticks_go i is q e = rw (eq-eqb (tick_refusal k step q i) 0 e) refl

  -- where the ticks of a list are not refused, the first is not, nor are those after it
  pub first_done : (i : ℕ) (is : List ℕ) (q : State) → (ticks k step (i ∷ is) q).refusal ≡ 0
      → (tick_refusal k step q i ≡ 0) × ((ticks k step is (step q i).state).refusal ≡ 0)
  unfolding ticks tick_then stops
  first_done i is q h = go (eqb (tick_refusal k step q i) 0) refl h
    where
      go : (b : Bool) → eqb (tick_refusal k step q i) 0 ≡ b
          → (cond b (tick_then (step q i) (ticks k step is (step q i).state)) (stops (tick_refusal k step q i) q)).refusal ≡ 0
          → (tick_refusal k step q i ≡ 0) × ((ticks k step is (step q i).state).refusal ≡ 0)
      go true z e = (eqb-true (tick_refusal k step q i) 0 z, e)
      go false z e = absurd (eqb-false (tick_refusal k step q i) 0 z e)

  -- the tick of one set
  pub ticks_alone : (i : ℕ) (q : State) → tick_refusal k step q i ≡ 0 → ticks k step (i ∷ []) q ≡ tick_then (step q i) (stops 0 (step q i).state)
  ticks_alone i q e = ticks_go i [] q e ∙ ap (tick_then (step q i)) (ticks_end (step q i).state)

  pub alone_refusal : (i : ℕ) (q : State) → (ticks k step (i ∷ []) q).refusal ≡ tick_refusal k step q i
  unfolding ticks tick_then stops
  alone_refusal i q = go (eqb (tick_refusal k step q i) 0) refl
    where
      go : (b : Bool) → eqb (tick_refusal k step q i) 0 ≡ b
          → (cond b (tick_then (step q i) (stops 0 (step q i).state)) (stops (tick_refusal k step q i) q)).refusal ≡ tick_refusal k step q i
      go true z = sym (eqb-true (tick_refusal k step q i) 0 z)
      go false z = refl

  -- what holds of the ticks of every list: by a first tick that is refused, or done
  module _ (P : List ℕ → State → Ticks → Type 0) (none : (q : State) → P [] q (stops 0 q))
      (bad : (i : ℕ) (is : List ℕ) (q : State) → (tick_refusal k step q i ≡ 0 → ⊥) → P (i ∷ is) q (stops (tick_refusal k step q i) q))
      (good : (i : ℕ) (is : List ℕ) (q : State) → tick_refusal k step q i ≡ 0 → P is (step q i).state (ticks k step is (step q i).state)
      → P (i ∷ is) q (tick_then (step q i) (ticks k step is (step q i).state))) where
    pub ticks_all : (is : List ℕ) (q : State) → P is q (ticks k step is q)
    unfolding ticks
    ticks_all [] q = none q
    ticks_all (i ∷ is) q = go (eqb (tick_refusal k step q i) 0) refl (ticks_all is (step q i).state)
      where
        go : (b : Bool) → eqb (tick_refusal k step q i) 0 ≡ b → P is (step q i).state (ticks k step is (step q i).state)
            → P (i ∷ is) q (cond b (tick_then (step q i) (ticks k step is (step q i).state)) (stops (tick_refusal k step q i) q))
        go true z ih = good i is q (eqb-true (tick_refusal k step q i) 0 z) ih
        go false z ih = bad i is q (eqb-false (tick_refusal k step q i) 0 z)

  -- ---- a run split at any place

  -- the ticks of a list are those of its front part, then of the rest from the state between
  pub ticks_split : (a b : List ℕ) (q : State) → (ticks k step a q).refusal ≡ 0
      → ticks k step (a ++ b) q ≡ ticks_then (ticks k step a q) (ticks k step b (ticks k step a q).state)
  unfolding ticks_then tick_then
  ticks_split [] b q h =
      unfold ticks stops in
      (ap₂ (λ (n r : ℕ). record { done = n; state = o.state; refusal = o.refusal; words = o.words; rounds = r })
      (sym (zero-add o.done)) (sym (zero-add o.rounds)))
    where
      o : Ticks
      o = ticks k step b q
  ticks_split (i ∷ a) b q h =
      let f = first_done i a q h in
      let ih = ticks_split a b (step q i).state f.1 in
      ticks_go i (a ++ b) q f.0 ∙ ap (tick_then (step q i)) ih ∙ joined (step q i) (ticks k step a (step q i).state) (λ p. ticks k step b p)
      ∙ ap (λ (x : Ticks). ticks_then x (ticks k step b x.state)) (sym (ticks_go i a q f.0))
    where
      joined : (o : Step) (x : Ticks) (rest : State → Ticks) → tick_then o (ticks_then x (rest x.state)) ≡ ticks_then (tick_then o x) (rest (tick_then o x).state)
      joined o x rest =
          let y = rest x.state in
          let n : suc (x.done + y.done) ≡ suc x.done + y.done = omega arith in
          let all : ℕ → List ℕ → ℕ → Ticks = λ d w r. record { done = d; state = y.state; refusal = y.refusal; words = w; rounds = r } in
          ap₂ (λ (d : ℕ) (w : List ℕ). all d w (o.rounds + (x.rounds + y.rounds))) n (sym (append_assoc o.words x.words y.words))
          ∙ ap (all (suc x.done + y.done) ((o.words ++ x.words) ++ y.words)) (sym (add_assoc o.rounds x.rounds y.rounds))

  -- where the front part is refused, it is all
  pub ticks_cut : (a b : List ℕ) (q : State) → ((ticks k step a q).refusal ≡ 0 → ⊥) → ticks k step (a ++ b) q ≡ ticks k step a q
  ticks_cut [] b q n = absurd (n (unfold ticks stops in refl))
  ticks_cut (i ∷ a) b q n = go (eqb (tick_refusal k step q i) 0) refl (ticks_cut a b (step q i).state)
    where
      go : (c : Bool) → eqb (tick_refusal k step q i) 0 ≡ c
          → (((ticks k step a (step q i).state).refusal ≡ 0 → ⊥) → ticks k step (a ++ b) (step q i).state ≡ ticks k step a (step q i).state)
          → ticks k step (i ∷ (a ++ b)) q ≡ ticks k step (i ∷ a) q
      go true z ih =
          let e = eqb-true (tick_refusal k step q i) 0 z in
          ticks_go i (a ++ b) q e
          ∙ ap (tick_then (step q i)) (ih (λ h. n (ap (λ (x : Ticks). x.refusal) (ticks_go i a q e) ∙ (unfold tick_then in h))))
          ∙ sym (ticks_go i a q e)
      go false z ih =
          let e = eqb-false (tick_refusal k step q i) 0 z in
          ticks_refused i (a ++ b) q e ∙ sym (ticks_refused i a q e)

  -- one tick at a time: the tick of the first set, then those of the rest from the state that it left
  pub ticks_one : (i : ℕ) (is : List ℕ) (q : State) → (ticks k step (i ∷ []) q).refusal ≡ 0
      → ticks k step (i ∷ is) q ≡ ticks_then (ticks k step (i ∷ []) q) (ticks k step is (ticks k step (i ∷ []) q).state)
  ticks_one i is q h = ticks_split (i ∷ []) is q h

  -- a front part is not refused where the whole is not
  pub front_done : (a b : List ℕ) (q : State) → (ticks k step (a ++ b) q).refusal ≡ 0 → (ticks k step a q).refusal ≡ 0
  unfolding tick_then
  front_done [] b q h = unfold ticks stops in refl
  front_done (i ∷ a) b q h =
      let f = first_done i (a ++ b) q h in
      ap (λ (x : Ticks). x.refusal) (ticks_go i a q f.0) ∙ front_done a b (step q i).state f.1

  -- ---- what ticks keep

  -- what every done tick keeps holds after them
  module _ (P : State → Type 0) (keeps : (p : State) (i : ℕ) → tick_refusal k step p i ≡ 0 → P p → P (step p i).state) where
    pub ticks_keep : (is : List ℕ) (q : State) → P q → P (ticks k step is q).state
    unfolding stops tick_then
    ticks_keep is q = ticks_all (λ _ p x. P p → P x.state) (λ _ h. h) (λ _ _ _ _ h. h) (λ i _ p e ih h. ih (keeps p i e h)) is q

  -- no more ticks are done than there are sets; all are, where none is refused
  pub done_le : (is : List ℕ) (q : State) → (ticks k step is q).done ≤ length is
  unfolding stops tick_then
  done_le = ticks_all (λ is _ x. x.done ≤ length is) (λ _. zero-le) (λ _ _ _ _. zero-le) (λ i is q e ih. omega arith)

  pub done_all : (is : List ℕ) (q : State) → (ticks k step is q).refusal ≡ 0 → (ticks k step is q).done ≡ length is
  unfolding stops tick_then
  done_all = ticks_all (λ is _ x. x.refusal ≡ 0 → x.done ≡ length is) (λ _ _. refl) (λ _ _ _ n h. absurd (n h)) (λ i is q e ih h. ap suc (ih h))

  -- and only there
  pub done_whole : (is : List ℕ) (q : State) → length is ≤ (ticks k step is q).done → (ticks k step is q).refusal ≡ 0
  unfolding stops tick_then
  done_whole =
      ticks_all (λ is _ x. length is ≤ x.done → x.refusal ≡ 0) (λ _ _. refl) (λ _ _ _ _ h. absurd (not-suc-le-zero h))
      (λ _ _ _ _ ih h. ih (le_of_suc-le-suc h))

  -- as many rounds as m for each done tick, at the most
  module _ (m : ℕ) (few : (p : State) (i : ℕ) → (step p i).rounds ≤ m) where
    pub rounds_few : (is : List ℕ) (q : State) → (ticks k step is q).rounds ≤ m * (ticks k step is q).done
    unfolding stops tick_then
    rounds_few =
        ticks_all (λ _ _ x. x.rounds ≤ m * x.done) (λ _. zero-le) (λ _ _ _ _. zero-le)
        (λ i is q e ih. omega (arith, few q i, mul-suc m (ticks k step is (step q i).state).done))

  -- five words for each done tick
  module _ (five : (p : State) (i : ℕ) → length (step p i).words ≡ 5) where
    pub words_five : (is : List ℕ) (q : State) → length (ticks k step is q).words ≡ 5 * (ticks k step is q).done
    unfolding stops tick_then
    words_five =
        ticks_all (λ _ _ x. length x.words ≡ 5 * x.done) (λ _. refl) (λ _ _ _ _. refl)
        (λ i is q e ih. length-append (step q i).words (ticks k step is (step q i).state).words ∙ omega (arith, five q i))

  -- ---- the tick of set n, counted from 0

  -- it is not refused and leaves the state before the next, and its words stand at 5n
  pub record NthTick (is : List ℕ) (q : State) (words : List ℕ) (n : ℕ) : Type 0 where
    pub unrefused : tick_refusal k step (state_at k step is q n) (get_or is n 0) ≡ 0
    pub next : state_at k step is q (suc n) ≡ (step (state_at k step is q n) (get_or is n 0)).state
    pub word : (j : ℕ) → j < 5 → get_or words (5 * n + j) 0 ≡ get_or (step (state_at k step is q n) (get_or is n 0)).words j 0

  module _ (five : (p : State) (i : ℕ) → length (step p i).words ≡ 5) where
    -- a done tick, and those after it with their words
    module _ (i : ℕ) (is : List ℕ) (q : State) (e : tick_refusal k step q i ≡ 0) (words : List ℕ) where
      state_more : (n : ℕ) → state_at k step (i ∷ is) q (suc n) ≡ state_at k step is (step q i).state n
      unfolding tick_then
      state_more n = ap (λ (x : Ticks). x.state) (ticks_go i (take n is) q e)

      first_tick : NthTick (i ∷ is) q ((step q i).words ++ words) 0
      unfolding ticks stops
      first_tick = record { unrefused = e; next = state_more 0; word = λ j l. block_first 5 (step q i).words words j (five q i) l }

      later_tick : (n : ℕ) → NthTick is (step q i).state words n → NthTick (i ∷ is) q ((step q i).words ++ words) (suc n)
      later_tick n r =
          let back = sym (state_more n) in
          record {
            unrefused = ap (λ (p : State). tick_refusal k step p (get_or is n 0)) (sym back) ∙ r.unrefused;
            next = state_more (suc n) ∙ r.next ∙ ap (λ (p : State). (step p (get_or is n 0)).state) back;
            word = λ j l.
                block-later 5 (step q i).words words n j (five q i) ∙ r.word j l
                ∙ ap (λ (p : State). get_or (step p (get_or is n 0)).words j 0) back;
          }

    pub nth_tick_lem : (is : List ℕ) (q : State) (n : ℕ) → n < (ticks k step is q).done → NthTick is q (ticks k step is q).words n
    unfolding stops tick_then
    nth_tick_lem =
        ticks_all (λ is q x. (n : ℕ) → n < x.done → NthTick is q x.words n) (λ _ _ l. absurd (not-suc-le-zero l))
        (λ _ _ _ _ _ l. absurd (not-suc-le-zero l)) more
      where
        more : (i : ℕ) (is : List ℕ) (q : State) → tick_refusal k step q i ≡ 0
            → let x = ticks k step is (step q i).state in
            ((n : ℕ) → n < x.done → NthTick is (step q i).state x.words n)
            → (n : ℕ) → n < suc x.done → NthTick (i ∷ is) q ((step q i).words ++ x.words) n
        more i is q e ih zero l = first_tick i is q e _
        more i is q e ih (suc n) l = later_tick i is q e _ n (ih n (le_of_suc-le-suc l))

  -- ---- the whole run

  module _ (refusal : ℕ) (ok short : Bool) (q : State) (inputs out : List ℕ) where
    -- what is refused before any tick
    abbrev pub refused_first : ℕ
    refused_first = first_refusal (refusal ∷ refused_if (not ok) 14 ∷ refused_if short 12 ∷ [])

    pub run_stops : (e : ℕ) → refused_first ≡ e → (e ≡ 0 → ⊥) → run k step refusal ok short q inputs out ≡ ran out (stops e q)
    unfolding run
    run_stops e h n = rw (h, ne_eqb e 0 n) refl

    pub run_refused : (refusal ≡ 0 → ⊥) → run k step refusal ok short q inputs out ≡ ran out (stops refusal q)
    run_refused n = run_stops refusal (first_met refusal _ n) n

    pub run_state : refusal ≡ 0 → ok ≡ false → run k step refusal ok short q inputs out ≡ ran out (stops 14 q)
    run_state z e =
        run_stops 14 (first_passed refusal _ z ∙ (unfold refused_if in (rw e (first_met 14 _ (λ h. omega arith))))) (λ h. omega arith)

    pub run_short : refusal ≡ 0 → ok ≡ true → short ≡ true → run k step refusal ok short q inputs out ≡ ran out (stops 12 q)
    run_short z e h =
        run_stops 12
        (first_passed refusal _ z ∙ (unfold refused_if in (rw (e, h) (first_passed 0 (12 ∷ []) refl ∙ first_alone 12)))) (λ n. omega arith)

    -- their refusals
    pub refusal_state : refusal ≡ 0 → ok ≡ false → (run k step refusal ok short q inputs out).refusal ≡ 14
    unfolding ran stops
    refusal_state z e = ap (λ (r : Run). r.refusal) (run_state z e)

    pub refusal_short : refusal ≡ 0 → ok ≡ true → short ≡ true → (run k step refusal ok short q inputs out).refusal ≡ 12
    unfolding ran stops
    refusal_short z e h = ap (λ (r : Run). r.refusal) (run_short z e h)

    pub run_goes : refusal ≡ 0 → ok ≡ true → short ≡ false → run k step refusal ok short q inputs out ≡ ran out (ticks k step inputs q)
    unfolding run
    run_goes z e h =
        let none : refused_first ≡ 0 = first_passed refusal _ z ∙ (unfold refused_if in (rw (e, h) (first_passed 0 (0 ∷ []) refl ∙ first_alone 0))) in
        rw (eq-eqb refused_first 0 none) refl

    -- what holds where the run stops, and of its ticks, holds of it
    pub run_all : (P : Run → Type 0) → ((e : ℕ) → P (ran out (stops e q))) → P (ran out (ticks k step inputs q)) → P (run k step refusal ok short q inputs out)
    unfolding run
    run_all P bad good = go (eqb refused_first 0)
      where
        go : (b : Bool) → P (ran out (cond b (ticks k step inputs q) (stops refused_first q)))
        go true = good
        go false = bad refused_first

  -- ---- 14 and what a run returns

  module _ (refusal : ℕ) (none : refusal ≡ 0) (admits : State → Bool) where
    abbrev run_on : State → Bool → List ℕ → List ℕ → Run
    run_on q short inputs out = run k step refusal (admits q) short q inputs out

    -- where done ticks leave states that are admitted, a run that is not refused 14 returns one
    pub run_leaves_lem : ((p : State) (i : ℕ) → tick_refusal k step p i ≡ 0 → T (admits p) → T (admits (step p i).state))
        → (q : State) (short : Bool) (inputs out : List ℕ) → ((run_on q short inputs out).refusal ≡ 14 → ⊥) → T (admits (run_on q short inputs out).state)
    run_leaves_lem keeps q short inputs out n = go (admits q) refl
      where
        go : (b : Bool) → admits q ≡ b → T (admits (run_on q short inputs out).state)
        go true e =
            run_all refusal (admits q) short q inputs out (λ r. T (admits r.state)) (λ _. unfold ran stops in (of_true e))
            (unfold ran in (ticks_keep (λ p. T (admits p)) keeps inputs q (of_true e)))
        go false e = absurd (n (refusal_state refusal (admits q) short q inputs out none e))

    -- where no tick is refused 14, neither is a run from a state that is admitted
    pub run_admitted : ((p : State) (i : ℕ) → (step p i).refusal ≡ 14 → ⊥) → (q : State) (short : Bool) (inputs out : List ℕ) → T (admits q) → (run_on q short inputs out).refusal ≡ 14 → ⊥
    run_admitted other q short inputs out ok = go short refl
      where
        admitted : admits q ≡ true
        admitted = is_true (admits q) ok

        tick_other : (p : State) (i : ℕ) (b : Bool) → input_foreign k i ≡ b → tick_refusal k step p i ≡ 14 → ⊥
        tick_other p i true e h = let z = tick_foreign p i e in omega arith
        tick_other p i false e h = other p i (sym (tick_known p i e) ∙ h)

        ticks_other : (is : List ℕ) (p : State) → (ticks k step is p).refusal ≡ 14 → ⊥
        ticks_other =
            unfold stops tick_then in
            (ticks_all (λ _ _ x. x.refusal ≡ 14 → ⊥) (λ _ h. omega arith) (λ i _ p _ h. tick_other p i (input_foreign k i) refl h) (λ _ _ _ _ ih h. ih h))

        go : (b : Bool) → short ≡ b → (run_on q short inputs out).refusal ≡ 14 → ⊥
        go true e h = omega (arith, refusal_short refusal (admits q) short q inputs out none admitted e)
        go false e h =
            ticks_other inputs q (sym (ap (λ (x : Run). x.refusal) (run_goes refusal (admits q) short q inputs out none admitted e) ∙ (unfold ran in refl)) ∙ h)
