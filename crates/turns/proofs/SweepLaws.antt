-- Several turns of a station, sweeps, and that passes after a sweep are passes without it. Assumes nothing.
use mathlib.Core.Path.{◌≡◌, refl, sym, ap, ◌∙◌, subst}
use mathlib.Core.Logic.{◌⊎◌, inl, inr}
use mathlib.Core.Bool.{Bool, true, false, ◌&&◌, cond}
use mathlib.Core.List.{List}
use Prim.Native.Nat.{ℕ, zero, suc, ◌+◌, ◌*◌, ◌≤◌, ◌<◌, zero-le}
use native.Mathlib.Nat.{le_refl, le_trans, not-suc-le-zero, eq-or-lt_of_le, le_of_suc-le-suc, add-zero, add-suc, mul-add, suc-mul, mul-le-mul_left}
use native.Mathlib.Omega.{arith}
use lib.Dec.{T, ltb}
use lib.ListN.{length}
use lib.Seq.{length-sets}
use borrow.Author.Tests.{ltb-true, ltb-false, lt-ltb}
use Rattle.sets.specs.Sets.{digit}
use Rattle.sets.proofs.Tests.{of_false}
use Rattle.sets.proofs.Quantifiers.{some_none, some-false}
use Rattle.meaning.specs.Lists.{sum_to}
use Rattle.meaning.specs.TableRun.{table_step}
use Rattle.meaning.specs.Stations.{Station, has_work, Standing, station_at, station_count, some_work, next_set, after_stop, after_tick, turn, turns_from, pass, passes, all_passes, parts_ok}
use Rattle.turns.specs.Sweeps.{working_below, turns_of, sweep_from}
use Rattle.turns.proofs.Turns.{refusal_now, Step, idles, serves, halts, turn_step, step_number, step_other, stop_own, pass_ind, pass_number}
use Rattle.turns.proofs.Sums.{same_or, left_step, no_work_stopped, pass_progress, Over, passes_over}
use Rattle.turns.proofs.Commuting.{turn_free, free_parts, free_turns, free_sweep, free_sweep_lem}

-- ---- sums
sum_to_more : (f : ℕ → ℕ) (m r : ℕ) → sum_to m f ≤ sum_to (m + r) f
unfolding sum_to
sum_to_more f m zero = subst (λ (x : ℕ). sum_to m f ≤ sum_to x f) (sym (add-zero m)) (le_refl _)
sum_to_more f m (suc r) =
    subst (λ (x : ℕ). sum_to m f ≤ sum_to x f) (sym (add-suc m r)) (omega (arith, sum_to_more f m r))

sum_to-le : (n : ℕ) (f g : ℕ → ℕ) → ((i : ℕ) → g i ≤ f i) → sum_to n g ≤ sum_to n f
unfolding sum_to
sum_to-le zero f g h = zero-le
sum_to-le (suc n) f g h = omega (arith, sum_to-le n f g h, h n)

sum_to_none : (n : ℕ) (f : ℕ → ℕ) → sum_to n f ≡ 0 → (i : ℕ) → i < n → f i ≡ 0
unfolding sum_to
sum_to_none zero f e i l = absurd (not-suc-le-zero l)
sum_to_none (suc n) f e i l = at (eq-or-lt_of_le (le_of_suc-le-suc l)) (λ k. sum_to_none n f (omega arith) i k)
  where
    at : (i ≡ n) ⊎ (i < n) → (i < n → f i ≡ 0) → f i ≡ 0
    at (inl q) on = ap f q ∙ omega (arith, e)
    at (inr k) on = on k

digit-le : (b : Bool) → digit b ≤ 1
unfolding digit
digit-le true = le_refl 1
digit-le false = zero-le

digit_one : (b : Bool) → T b → digit b ≡ 1
unfolding digit
digit_one true h = refl
digit_one false h = absurd h

digit_none : (b : Bool) → digit b ≡ 0 → b ≡ false
unfolding digit
digit_none true e = absurd (omega (arith, e))
digit_none false e = refl

-- 1 if station i has work, else 0
abbrev works : Standing → ℕ → ℕ
works a i = digit (has_work (station_at a i))

module _ (w inputs : List ℕ) where
  -- ---- a turn
  -- with nothing left, or without work, it changes nothing
  step_idle : (m : ℕ) (a b : Standing) → (0 < a.left → T (has_work (station_at a m)) → ⊥) → Step w inputs m a b → b ≡ a
  step_idle m a b n (idles _) = refl
  step_idle m a b n (serves l h _) = absurd (n l h)
  step_idle m a b n (halts l h _) = absurd (n l h)

  step_room : (m : ℕ) (a b : Standing) → Step w inputs m a b → length b.out ≡ length a.out
  step_room m a b (idles _) = refl
  step_room m a b (serves _ _ _) =
      let s = station_at a m in
      length-sets a.out (s.out_start + 5 * s.position) (table_step w s.state (next_set inputs s)).words
  step_room m a b (halts _ _ _) = refl

  -- it costs at most a tick, and that only with work
  step_cost : (m : ℕ) (a b : Standing) → Step w inputs m a b → a.left ≤ b.left + works a m
  step_cost m a b (idles _) = omega arith
  step_cost m a b (serves _ h _) = omega (arith, digit_one (has_work (station_at a m)) h)
  step_cost m a b (halts _ _ _) = omega arith

  -- a station without work has none after it
  step_works : (m : ℕ) (a b : Standing) → Step w inputs m a b → (i : ℕ) → works b i ≤ works a i
  step_works m a b s i = at b (same_or i m) s
    where
      most : (b : Standing) → i ≡ m → T (has_work (station_at a m)) → works b i ≤ works a i
      most b e h =
          let k : works a i ≡ 1 = ap (works a) e ∙ digit_one (has_work (station_at a m)) h in
          omega (arith, k, digit-le (has_work (station_at b i)))

      at : (b : Standing) → (i ≡ m) ⊎ (i ≡ m → ⊥) → Step w inputs m a b → works b i ≤ works a i
      at b (inr d) s = omega (arith, ap (λ (x : Station). digit (has_work x)) (step_other w inputs m a b s i d))
      at b (inl e) (idles _) = le_refl _
      at b (inl e) (serves l h r) = most (after_tick w inputs m a) e h
      at b (inl e) (halts l h r) = most (after_stop (refusal_now w inputs a m) m a) e h

  -- it leaves the parts as they are
  turn_parts : (m : ℕ) (a : Standing)
      → parts_ok (turn w inputs m a).stations inputs (turn w inputs m a).out ≡ parts_ok a.stations inputs a.out
  turn_parts m a = go (ltb 0 a.left) refl
    where
      ok : Standing → Bool
      ok b = parts_ok b.stations inputs b.out

      go : (x : Bool) → ltb 0 a.left ≡ x → ok (turn w inputs m a) ≡ ok a
      go true e = ap ok (turn_free w inputs m a (λ h. ltb-true 0 a.left e)) ∙ free_parts w inputs m a
      go false e =
          let none = ltb-false 0 a.left e in
          ap ok (step_idle m a (turn w inputs m a) (λ l h. omega arith) (turn_step w inputs m a))

  -- ---- turns of one station
  pub turns_other : (p m : ℕ) (a : Standing) (i : ℕ) → (i ≡ m → ⊥) → station_at (turns_of w inputs p m a) i ≡ station_at a i
  unfolding turns_of
  turns_other zero m a i d = refl
  turns_other (suc p) m a i d =
      turns_other p m (turn w inputs m a) i d ∙ step_other w inputs m a (turn w inputs m a) (turn_step w inputs m a) i d

  pub turns_count : (p m : ℕ) (a : Standing) → station_count (turns_of w inputs p m a) ≡ station_count a
  unfolding turns_of
  turns_count zero m a = refl
  turns_count (suc p) m a = turns_count p m (turn w inputs m a) ∙ step_number w inputs m a (turn w inputs m a) (turn_step w inputs m a)

  pub turns_room : (p m : ℕ) (a : Standing) → length (turns_of w inputs p m a).out ≡ length a.out
  unfolding turns_of
  turns_room zero m a = refl
  turns_room (suc p) m a = turns_room p m (turn w inputs m a) ∙ step_room m a (turn w inputs m a) (turn_step w inputs m a)

  pub turns_parts : (p m : ℕ) (a : Standing)
      → parts_ok (turns_of w inputs p m a).stations inputs (turns_of w inputs p m a).out ≡ parts_ok a.stations inputs a.out
  unfolding turns_of
  turns_parts zero m a = refl
  turns_parts (suc p) m a = turns_parts p m (turn w inputs m a) ∙ turn_parts m a

  pub turns_left : (p m : ℕ) (a : Standing) → (turns_of w inputs p m a).left ≤ a.left
  unfolding turns_of
  turns_left zero m a = le_refl _
  turns_left (suc p) m a =
      le_trans (turns_left p m (turn w inputs m a)) (left_step w inputs m a (turn w inputs m a) (turn_step w inputs m a))

  -- with nothing left, or without work, they change nothing
  pub turns_idle : (p m : ℕ) (a : Standing) → (0 < a.left → T (has_work (station_at a m)) → ⊥) → turns_of w inputs p m a ≡ a
  unfolding turns_of
  turns_idle zero m a n = refl
  turns_idle (suc p) m a n =
      ap (turns_of w inputs p m) (step_idle m a (turn w inputs m a) n (turn_step w inputs m a)) ∙ turns_idle p m a n

  -- who has work after them was served a tick
  pub turns_fall : (p m : ℕ) (a : Standing) → 0 < a.left → 0 < p → m < station_count a
      → T (has_work (station_at (turns_of w inputs p m a) m)) → (turns_of w inputs p m a).left < a.left
  unfolding turns_of
  turns_fall zero m a l k y h = absurd (not-suc-le-zero k)
  turns_fall (suc p) m a l k y h = go (turn w inputs m a) (turn_step w inputs m a) h
    where
      -- the turns after one that leaves no work
      none : (b : Standing) → has_work (station_at b m) ≡ false → T (has_work (station_at (turns_of w inputs p m b) m)) → ⊥
      none b e h = of_false (ap (λ (c : Standing). has_work (station_at c m)) (turns_idle p m b (λ _ t. of_false e t)) ∙ e) h

      go : (b : Standing) → Step w inputs m a b → T (has_work (station_at (turns_of w inputs p m b) m))
          → (turns_of w inputs p m b).left < a.left
      go b (idles e) h =
          absurd (none a (ap (λ (x : Bool). x && has_work (station_at a m)) (sym (lt-ltb 0 a.left l)) ∙ e) h)
      go b (serves _ _ _) h = omega (arith, turns_left p m (after_tick w inputs m a))
      go b (halts _ _ e) h =
          let f = refusal_now w inputs a m in
          absurd (none (after_stop f m a) (ap has_work (stop_own w inputs f m a y) ∙ no_work_stopped w inputs (station_at a m) f e) h)

  -- what they cost at most
  turns_cost : (p m : ℕ) (a : Standing) → a.left ≤ (turns_of w inputs p m a).left + p * works a m
  unfolding turns_of
  turns_cost zero m a = omega arith
  turns_cost (suc p) m a =
      let b = turn w inputs m a in
      let s = turn_step w inputs m a in
      omega
      (arith, turns_cost p m b, step_cost m a b s, mul-le-mul_left p (step_works m a b s m), suc-mul p (works a m))

  -- with ticks left for all of them no turn needs to ask
  turns_free : (p m : ℕ) (a : Standing) → p * works a m ≤ a.left → turns_of w inputs p m a ≡ free_turns w inputs p m a
  unfolding turns_of free_turns
  turns_free zero m a h = refl
  turns_free (suc p) m a h =
      let b = turn w inputs m a in
      let s = turn_step w inputs m a in
      turns_free p m b (omega (arith, h, step_cost m a b s, mul-le-mul_left p (step_works m a b s m), suc-mul p (works a m)))
      ∙ ap (free_turns w inputs p m)
      (turn_free w inputs m a (λ t. omega (arith, h, suc-mul p (works a m), digit_one (has_work (station_at a m)) t)))

  -- ---- sweeps
  sweep_none : (r m : ℕ) (a : Standing) → sweep_from w inputs 0 r m a ≡ a
  unfolding sweep_from turns_of
  sweep_none zero m a = refl
  sweep_none (suc r) m a = sweep_none r (suc m) a

  sweep_one : (r m : ℕ) (a : Standing) → sweep_from w inputs 1 r m a ≡ turns_from w inputs r m a
  unfolding sweep_from turns_of turns_from
  sweep_one zero m a = refl
  sweep_one (suc r) m a = sweep_one r (suc m) (turn w inputs m a)

  pub sweep_parts : (p r m : ℕ) (a : Standing)
      → parts_ok (sweep_from w inputs p r m a).stations inputs (sweep_from w inputs p r m a).out ≡ parts_ok a.stations inputs a.out
  unfolding sweep_from
  sweep_parts p zero m a = refl
  sweep_parts p (suc r) m a = sweep_parts p r (suc m) (turns_of w inputs p m a) ∙ turns_parts p m a

  -- d: who of the n stations had work when the sweep of p turns began; those from m on are as they were
  sweep_free : (p n : ℕ) (d : ℕ → ℕ) (r m : ℕ) (a : Standing) → m + r ≡ n → ((i : ℕ) → m ≤ i → works a i ≡ d i)
      → p * sum_to n d ≤ a.left + p * sum_to m d → sweep_from w inputs p r m a ≡ free_sweep w inputs p r m a
  unfolding sweep_from free_sweep sum_to
  sweep_free p n d zero m a e k h = refl
  sweep_free p n d (suc r) m a e k h =
      let b = turns_of w inputs p m a in
      let q : p * works a m ≡ p * d m = ap (λ (x : ℕ). p * x) (k m (le_refl m)) in
      let u : suc m + r ≡ n = omega (arith, e) in
      let more : p * sum_to (suc m) d ≤ p * sum_to n d =
      mul-le-mul_left p (subst (λ (x : ℕ). sum_to (suc m) d ≤ sum_to x d) u (sum_to_more d (suc m) r)) in
      let sum : p * sum_to (suc m) d ≡ p * sum_to m d + p * d m = mul-add p (sum_to m d) (d m) in
      sweep_free p n d r (suc m) b u
      (λ i l. ap (λ (x : Station). digit (has_work x)) (turns_other p m a i (λ z. omega arith)) ∙ k i (omega arith))
      (omega (arith, h, sum, turns_cost p m a, q))
      ∙ ap (free_sweep w inputs p r (suc m)) (turns_free p m a (omega (arith, h, more, sum, q)))

  sweep_all : (p n : ℕ) (a : Standing) → p * working_below n a ≤ a.left → sweep_from w inputs p n 0 a ≡ free_sweep w inputs p n 0 a
  unfolding working_below
  sweep_all p n a h = sweep_free p n (works a) n 0 a (omega arith) (λ i l. refl) (omega (arith, h))

  -- ---- passes
  pass_left : (a : Standing) → (pass w inputs a).left ≤ a.left
  pass_left a =
      (pass_ind w inputs (station_count a) (λ m b. b.left ≤ a.left) (λ m b c l k s h. le_trans (left_step w inputs m b c s) h) a refl
      (le_refl _)).0

  pass_parts : (a : Standing)
      → parts_ok (pass w inputs a).stations inputs (pass w inputs a).out ≡ parts_ok a.stations inputs a.out
  unfolding pass
  pass_parts a =
      ap (λ (b : Standing). parts_ok b.stations inputs b.out) (sym (sweep_one (station_count a) 0 a))
      ∙ sweep_parts 1 (station_count a) 0 a

  -- a pass costs at most a tick for each station with work, and gives work to nobody
  pass_cost : (a : Standing) → a.left ≤ (pass w inputs a).left + working_below (station_count a) a
  unfolding working_below sum_to
  pass_cost a =
      (pass_ind w inputs (station_count a) (λ m b. ((i : ℕ) → works b i ≤ works a i) × (a.left ≤ b.left + sum_to m (works a)))
      (λ m b c l k s h. (
        λ i. le_trans (step_works m b c s i) (h.0 i),
        omega (arith, h.1, h.0 m, step_cost m b c s),
      )) a refl (λ i. le_refl _, omega arith)).0.1

  pass_works : (n : ℕ) (a : Standing) → working_below n (pass w inputs a) ≤ working_below n a
  unfolding working_below
  pass_works n a =
      sum_to-le n (works a) (works (pass w inputs a))
      (pass_ind w inputs (station_count a) (λ m b. (i : ℕ) → works b i ≤ works a i)
      (λ m b c l k s h i. le_trans (step_works m b c s i) (h i)) a refl (λ i. le_refl _)).0

  -- where no further pass is due, one changes nothing
  pass_over : (a : Standing) → Over w inputs a → pass w inputs a ≡ a
  unfolding some_work
  pass_over a o =
      (pass_ind w inputs (station_count a) (λ m b. b ≡ a)
      (λ m b c l k s h.
      step_idle m b c (subst (λ (x : Standing). 0 < x.left → T (has_work (station_at x m)) → ⊥) (sym h) (idle m l o)) s ∙ h)
      a refl refl).0
    where
      idle : (m : ℕ) → m < station_count a → Over w inputs a → 0 < a.left → T (has_work (station_at a m)) → ⊥
      idle m l (inl e) z t = omega arith
      idle m l (inr e) z t = of_false (some_none (station_count a) (λ i. has_work (station_at a i)) e m l) t

  -- passes beyond the ticks left change nothing
  passes_more : (f g : ℕ) (a : Standing) → a.left ≤ f → a.left ≤ g → passes w inputs f a ≡ passes w inputs g a
  unfolding passes
  passes_more zero g a l k = sym (passes_over w inputs g a (inl (omega arith)))
  passes_more (suc f) zero a l k = passes_over w inputs (suc f) a (inl (omega arith))
  passes_more (suc f) (suc g) a l k = go (ltb 0 a.left) (some_work a) refl (passes_more f g (pass w inputs a))
    where
      b : Standing
      b = pass w inputs a

      go : (x y : Bool) → ltb 0 a.left ≡ x → (b.left ≤ f → b.left ≤ g → passes w inputs f b ≡ passes w inputs g b)
          → cond (x && y) (passes w inputs f b) a ≡ cond (x && y) (passes w inputs g b) a
      go false y e ih = refl
      go true false e ih = refl
      go true true e ih = on (pass_progress w inputs a (ltb-true 0 a.left e))
        where
          on : (b.left < a.left) ⊎ (some_work b ≡ false) → passes w inputs f b ≡ passes w inputs g b
          on (inl h) = ih (omega arith) (omega arith)
          on (inr h) = passes_over w inputs f b (inr h) ∙ sym (passes_over w inputs g b (inr h))

  -- all passes after a pass are all passes
  pub passes_pass : (a : Standing) → all_passes w inputs (pass w inputs a) ≡ all_passes w inputs a
  unfolding all_passes passes
  passes_pass a =
      go (ltb 0 a.left) (some_work a) refl refl ∙ passes_more (suc a.left) a.left a (omega arith) (le_refl _)
    where
      b : Standing
      b = pass w inputs a

      same : Over w inputs a → passes w inputs b.left b ≡ a
      same o = ap (λ (c : Standing). passes w inputs c.left c) (pass_over a o) ∙ passes_over w inputs a.left a o

      go : (x y : Bool) → ltb 0 a.left ≡ x → some_work a ≡ y
          → passes w inputs b.left b ≡ cond (x && y) (passes w inputs a.left b) a
      go false y e k = let z = ltb-false 0 a.left e in same (inl (omega arith))
      go true false e k = same (inr k)
      go true true e k = passes_more b.left a.left b (le_refl _) (pass_left a)

  pub passes_spent : (a : Standing) → a.left ≡ 0 → all_passes w inputs a ≡ a
  unfolding all_passes
  passes_spent a e = passes_over w inputs a.left a (inl e)

  pub passes_idle : (a : Standing) → working_below (station_count a) a ≡ 0 → all_passes w inputs a ≡ a
  unfolding all_passes working_below some_work
  passes_idle a e =
      passes_over w inputs a.left a
      (inr (some-false (station_count a) (λ i. has_work (station_at a i))
      (λ i l. digit_none _ (sum_to_none (station_count a) (works a) e i l))))

  -- ---- a sweep of p turns for each station, with ticks left for all of them, is p passes
  sweep_many : (p : ℕ) (a : Standing) → T (parts_ok a.stations inputs a.out) → p * working_below (station_count a) a ≤ a.left
      → all_passes w inputs (sweep_from w inputs p (station_count a) 0 a) ≡ all_passes w inputs a
  unfolding pass
  sweep_many zero a ok h = ap (all_passes w inputs) (sweep_none (station_count a) 0 a)
  sweep_many (suc p) a ok h =
      let n = station_count a in
      let b = pass w inputs a in
      let all : suc p * working_below n a ≡ p * working_below n a + working_below n a = suc-mul p (working_below n a) in
      let one : free_sweep w inputs 1 n 0 a ≡ b = sym (sweep_all 1 n a (omega (arith, h, all))) ∙ sweep_one n 0 a in
      let rest : p * working_below n b ≤ b.left = omega (arith, h, all, pass_cost a, mul-le-mul_left p (pass_works n a)) in
      let is : sweep_from w inputs (suc p) n 0 a ≡ sweep_from w inputs p n 0 b =
      sweep_all (suc p) n a h ∙ free_sweep_lem w inputs p n 0 a ok (omega arith) ∙ ap (free_sweep w inputs p n 0) one
      ∙ sym (sweep_all p n b rest) in
      ap (all_passes w inputs) is
      ∙ ap (λ (x : ℕ). all_passes w inputs (sweep_from w inputs p x 0 b)) (sym (pass_number w inputs a))
      ∙ sweep_many p b (subst T (sym (pass_parts a)) ok)
      (subst (λ (x : ℕ). p * working_below x b ≤ b.left) (sym (pass_number w inputs a)) rest)
      ∙ passes_pass a

  pub sweep_passes : (p : ℕ) (a : Standing) → T (parts_ok a.stations inputs a.out) → 0 < p
      → (p ≡ 1) ⊎ (p * working_below (station_count a) a ≤ a.left)
      → all_passes w inputs (sweep_from w inputs p (station_count a) 0 a) ≡ all_passes w inputs a
  unfolding pass
  sweep_passes p a ok z (inl e) =
      ap (λ (x : ℕ). all_passes w inputs (sweep_from w inputs x (station_count a) 0 a)) e
      ∙ ap (all_passes w inputs) (sweep_one (station_count a) 0 a) ∙ passes_pass a
  sweep_passes p a ok z (inr h) = sweep_many p a ok h
