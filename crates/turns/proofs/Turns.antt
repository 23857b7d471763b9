-- What a turn does, and induction over the turns of a call. Assumes nothing.
use mathlib.Core.Path.{◌≡◌, refl, sym, ◌∙◌, subst}
use mathlib.Core.Bool.{Bool, true, false, ◌&&◌, cond}
use mathlib.Core.List.{List}
use Prim.Native.Nat.{ℕ, zero, suc, ◌+◌, ◌<◌}
use native.Mathlib.Nat.{add-zero}
use native.Mathlib.Omega.{arith}
use lib.Dec.{T, eqb, ltb}
use lib.ListN.{length-set}
use lib.Seq.{get_or-set_same, get_or-set_other}
use borrow.Author.Tests.{eqb-true, eqb-false, ltb-true}
use Rattle.sets.proofs.Tests.{is_true, of_true, and_l, and_r}
use Rattle.meaning.specs.TableRun.{table_step}
use Rattle.meaning.specs.Stations.{blank, ticked, stopped, has_work, Standing, station_at, station_count, some_work, next_set, after_stop, turn_refusal, after_tick, turn, turns_from, pass, passes, all_passes}

module _ (w inputs : List ℕ) where
  -- why the turn of station m would stop it
  abbrev pub refusal_now : Standing → ℕ → ℕ
  refusal_now a m = turn_refusal w (station_at a m).state (next_set inputs (station_at a m))

  -- a turn of station m from a: nothing, a tick, or a stop
  pub data Step (m : ℕ) (a : Standing) : Standing → Type 0 where
    idles : (ltb 0 a.left && has_work (station_at a m)) ≡ false → Step m a a
    serves : 0 < a.left → T (has_work (station_at a m)) → refusal_now a m ≡ 0 → Step m a (after_tick w inputs m a)
    halts : 0 < a.left → T (has_work (station_at a m)) → (refusal_now a m ≡ 0 → ⊥) → Step m a (after_stop (refusal_now a m) m a)

  pub turn_step : (m : ℕ) (a : Standing) → Step m a (turn w inputs m a)
  unfolding turn
  turn_step m a = go (ltb 0 a.left && has_work (station_at a m)) (eqb (refusal_now a m) 0) refl refl
    where
      go : (x y : Bool) → (ltb 0 a.left && has_work (station_at a m)) ≡ x → eqb (refusal_now a m) 0 ≡ y
          → Step m a (cond x (cond y (after_tick w inputs m a) (after_stop (refusal_now a m) m a)) a)
      go false y ex ey = idles ex
      go true true ex ey =
          let h = of_true ex in
          serves (ltb-true 0 a.left (is_true _ (and_l (ltb 0 a.left) (has_work (station_at a m)) h))) (and_r (ltb 0 a.left) (has_work (station_at a m)) h) (eqb-true (refusal_now a m) 0 ey)
      go true false ex ey =
          let h = of_true ex in
          halts (ltb-true 0 a.left (is_true _ (and_l (ltb 0 a.left) (has_work (station_at a m)) h))) (and_r (ltb 0 a.left) (has_work (station_at a m)) h) (eqb-false (refusal_now a m) 0 ey)

  -- the number of stations stays
  pub step_number : (m : ℕ) (a b : Standing) → Step m a b → station_count b ≡ station_count a
  step_number m a b (idles _) = refl
  step_number m a b (serves _ _ _) = length-set a.stations m _
  step_number m a b (halts _ _ _) = length-set a.stations m _

  -- a turn leaves every other station as it is
  pub step_other : (m : ℕ) (a b : Standing) → Step m a b → (i : ℕ) → (i ≡ m → ⊥) → station_at b i ≡ station_at a i
  step_other m a b (idles _) i d = refl
  step_other m a b (serves _ _ _) i d = get_or-set_other a.stations m i _ blank d
  step_other m a b (halts _ _ _) i d = get_or-set_other a.stations m i _ blank d

  -- its own after a tick and after a stop
  pub tick_own : (m : ℕ) (a : Standing) → m < station_count a → station_at (after_tick w inputs m a) m ≡ ticked (station_at a m) (table_step w (station_at a m).state (next_set inputs (station_at a m))).state
  tick_own m a l = get_or-set_same a.stations m _ blank l

  pub stop_own : (e m : ℕ) (a : Standing) → m < station_count a → station_at (after_stop e m a) m ≡ stopped (station_at a m) e
  stop_own e m a l = get_or-set_same a.stations m _ blank l

  -- what each turn of a pass carries on, a pass does: P m before the turn of station m
  module _ (n : ℕ) (P : ℕ → Standing → Type 0) (keeps : (m : ℕ) (a b : Standing) → m < n → station_count a ≡ n → Step m a b → P m a → P (suc m) b) where
    pub turns_ind : (r m : ℕ) (a : Standing) → m + r ≡ n → station_count a ≡ n → P m a → P n (turns_from w inputs r m a) × (station_count (turns_from w inputs r m a) ≡ n)
    unfolding turns_from
    turns_ind zero m a e k h = (subst (λ (x : ℕ). P x a) (sym (add-zero m) ∙ e) h, k)
    turns_ind (suc r) m a e k h =
        let s = turn_step m a in
        turns_ind r (suc m) (turn w inputs m a) (omega arith) (step_number m a (turn w inputs m a) s ∙ k) (keeps m a (turn w inputs m a) (omega arith) k s h)

    pub pass_ind : (a : Standing) → station_count a ≡ n → P 0 a → P n (pass w inputs a) × (station_count (pass w inputs a) ≡ n)
    unfolding pass
    pass_ind a k h = subst (λ (r : ℕ). P n (turns_from w inputs r 0 a) × (station_count (turns_from w inputs r 0 a) ≡ n)) (sym k) (turns_ind n 0 a (omega arith) k h)

  pub pass_number : (a : Standing) → station_count (pass w inputs a) ≡ station_count a
  pass_number a = (pass_ind (station_count a) (λ m b. Unit {0}) (λ m b c l k s h. tt) a refl tt).1

  -- what each pass keeps, all passes do
  module _ (P : Standing → Type 0) (keeps : (a : Standing) → 0 < a.left → T (some_work a) → P a → P (pass w inputs a)) where
    pub passes_ind : (f : ℕ) (a : Standing) → P a → P (passes w inputs f a)
    unfolding passes
    passes_ind zero a h = h
    passes_ind (suc f) a h = go (ltb 0 a.left && some_work a) refl (passes_ind f (pass w inputs a))
      where
        go : (x : Bool) → (ltb 0 a.left && some_work a) ≡ x → (P (pass w inputs a) → P (passes w inputs f (pass w inputs a))) → P (cond x (passes w inputs f (pass w inputs a)) a)
        go true e ih =
            let t = of_true e in
            ih (keeps a (ltb-true 0 a.left (is_true _ (and_l (ltb 0 a.left) (some_work a) t))) (and_r (ltb 0 a.left) (some_work a) t) h)
        go false e ih = h

  -- what each turn keeps, a call does
  pub serve_keeps : (n : ℕ) (P : Standing → Type 0) → ((m : ℕ) (a b : Standing) → m < n → station_count a ≡ n → Step m a b → P a → P b)
      → (a : Standing) → station_count a ≡ n → P a → P (all_passes w inputs a) × (station_count (all_passes w inputs a) ≡ n)
  unfolding all_passes
  serve_keeps n P keeps a k h =
      passes_ind (λ b. P b × (station_count b ≡ n)) (λ b l t g. pass_ind n (λ m c. P c) keeps b g.1 g.0) a.left a (h, k)
