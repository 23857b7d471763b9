-- The ticks of all stations and the ticks left sum to the allowance; passes end. Assumes nothing.
use mathlib.Core.Path.{◌≡◌, refl, sym, ap, ap₂, ◌∙◌, subst}
use mathlib.Core.Logic.{◌⊎◌, inl, inr}
use mathlib.Core.Bool.{Bool, true, false, ◌&&◌, cond, and-false}
use mathlib.Core.List.{List}
use Prim.Native.Nat.{ℕ, zero, suc, ◌+◌, ◌-◌, ◌*◌, ◌≤◌, ◌<◌, zero-le}
use native.Mathlib.Nat.{le_refl, le_trans, not-suc-le-zero, eq-or-lt_of_le, le_of_suc-le-suc, suc-mul}
use native.Mathlib.Omega.{arith}
use lib.Dec.{eqb, ltb}
use borrow.Author.Tests.{eqb-true, eqb-false, ltb-true, ltb-false, lt-ltb, ne_eqb}
use Rattle.sets.proofs.Quantifiers.{some_none, some-false}
use Rattle.meaning.specs.Stations.{Station, stopped, has_work, Standing, station_at, station_count, some_work, after_stop, after_tick, pass, passes, all_passes}
use Rattle.meaning.specs.Lists.{sum_to}
use Rattle.turns.proofs.Turns.{refusal_now, Step, idles, serves, halts, step_other, tick_own, stop_own, pass_ind, serve_keeps}

-- ---- sums
pub sum_to_ext : (n : ℕ) (f g : ℕ → ℕ) → ((i : ℕ) → i < n → g i ≡ f i) → sum_to n g ≡ sum_to n f
unfolding sum_to
sum_to_ext zero f g h = refl
sum_to_ext (suc n) f g h = ap₂ (λ (x y : ℕ). x + y) (sum_to_ext n f g (λ i l. h i (omega arith))) (h n (le_refl (suc n)))

-- one of them grows by one
pub sum_to_bump : (n m : ℕ) (f g : ℕ → ℕ) → m < n → g m ≡ suc (f m) → ((i : ℕ) → (i ≡ m → ⊥) → g i ≡ f i) → sum_to n g ≡ suc (sum_to n f)
unfolding sum_to
sum_to_bump zero m f g l e h = absurd (not-suc-le-zero l)
sum_to_bump (suc n) m f g l e h = go (eq-or-lt_of_le (le_of_suc-le-suc l)) (λ k. sum_to_bump n m f g k e h)
  where
    go : (m ≡ n) ⊎ (m < n) → (m < n → sum_to n g ≡ suc (sum_to n f)) → sum_to n g + g n ≡ suc (sum_to n f + f n)
    go (inl q) ih =
        let a : sum_to n g ≡ sum_to n f = sum_to_ext n f g (λ i k. h i (λ z. omega arith)) in
        let b : g n ≡ suc (f n) = subst (λ (x : ℕ). g x ≡ suc (f x)) q e in
        omega arith
    go (inr k) ih =
        let a = ih k in
        let b : g n ≡ f n = h n (λ z. omega arith) in
        omega arith

-- sums of differences
pub sum_to-minus : (n : ℕ) (f g : ℕ → ℕ) → ((i : ℕ) → i < n → f i ≤ g i) → sum_to n (λ i. g i - f i) + sum_to n f ≡ sum_to n g
unfolding sum_to
sum_to-minus zero f g h = refl
sum_to-minus (suc n) f g h =
    let a = sum_to-minus n f g (λ i l. h i (omega arith)) in
    let b = h n (le_refl (suc n)) in
    omega arith

-- n numbers at most c + 1, and one of them at most c
pub sum_to-under : (n c : ℕ) (f : ℕ → ℕ) → ((i : ℕ) → i < n → f i ≤ suc c) → sum_to n f ≤ n * suc c
unfolding sum_to
sum_to-under zero c f h = zero-le
sum_to-under (suc n) c f h =
    let a = sum_to-under n c f (λ i l. h i (omega arith)) in
    let b = h n (le_refl (suc n)) in
    let e : suc n * suc c ≡ n * suc c + suc c = suc-mul n (suc c) in
    omega arith

pub sum_to_below : (n c m : ℕ) (f : ℕ → ℕ) → ((i : ℕ) → i < n → f i ≤ suc c) → m < n → f m ≤ c → sum_to n f < n * suc c
unfolding sum_to
sum_to_below zero c m f h l k = absurd (not-suc-le-zero l)
sum_to_below (suc n) c m f h l k = go (eq-or-lt_of_le (le_of_suc-le-suc l)) (λ z. sum_to_below n c m f (λ i y. h i (omega arith)) z k)
  where
    go : (m ≡ n) ⊎ (m < n) → (m < n → sum_to n f < n * suc c) → sum_to n f + f n < suc n * suc c
    go (inl q) ih =
        let a = sum_to-under n c f (λ i y. h i (omega arith)) in
        let b : f n ≤ c = subst (λ (x : ℕ). f x ≤ c) q k in
        let e : suc n * suc c ≡ n * suc c + suc c = suc-mul n (suc c) in
        omega arith
    go (inr z) ih =
        let a = ih z in
        let b = h n (le_refl (suc n)) in
        let e : suc n * suc c ≡ n * suc c + suc c = suc-mul n (suc c) in
        omega arith

-- ---- the ticks of a call
-- a place is m or not
pub same_or : (i m : ℕ) → (i ≡ m) ⊎ (i ≡ m → ⊥)
same_or i m = go (eqb i m) refl
  where
    go : (x : Bool) → eqb i m ≡ x → (i ≡ m) ⊎ (i ≡ m → ⊥)
    go true e = inl (eqb-true i m e)
    go false e = inr (eqb-false i m e)

-- the positions of the first n stations, together
abbrev pub positions : ℕ → Standing → ℕ
positions n a = sum_to n (λ i. (station_at a i).position)

module _ (w inputs : List ℕ) where
  -- what a turn does to the sum
  sum_step : (n m : ℕ) (a b : Standing) → m < n → station_count a ≡ n → Step w inputs m a b → positions n b + b.left ≡ positions n a + a.left
  sum_step n m a b l k (idles _) = refl
  sum_step n m a b l k (serves p h e) =
      let s : Step w inputs m a (after_tick w inputs m a) = serves p h e in
      let f : ℕ → ℕ = λ i. (station_at a i).position in
      let g : ℕ → ℕ = λ i. (station_at (after_tick w inputs m a) i).position in
      let u : sum_to n g ≡ suc (sum_to n f) =
      sum_to_bump n m f g l (ap (λ (x : Station). x.position) (tick_own w inputs m a (subst (λ (x : ℕ). m < x) (sym k) l)))
      (λ i d. ap (λ (x : Station). x.position) (step_other w inputs m a (after_tick w inputs m a) s i d)) in
      let v : sum_to n g + (a.left - 1) ≡ sum_to n f + a.left = omega arith in
      v
  sum_step n m a b l k (halts p h e) =
      let s : Step w inputs m a (after_stop (refusal_now w inputs a m) m a) = halts p h e in
      ap (λ (x : ℕ). x + a.left) (sum_to_ext n (λ i. (station_at a i).position) (λ i. (station_at (after_stop (refusal_now w inputs a m) m a) i).position) (λ i y. same i (same_or i m) s))
    where
      same : (i : ℕ) → (i ≡ m) ⊎ (i ≡ m → ⊥) → Step w inputs m a (after_stop (refusal_now w inputs a m) m a) → (station_at (after_stop (refusal_now w inputs a m) m a) i).position ≡ (station_at a i).position
      same i (inr d) s = ap (λ (x : Station). x.position) (step_other w inputs m a (after_stop (refusal_now w inputs a m) m a) s i d)
      same i (inl z) s =
          subst (λ (x : ℕ). (station_at (after_stop (refusal_now w inputs a m) m a) x).position ≡ (station_at a x).position) (sym z)
          (ap (λ (x : Station). x.position) (stop_own w inputs (refusal_now w inputs a m) m a (subst (λ (x : ℕ). m < x) (sym k) l)))

  pub serve_sum : (a : Standing) → positions (station_count a) (all_passes w inputs a) + (all_passes w inputs a).left ≡ positions (station_count a) a + a.left
  serve_sum a =
      (serve_keeps w inputs (station_count a) (λ b. positions (station_count a) b + b.left ≡ positions (station_count a) a + a.left)
      (λ m b c l k s h. sum_step (station_count a) m b c l k s ∙ h) a refl refl).0

  -- the ticks left never grow
  pub left_step : (m : ℕ) (a b : Standing) → Step w inputs m a b → b.left ≤ a.left
  left_step m a b (idles _) = le_refl _
  left_step m a b (serves p h e) = omega arith
  left_step m a b (halts p h e) = le_refl _

  pub serve_left : (a : Standing) → (all_passes w inputs a).left ≤ a.left
  serve_left a = (serve_keeps w inputs (station_count a) (λ b. b.left ≤ a.left) (λ m b c l k s h. le_trans (left_step m b c s) h) a refl (le_refl _)).0

  -- ---- passes end
  pub no_work_stopped : (s : Station) (e : ℕ) → (e ≡ 0 → ⊥) → has_work (stopped s e) ≡ false
  unfolding has_work
  no_work_stopped s e d = ap (λ (x : Bool). x && ltb s.position s.in_length) (ne_eqb e 0 d)

  -- in a pass from l ticks, before the turn of station m: a tick was served, or nobody before m has work
  abbrev Progress : ℕ → ℕ → Standing → Type 0
  Progress l m a = (a.left < l) ⊎ ((a.left ≡ l) × ((i : ℕ) → i < m → has_work (station_at a i) ≡ false))

  progress_step : (l n m : ℕ) (a b : Standing) → 0 < l → m < n → station_count a ≡ n → Step w inputs m a b → Progress l m a → Progress l (suc m) b
  progress_step l n m a b z y k s (inl h) = inl (le_trans (lt-suc (left_step m a b s)) h)
    where
      lt-suc : {x y : ℕ} → x ≤ y → suc x ≤ suc y
      lt-suc q = omega arith
  progress_step l n m a b z y k (idles e) (inr h) = inr (h.0, λ i q. go i (eq-or-lt_of_le (le_of_suc-le-suc q)))
    where
      here : has_work (station_at a m) ≡ false
      here = ap (λ (x : Bool). x && has_work (station_at a m)) (sym (lt-ltb 0 a.left (subst (λ (x : ℕ). 0 < x) (sym h.0) z))) ∙ e

      go : (i : ℕ) → (i ≡ m) ⊎ (i < m) → has_work (station_at a i) ≡ false
      go i (inl q) = subst (λ (x : ℕ). has_work (station_at a x) ≡ false) (sym q) here
      go i (inr q) = h.1 i q
  progress_step l n m a b z y k (serves p g e) (inr h) = let q = h.0 in inl (omega arith)
  progress_step l n m a b z y k (halts p g e) (inr h) = inr (h.0, λ i q. go i (eq-or-lt_of_le (le_of_suc-le-suc q)))
    where
      go : (i : ℕ) → (i ≡ m) ⊎ (i < m) → has_work (station_at (after_stop (refusal_now w inputs a m) m a) i) ≡ false
      go i (inl q) =
          subst (λ (x : ℕ). has_work (station_at (after_stop (refusal_now w inputs a m) m a) x) ≡ false) (sym q)
          (ap has_work (stop_own w inputs (refusal_now w inputs a m) m a (subst (λ (x : ℕ). m < x) (sym k) y)) ∙ no_work_stopped (station_at a m) (refusal_now w inputs a m) e)
      go i (inr q) =
          ap has_work (step_other w inputs m a (after_stop (refusal_now w inputs a m) m a) (halts p g e) i (λ x. omega arith)) ∙ h.1 i q

  pub pass_progress : (a : Standing) → 0 < a.left → ((pass w inputs a).left < a.left) ⊎ (some_work (pass w inputs a) ≡ false)
  pass_progress a z =
      let r = pass_ind w inputs (station_count a) (Progress a.left) (λ m b c l k s h. progress_step a.left (station_count a) m b c z l k s h) a refl (inr (refl, λ i q. absurd (not-suc-le-zero q))) in
      go r.0 r.1
    where
      go : Progress a.left (station_count a) (pass w inputs a) → station_count (pass w inputs a) ≡ station_count a → ((pass w inputs a).left < a.left) ⊎ (some_work (pass w inputs a) ≡ false)
      go (inl h) k = inl h
      go (inr h) k = inr (unfold some_work in (some-false (station_count (pass w inputs a)) (λ m. has_work (station_at (pass w inputs a) m)) (λ i q. h.1 i (subst (λ (x : ℕ). i < x) k q))))

  -- there is no further pass
  abbrev pub Over : Standing → Type 0
  Over a = (a.left ≡ 0) ⊎ (some_work a ≡ false)

  pub over_false : (a : Standing) → Over a → (ltb 0 a.left && some_work a) ≡ false
  over_false a (inl e) = ap (λ (x : ℕ). ltb 0 x && some_work a) e
  over_false a (inr e) = ap (λ (x : Bool). ltb 0 a.left && x) e ∙ and-false (ltb 0 a.left)

  pub passes_over : (f : ℕ) (a : Standing) → Over a → passes w inputs f a ≡ a
  unfolding passes
  passes_over zero a h = refl
  passes_over (suc f) a h = ap (λ (x : Bool). cond x (passes w inputs f (pass w inputs a)) a) (over_false a h)

  pub passes_end : (f : ℕ) (a : Standing) → a.left ≤ f → Over (passes w inputs f a)
  unfolding passes
  passes_end zero a l = inl (omega arith)
  passes_end (suc f) a l = go (ltb 0 a.left) (some_work a) refl refl (passes_end f (pass w inputs a))
    where
      go : (x y : Bool) → ltb 0 a.left ≡ x → some_work a ≡ y → ((pass w inputs a).left ≤ f → Over (passes w inputs f (pass w inputs a))) → Over (cond (x && y) (passes w inputs f (pass w inputs a)) a)
      go false y ex ey ih = let z = ltb-false 0 a.left ex in inl (omega arith)
      go true false ex ey ih = inr ey
      go true true ex ey ih = on (pass_progress a (ltb-true 0 a.left ex))
        where
          on : ((pass w inputs a).left < a.left) ⊎ (some_work (pass w inputs a) ≡ false) → Over (passes w inputs f (pass w inputs a))
          on (inl h) = ih (omega arith)
          on (inr h) = subst Over (sym (passes_over f (pass w inputs a) (inr h))) (inr h)

  pub serve_ends : (a : Standing) → 0 < (all_passes w inputs a).left → (i : ℕ) → i < station_count (all_passes w inputs a) → has_work (station_at (all_passes w inputs a) i) ≡ false
  unfolding all_passes some_work
  serve_ends a h i l = go (passes_end a.left a (le_refl _))
    where
      go : Over (passes w inputs a.left a) → has_work (station_at (passes w inputs a.left a) i) ≡ false
      go (inl e) = absurd (omega arith)
      go (inr e) = some_none _ (λ m. has_work (station_at (passes w inputs a.left a) m)) e i l
