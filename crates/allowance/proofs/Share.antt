-- The least share: while a station has work, no other is served more than one tick more than it. Assumes nothing.
use mathlib.Core.Path.{◌≡◌, refl, sym, ap, ◌∙◌, subst}
use mathlib.Core.Logic.{◌⊎◌, inl, inr}
use mathlib.Core.Bool.{Bool, true, false, ◌&&◌, cond}
use mathlib.Core.List.{List}
use Prim.Native.Nat.{ℕ, zero, suc, ◌-◌, ◌≤◌, ◌<◌, zero-le}
use native.Mathlib.Nat.{le_refl, le_trans, not-suc-le-zero, eq-zero-or-pos}
use native.Mathlib.Omega.{arith}
use lib.Dec.{T, ltb}
use borrow.Author.Tests.{lt-ltb}
use Rattle.sets.proofs.Tests.{of_true, of_false, and_i}
use Rattle.meaning.specs.Stations.{Station, has_work, Standing, station_at, station_count, some_work, after_stop, after_tick, pass, passes, all_passes}
use Rattle.turns.proofs.Turns.{refusal_now, Step, idles, serves, halts, step_other, tick_own, stop_own, pass_ind}
use Rattle.turns.proofs.Sums.{same_or, no_work_stopped, passes_over}

-- what the turn of station r does to positions and work
pub record Effect (r : ℕ) (a b : Standing) : Type 0 where
  pub other : (m : ℕ) → (m ≡ r → ⊥) → station_at b m ≡ station_at a m
  pub from : (station_at a r).position ≤ (station_at b r).position
  below : (station_at b r).position ≤ suc (station_at a r).position
  left : b.left ≤ a.left
  served : T (has_work (station_at b r)) → 0 < b.left → (station_at b r).position ≡ suc (station_at a r).position
  worked : T (has_work (station_at b r)) → T (has_work (station_at a r))

pub effect : (w inputs : List ℕ) (r : ℕ) (a b : Standing) → r < station_count a → Step w inputs r a b → Effect r a b
effect w inputs r a b l (idles x) =
    record {
      other = λ m d. refl;
      from = le_refl _;
      below = omega arith;
      left = le_refl _;
      served = λ t p. absurd (of_false x (and_i (ltb 0 a.left) (has_work (station_at a r)) (of_true (lt-ltb 0 a.left p)) t));
      worked = λ t. t;
    }
effect w inputs r a b l (serves p t x) =
    let e : (station_at (after_tick w inputs r a) r).position ≡ suc (station_at a r).position =
    ap (λ (s : Station). s.position) (tick_own w inputs r a l) in
    record {
      other = step_other w inputs r a (after_tick w inputs r a) (serves p t x);
      from = omega arith;
      below = omega arith;
      left = omega arith;
      served = λ _ _. e;
      worked = λ _. t;
    }
effect w inputs r a b l (halts p t x) =
    let c = after_stop (refusal_now w inputs a r) r a in
    let own = stop_own w inputs (refusal_now w inputs a r) r a l in
    let e : (station_at c r).position ≡ (station_at a r).position = ap (λ (s : Station). s.position) own in
    let z : has_work (station_at c r) ≡ false = ap has_work own ∙ no_work_stopped w inputs (station_at a r) (refusal_now w inputs a r) x in
    record {
      other = step_other w inputs r a c (halts p t x);
      from = omega arith;
      below = omega arith;
      left = le_refl _;
      served = λ y _. absurd (of_false z y);
      worked = λ _. t;
    }

-- a₀: where the call begins; i: a station of it
module _ (w inputs : List ℕ) (a₀ : Standing) (i : ℕ) (low : i < station_count a₀) where
  abbrev n : ℕ
  n = station_count a₀

  -- the ticks that station m was served by now
  abbrev pub got : Standing → ℕ → ℕ
  got a m = (station_at a m).position - (station_at a₀ m).position

  -- in a pass that began with k ticks for i and at most k for each other, before the turn of station r: those before r have one
  -- more at most, and i has its own, if there is still a tick and it has work
  record Within (k r : ℕ) (a : Standing) : Type 0 where
    grows : (m : ℕ) → (station_at a₀ m).position ≤ (station_at a m).position
    done : (m : ℕ) → m < r → got a m ≤ suc k
    ahead : (m : ℕ) → m < n → r ≤ m → got a m ≤ k
    least : T (has_work (station_at a i)) → k ≤ got a i
    more : T (has_work (station_at a i)) → 0 < a.left → i < r → suc k ≤ got a i

  within_step : (k r : ℕ) (a b : Standing) → r < n → Effect r a b → Within k r a → Within k (suc r) b
  within_step k r a b l f h =
      record {
        grows = λ m. grow m (same_or m r);
        done = λ m q. upto m q (same_or m r);
        ahead = λ m y q. subst (λ (x : ℕ). x ≤ k) (sym (same m (λ z. omega arith))) (h.ahead m y (omega arith));
        least = λ t. mine (same_or i r) t;
        more = λ t p q. mores (same_or i r) t p q;
      }
    where
      -- another station than r
      same : (m : ℕ) → (m ≡ r → ⊥) → got b m ≡ got a m
      same m d = ap (λ (s : Station). s.position - (station_at a₀ m).position) (f.other m d)

      worked : (i ≡ r → ⊥) → T (has_work (station_at b i)) → T (has_work (station_at a i))
      worked d t = subst (λ (s : Station). T (has_work s)) (f.other i d) t

      grow : (m : ℕ) → (m ≡ r) ⊎ (m ≡ r → ⊥) → (station_at a₀ m).position ≤ (station_at b m).position
      grow m (inl z) = subst (λ (x : ℕ). (station_at a₀ x).position ≤ (station_at b x).position) (sym z) (le_trans (h.grows r) f.from)
      grow m (inr d) = subst (λ (s : Station). (station_at a₀ m).position ≤ s.position) (sym (f.other m d)) (h.grows m)

      at_r : got b r ≤ suc k
      at_r = let g = h.ahead r l (le_refl r) in let x = f.below in omega arith

      upto : (m : ℕ) → m < suc r → (m ≡ r) ⊎ (m ≡ r → ⊥) → got b m ≤ suc k
      upto m q (inl z) = subst (λ (x : ℕ). got b x ≤ suc k) (sym z) at_r
      upto m q (inr d) = subst (λ (x : ℕ). x ≤ suc k) (sym (same m d)) (h.done m (neighbour m q d))
        where
          neighbour : (x : ℕ) → x < suc r → (x ≡ r → ⊥) → x < r
          neighbour x y z = omega arith

      -- station r, where it is i and has work
      had : i ≡ r → T (has_work (station_at b r)) → k ≤ got a r
      had z t =
          let u = subst (λ (v : ℕ). T (has_work (station_at a v))) (sym z) (f.worked t) in
          subst (λ (v : ℕ). k ≤ got a v) z (h.least u)

      mine : (i ≡ r) ⊎ (i ≡ r → ⊥) → T (has_work (station_at b i)) → k ≤ got b i
      mine (inl z) t =
          let g = had z (subst (λ (v : ℕ). T (has_work (station_at b v))) z t) in
          let q = f.from in
          subst (λ (v : ℕ). k ≤ got b v) (sym z) (omega arith)
      mine (inr d) t = subst (λ (x : ℕ). k ≤ x) (sym (same i d)) (h.least (worked d t))

      mores : (i ≡ r) ⊎ (i ≡ r → ⊥) → T (has_work (station_at b i)) → 0 < b.left → i < suc r → suc k ≤ got b i
      mores (inl z) t p q =
          let tr = subst (λ (v : ℕ). T (has_work (station_at b v))) z t in
          let e = f.served tr p in
          let g = had z tr in
          let o = h.grows r in
          subst (λ (v : ℕ). suc k ≤ got b v) (sym z) (omega arith)
      mores (inr d) t p q = subst (λ (x : ℕ). suc k ≤ x) (sym (same i d)) (h.more (worked d t) (le_trans p f.left) (omega arith))

  -- between passes: nobody has more than k, and i, if it has work, has k
  record Even (k : ℕ) (a : Standing) : Type 0 where
    grows : (m : ℕ) → (station_at a₀ m).position ≤ (station_at a m).position
    most : (m : ℕ) → m < n → got a m ≤ k
    least : T (has_work (station_at a i)) → k ≤ got a i

  -- nobody has more than one more than i, if it has work
  pub record Near (a : Standing) : Type 0 where
    pub near : T (has_work (station_at a i)) → (m : ℕ) → m < n → got a m ≤ suc (got a i)

  even_near : (k : ℕ) (a : Standing) → Even k a → Near a
  even_near k a h = record { near = λ t m l. let x = h.most m l in let y = h.least t in omega arith }

  pass_within : (k : ℕ) (a : Standing) → station_count a ≡ n → Even k a
      → Within k n (pass w inputs a) × (station_count (pass w inputs a) ≡ n)
  pass_within k a e h =
      pass_ind w inputs n (λ r b. Within k r b)
      (λ m b c l z s g. within_step k m b c l (effect w inputs m b c (subst (λ (x : ℕ). m < x) (sym z) l) s) g) a e
      (record {
        grows = h.grows;
        done = λ m l. absurd (not-suc-le-zero l);
        ahead = λ m l q. h.most m l;
        least = h.least;
        more = λ t p l. absurd (not-suc-le-zero l);
      })

  passes_near : (f k : ℕ) (a : Standing) → station_count a ≡ n → Even k a → Near (passes w inputs f a)
  unfolding passes
  passes_near zero k a e h = even_near k a h
  passes_near (suc f) k a e h = go (ltb 0 a.left && some_work a) (passes_near f (suc k) (pass w inputs a)) (pass_within k a e h)
    where
      b : Standing
      b = pass w inputs a

      Rest : Type 0
      Rest = station_count b ≡ n → Even (suc k) b → Near (passes w inputs f b)

      after : Within k n b → (station_count b ≡ n) → (b.left ≡ 0) ⊎ (0 < b.left) → Rest → Near (passes w inputs f b)
      after g z (inl q) ih =
          subst Near (sym (passes_over w inputs f b (inl q)))
          (record { near = λ t m l. let x = g.done m l in let y = g.least t in omega arith })
      after g z (inr q) ih = ih z (record { grows = g.grows; most = g.done; least = λ t. g.more t q low })

      go : (x : Bool) → Rest → Within k n b × (station_count b ≡ n) → Near (cond x (passes w inputs f b) a)
      go true ih g = after g.0 g.1 (eq-zero-or-pos b.left) ih
      go false ih g = even_near k a h

  pub serve_near : Near (all_passes w inputs a₀)
  unfolding all_passes
  serve_near = passes_near a₀.left 0 a₀ refl (record { grows = λ m. le_refl _; most = λ m l. omega arith; least = λ t. zero-le })
