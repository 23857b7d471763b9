-- What a table says of its timers: arrays built timer by timer, and the timers of the sources in a set. Assumes nothing.
use mathlib.Core.Path.{◌≡◌, refl, sym, ap, ap₂, ◌∙◌, subst}
use mathlib.Core.Bool.{Bool, true, false, ◌&&◌, ◌||◌, cond}
use mathlib.Core.List.{List}
use Prim.Native.Nat.{ℕ, ◌+◌, ◌^◌, ◌<◌}
use native.Mathlib.Omega.{arith}
use lib.Dec.{eqb, ltb, ltb→lt, lt→ltb}
use lib.ListN.{get_or, set, replicate}
use borrow.Author.Tests.{lt-ltb, le-ltb, eq-eqb, ne_eqb}
use Rattle.sets.specs.Sets.{has, union, single, set_of, members, some_in}
use Rattle.sets.proofs.Tests.{bool_ext}
use Rattle.sets.proofs.Membership.{has_none, set_of_ext, set_of-add, set_of_skip}
use Rattle.sets.proofs.Members.{fold, fold_done}
use Rattle.sets.proofs.Quantifiers.{has-union_over}
use Rattle.meaning.specs.Lists.{row_from}
use Rattle.meaning.specs.Table.{t_in, source_in, delay_in}
use Rattle.table.proofs.LayoutFacts.{delay-lt}
use Rattle.recorder.specs.Timers.{timer_delay_in, timers_below}
use Rattle.meaning.proofs.ListLaws.{row_at, row_from_ext}
use Rattle.run.proofs.ArrayLaws.{row_zeros, row-set}

module _ (w : List ℕ) where
  -- ---- the delays

  -- the delay of each transition below n, 0 from there on
  abbrev pub delays_below : ℕ → ℕ → ℕ
  delays_below n t = cond (ltb t n) (delay_in w t) 0

  pub delays_start : replicate 64 0 ≡ row_from 0 64 (delays_below 0)
  delays_start = row_zeros 64 (delays_below 0) (λ t l. rw (le-ltb t 0 (omega arith)))

  pub delays_turn : (t : ℕ) {r : List ℕ} {v : ℕ} → r ≡ row_from 0 64 (delays_below t) → v ≡ delay_in w t → set r t v ≡ row_from 0 64 (delays_below (t + 1))
  delays_turn t e k =
      ap₂ (λ (l : List ℕ) (x : ℕ). set l t x) e (k ∙ rw (lt-ltb t (t + 1) (omega arith)))
      ∙ row-set 64 (delays_below t) (delays_below (t + 1)) t (λ j l n.
      ap (λ (b : Bool). cond b (delay_in w j) 0)
      (bool_ext (ltb j t) (ltb j (t + 1)) (λ h. lt→ltb j (t + 1) (omega (arith, ltb→lt j t h))) (λ h. lt→ltb j t (omega (arith, ltb→lt j (t + 1) h)))))

  -- the delay of a timer stands among them
  pub delay_at : (t : ℕ) → t < 64 → t < t_in w → get_or (row_from 0 64 (timer_delay_in w)) t 0 ≡ delay_in w t
  unfolding timer_delay_in
  delay_at t l k = row_at 64 (timer_delay_in w) t l ∙ rw (lt-ltb t (t_in w) k)

  -- they are below 65,536
  pub delays_small : (t : ℕ) → t < 64 → get_or (row_from 0 64 (timer_delay_in w)) t 0 < 65536
  unfolding timer_delay_in
  delays_small t l = subst (λ (x : ℕ). x < 65536) (sym (row_at 64 (timer_delay_in w) t l)) (go (ltb t (t_in w)))
    where
      go : (b : Bool) → cond b (delay_in w t) 0 < 65536
      go true = delay-lt w t
      go false = omega arith

  -- ---- the timers of each source

  pub timers_start : replicate 32 0 ≡ row_from 0 32 (timers_below w 0)
  unfolding timers_below set_of
  timers_start = row_zeros 32 (timers_below w 0) (λ m l. refl)

  -- a transition that is no timer changes nothing
  pub timers_skip : (t : ℕ) → delay_in w t ≡ 0 → row_from 0 32 (timers_below w t) ≡ row_from 0 32 (timers_below w (t + 1))
  unfolding timers_below
  timers_skip t z =
      row_from_ext (timers_below w t) (timers_below w (t + 1)) 0 32 (λ m a b.
      set_of_skip t (λ i. ltb 0 (delay_in w i) && eqb (source_in w i) m) (ap (λ (x : Bool). x && eqb (source_in w t) m) (le-ltb 0 (delay_in w t) (omega arith))))

  -- a timer is added to those of its source
  pub timers_add : (t : ℕ) {r : List ℕ} {m v : ℕ} → r ≡ row_from 0 32 (timers_below w t) → 0 < delay_in w t → m ≡ source_in w t → m < 32 → v ≡ single t
      → set r m (union (get_or r m 0) v) ≡ row_from 0 32 (timers_below w (t + 1))
  unfolding timers_below
  timers_add t {r} {m} {v} e d s l k =
      ap₂ (λ (x : List ℕ) (y : ℕ). set x m y) e
      (ap₂ union (ap (λ (x : List ℕ). get_or x m 0) e ∙ row_at 32 (timers_below w t) m l) k ∙ set_of-add t (from m) (timed m ∙ eq-eqb (source_in w t) m (sym s)))
      ∙ row-set 32 (timers_below w t) (timers_below w (t + 1)) m (λ j a n. set_of_skip t (from j) (timed j ∙ ne_eqb (source_in w t) j (λ q. n (sym q ∙ sym s))))
    where
      from : ℕ → ℕ → Bool
      from j i = ltb 0 (delay_in w i) && eqb (source_in w i) j

      timed : (j : ℕ) → from j t ≡ eqb (source_in w t) j
      timed j = ap (λ (b : Bool). b && eqb (source_in w t) j) (lt-ltb 0 (delay_in w t) d)

-- ---- the timers whose source is in a set

module _ (from : List ℕ) where
  -- with those of one source more
  abbrev pub with_source : ℕ → ℕ → ℕ
  with_source r m = union r (get_or from m 0)

  pub started_done : (set : ℕ) {r rest : ℕ} → rest ≡ 0 → r < 2 ^ 64 → fold with_source r (members 32 rest) ≡ fold with_source 0 (members 32 set)
      → r ≡ set_of 64 (λ t. some_in 32 set (λ m. has (get_or from m 0) t))
  started_done set {r} {rest} z l e =
      set_of_ext 64 (λ t. some_in 32 set (λ m. has (get_or from m 0) t)) l (λ t k.
      ap (λ (x : ℕ). has x t) (sym (fold_done with_source r 32 rest z) ∙ e)
      ∙ has-union_over (λ m. get_or from m 0) t 32 set 0
      ∙ ap (λ (b : Bool). b || some_in 32 set (λ m. has (get_or from m 0) t)) (has_none t))
