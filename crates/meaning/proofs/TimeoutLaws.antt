-- Nobody overstays: while the source of a timer stays, its reading falls by one a tick, and after a done tick it is 1 or more. So the
-- source is exited before the reading would be 0. Assumes nothing.
use mathlib.Core.Path.{◌≡◌, refl, sym, ap, ◌∙◌, subst}
use mathlib.Core.Logic.{inl, inr}
use mathlib.Core.Bool.{Bool, true, false, cond}
use mathlib.Core.List.{List}
use Prim.Native.Nat.{ℕ, zero, suc, ◌+◌, ◌-◌, ◌≤◌, ◌<◌}
use native.Mathlib.Nat.{add-zero}
use native.Mathlib.Omega.{arith}
use lib.Dec.{T}
use Rattle.sets.specs.Sets.{has}
use Rattle.sets.proofs.Tests.{is_true, is_false}
use Rattle.sets.proofs.Facts.{some_i}
use Rattle.meaning.specs.Sheet.{t_of, source}
use Rattle.meaning.specs.Hierarchy.{consistent}
use Rattle.meaning.specs.Reaction.{TickSets, is_delay, delay, is_timer, running}
use Rattle.meaning.specs.Run.{State, reading, next_state, entered_in, exited_in}
use Rattle.meaning.specs.SheetRun.{tick_from, state_after, sheet_step}
use Rattle.meaning.specs.Timeouts.{left_within, KeepsTimeouts}
use Rattle.meaning.proofs.SheetLaws.{Sound}
use Rattle.meaning.proofs.TickLaws.{at_once, running_i}
use Rattle.meaning.proofs.Consistency.{keeps_consistent_lem}
use Rattle.meaning.proofs.ReadingLaws.{Right, right_next, reading_next}
use Rattle.meaning.proofs.SheetTicksLaws.{Steady, consistent_next}
use Rattle.meaning.proofs.Staying.{ExitedOrStays, exited_or_stays}

-- a mode is left within d ticks if one of them exits it
left_within_i : (words : List ℕ) (m j d i : ℕ) → i < d → T (has (exited_in words (j + 1 + i)) m) → T (left_within words m j d)
unfolding left_within
left_within_i words m j d i l h = some_i _ _ i l h

-- done ticks of the sheet s, one after the other: the state before tick n and its input set, by n
pub record Course (s : List ℕ) (done : ℕ) (state : ℕ → State) (input : ℕ → ℕ) : Type 0 where
  pub right : Right s (state 0)
  pub steady : Steady s (state 0)
  pub unrefused : (n : ℕ) → n < done → (tick_from s (state n) (input n)).refusal ≡ 0
  pub next : (n : ℕ) → n < done → state (suc n) ≡ state_after s (state n) (tick_from s (state n) (input n)).sets

module _ (s : List ℕ) (sd : Sound s) (done : ℕ) (state : ℕ → State) (input : ℕ → ℕ) (c : Course s done state input) where
  abbrev sets : ℕ → TickSets
  sets n = (tick_from s (state n) (input n)).sets

  modes_at : (n : ℕ) → n < done → (state (suc n)).at ≡ (sets n).modes
  unfolding state_after next_state
  modes_at n l = ap (λ (p : State). p.at) (c.next n l)

  right_at : (n : ℕ) → n ≤ done → Right s (state n)
  right_at zero l = c.right
  right_at (suc n) l = subst (Right s) (sym (c.next n l)) (right_next s sd (state n) (input n) (right_at n (omega arith)) (c.unrefused n l))

  consistent_from : (n : ℕ) → n < done → Steady s (state n) → T (consistent s (state (suc n)).at)
  unfolding sheet_step
  consistent_from n l h = subst (λ (p : State). T (consistent s p.at)) (sym (c.next n l)) (consistent_next s (keeps_consistent_lem s sd) (state n) (input n) h)

  steady_at : (n : ℕ) → n ≤ done → Steady s (state n)
  steady_at zero l = c.steady
  steady_at (suc n) l = inr (consistent_from n l (steady_at n (omega arith)))

  -- ---- a delay of 0

  never_at : (t n : ℕ) → t < t_of s → T (is_delay s t) → delay s t ≡ 0 → n < done → has (state (suc n)).at (source s t) ≡ false
  unfolding tick_from
  never_at t n l k z g = ap (λ (x : ℕ). has x (source s t)) (modes_at n g) ∙ at_once s sd _ (input n) (state n).at (c.unrefused n g) t l k z

  -- ---- a timer

  module _ (t : ℕ) (l : t < t_of s) (timer : T (is_timer s t)) where
    abbrev m : ℕ
    m = source s t

    runs : (x : ℕ) → T (has x m) → T (has (running s x) t)
    runs x on = running_i s x t (record { small = l; timer = timer; on = on })

    -- its reading after tick n, by whether its source was entered
    reading_at_lem : (n : ℕ) → n < done → T (has (state (suc n)).at m) → (b : Bool) → has (sets n).entered m ≡ b
        → reading (state (suc n)).readings t ≡ cond b (delay s t) (reading (state n).readings t - 1)
    reading_at_lem n g on b e =
        ap (λ (p : State). reading p.readings t) (c.next n g)
        ∙ reading_next s sd (state n) (input n) t (runs (sets n).modes (subst (λ (x : ℕ). T (has x m)) (modes_at n g) on)) b e

    -- a running reading is 1 or more
    reading_pos : (n : ℕ) → n ≤ done → T (has (state n).at m) → 1 ≤ reading (state n).readings t
    unfolding Right
    reading_pos n g on = (right_at n g t (runs (state n).at on)).0

    -- a tick that does not exit the source: it is still there, and the reading is one less
    stays_on : (n : ℕ) → suc n < done → T (has (state (suc n)).at m) → has (sets (suc n)).exited m ≡ false
        → T (has (state (suc (suc n))).at m) × (reading (state (suc (suc n))).readings t ≡ reading (state (suc n)).readings t - 1)
    unfolding tick_from
    stays_on n g on e = go (exited_or_stays s sd _ (input (suc n)) (state (suc n)).at (consistent_from n (omega arith) (steady_at n (omega arith))) m on)
      where
        go : ExitedOrStays m (sets (suc n))
            → T (has (state (suc (suc n))).at m) × (reading (state (suc (suc n))).readings t ≡ reading (state (suc n)).readings t - 1)
        go (inl k) = absurd (subst T e k)
        go (inr k) =
            let still = subst (λ (x : ℕ). T (has x m)) (sym (modes_at (suc n) g)) k.0 in
            (still, reading_at_lem (suc n) g still false k.1)

    -- entered in tick j and active at its end
    module _ (j : ℕ) (on : T (has (state (suc j)).at m)) (entry : T (has (sets j).entered m)) where
      -- still active after tick n, with its reading k below its delay
      abbrev Remains : ℕ → ℕ → Type 0
      Remains n k = T (has (state (suc n)).at m) × (reading (state (suc n)).readings t + k ≡ delay s t)

      -- k further ticks that do not exit it
      remains : (k : ℕ) → j + k < done → ((i : ℕ) → i < k → has (sets (j + 1 + i)).exited m ≡ false) → Remains (j + k) k
      remains zero g none =
          subst (λ (n : ℕ). Remains n 0) (sym (add-zero j))
          (on, add-zero (reading (state (suc j)).readings t) ∙ reading_at_lem j (omega arith) on true (is_true (has (sets j).entered m) entry))
      remains (suc k) g none =
          let next : suc (j + k) ≡ j + suc k = omega arith in
          let place : j + 1 + k ≡ suc (j + k) = omega arith in
          let old = remains k (omega arith) (λ i h. none i (omega arith)) in
          let new = stays_on (j + k) (omega arith) old.0 (subst (λ (n : ℕ). has (sets n).exited m ≡ false) place (none k (omega arith))) in
          subst (λ (n : ℕ). Remains n (suc k)) next
          (new.0, omega (arith, old.1, new.1, reading_pos (suc (j + k)) (omega arith) old.0))

      -- not all of as many ticks as the delay leave it there: its reading would be 0
      left : (words : List ℕ) → ((n : ℕ) → n < done → exited_in words n ≡ (sets n).exited) → j + delay s t < done
          → (b : Bool) → left_within words m j (delay s t) ≡ b → T b
      left words exited g true e = tt
      left words exited g false e =
          let none : (i : ℕ) → i < delay s t → has (sets (j + 1 + i)).exited m ≡ false
          = λ i h.
          ap (λ (x : ℕ). has x m) (sym (exited (j + 1 + i) (omega arith)))
          ∙ is_false (has (exited_in words (j + 1 + i)) m) (λ k. subst T e (left_within_i words m j (delay s t) i h k)) in
          let r = remains (delay s t) g none in
          absurd (omega (arith, r.1, reading_pos (suc (j + delay s t)) g r.0))

  -- by the words of the ticks and the modes at their ends
  pub keeps_timeouts : (words : List ℕ) (at_end : ℕ → ℕ)
      → ((n : ℕ) → n < done → entered_in words n ≡ (sets n).entered)
      → ((n : ℕ) → n < done → exited_in words n ≡ (sets n).exited)
      → ((n : ℕ) → n < done → at_end n ≡ (state (suc n)).at)
      → KeepsTimeouts s done words at_end
  keeps_timeouts words at_end entered exited ends =
      record {
        timeout = λ t j l timer on entry g.
            left t l timer j (subst (λ (x : ℕ). T (has x (source s t))) (ends j (omega arith)) on)
            (subst (λ (x : ℕ). T (has x (source s t))) (entered j (omega arith)) entry) words exited g _ refl;
        never = λ t j l k z g. ap (λ (x : ℕ). has x (source s t)) (ends j g) ∙ never_at t j l k z g;
      }
