-- Laws of a sheet's ticks: their rounds, their words, their mode sets. Assumes nothing.
use mathlib.Core.Path.{◌≡◌, refl, sym, ap, ◌∙◌, subst}
use mathlib.Core.Logic.{◌⊎◌, inr}
use mathlib.Core.List.{List, [], ◌∷◌}
use Prim.Native.Nat.{ℕ, suc, ◌*◌, ◌<◌}
use native.Mathlib.Nat.{add-zero, not-suc-le-zero}
use native.Mathlib.Omega.{arith}
use lib.Dec.{T}
use lib.ListN.{length, get_or, take, drop, take-append-drop}
use Rattle.meaning.specs.Sheet.{k_of, t_of}
use Rattle.meaning.specs.Hierarchy.{consistent}
use Rattle.meaning.specs.Reaction.{running}
use Rattle.meaning.specs.Tick.{Tick, tick, five_words}
use Rattle.meaning.specs.Run.{State, due_timers, next_state, entered_in, exited_in, Ticks, tick_then}
use Rattle.meaning.specs.SheetRun.{tick_from, state_after, sheet_step, sheet_ticks, sheet_at}
use Rattle.meaning.specs.Promises.{RunRounds}
use Rattle.meaning.proofs.TickLaws.{rounds_le}
use Rattle.meaning.proofs.RunLaws.{tick_done, ticks_go, first_done, front_done, ticks_keep, rounds_few, NthTick, nth_tick_lem}

-- the rounds of a run are at most T for each done tick
pub run_rounds_lem : RunRounds
unfolding RunRounds sheet_step tick_from
run_rounds_lem s inputs q = rounds_few (k_of s) (sheet_step s) (t_of s) (λ p i. rounds_le s (due_timers (running s p.at) p.readings) i p.at) inputs q

module _ (s : List ℕ) where
  pub five_long : (q : State) (i : ℕ) → length (sheet_step s q i).words ≡ 5
  unfolding sheet_step five_words
  five_long q i = refl

  -- a done tick, in the words and in the states of the sheet's ticks
  module _ (is : List ℕ) (q : State) (n : ℕ) (l : n < (sheet_ticks s is q).done) where
    pub nth : NthTick (k_of s) (sheet_step s) is q (sheet_ticks s is q).words n
    nth = nth_tick_lem (k_of s) (sheet_step s) five_long is q n l

    abbrev pub nth_tick : Tick
    nth_tick = tick_from s (sheet_at s is q n) (get_or is n 0)

    pub nth_unrefused : nth_tick.refusal ≡ 0
    unfolding sheet_step
    nth_unrefused = (tick_done (k_of s) (sheet_step s) (sheet_at s is q n) (get_or is n 0) nth.unrefused).1

    pub nth_next : sheet_at s is q (suc n) ≡ state_after s (sheet_at s is q n) nth_tick.sets
    unfolding sheet_step
    nth_next = nth.next

    pub nth_entered : entered_in (sheet_ticks s is q).words n ≡ nth_tick.sets.entered
    unfolding entered_in sheet_step five_words
    nth_entered = ap (λ (j : ℕ). get_or (sheet_ticks s is q).words j 0) (sym (add-zero (5 * n))) ∙ nth.word 0 (omega arith)

    pub nth_exited : exited_in (sheet_ticks s is q).words n ≡ nth_tick.sets.exited
    unfolding exited_in sheet_step five_words
    nth_exited = nth.word 1 (omega arith)

  -- the mode set is 0 or consistent
  abbrev pub Steady : State → Type 0
  Steady p = (p.at ≡ 0) ⊎ T (consistent s p.at)

  -- after a tick it is consistent
  module _ (keeps : (y d i : ℕ) → (y ≡ 0) ⊎ T (consistent s y) → T (consistent s (tick s y d i).sets.modes)) where
    pub consistent_next : (p : State) (i : ℕ) → Steady p → T (consistent s (sheet_step s p i).state.at)
    unfolding sheet_step tick_from state_after next_state
    consistent_next p i h = keeps p.at (due_timers (running s p.at) p.readings) i h

    pub steady_after : (ds : List ℕ) (p : State) → Steady p → Steady (sheet_ticks s ds p).state
    steady_after = ticks_keep (k_of s) (sheet_step s) Steady (λ p i e h. inr (consistent_next p i h))

    pub consistent_after : (ds : List ℕ) (p : State) → Steady p → (sheet_ticks s ds p).refusal ≡ 0 → (i : ℕ) → i < length ds
        → T (consistent s (sheet_ticks s (take (suc i) ds) p).state.at)
    unfolding tick_then
    consistent_after [] p h e i l = absurd (not-suc-le-zero l)
    consistent_after (j ∷ ds) p h e i l =
        let r = front_done (k_of s) (sheet_step s) (j ∷ take i ds) (drop i ds) p (subst (λ (x : List ℕ). (sheet_ticks s (j ∷ x) p).refusal ≡ 0) (sym (take-append-drop i ds)) e) in
        let f = first_done (k_of s) (sheet_step s) j (take i ds) p r in
        subst (λ (x : Ticks). T (consistent s x.state.at)) (sym (ticks_go (k_of s) (sheet_step s) j (take i ds) p f.0))
        (ticks_keep (k_of s) (sheet_step s) (λ x. T (consistent s x.at)) (λ x k _ c. consistent_next x k (inr c)) (take i ds) (sheet_step s p j).state (consistent_next p j h))
