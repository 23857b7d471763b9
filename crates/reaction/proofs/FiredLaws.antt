-- The alternatives by which the transitions of a tick are taken, from its triggered transitions on. Assumes nothing.
use mathlib.Core.Path.{◌≡◌, refl, sym, ap, ◌∙◌}
use mathlib.Core.Bool.{Bool, true, false, not, ◌||◌, cond}
use mathlib.Core.List.{List}
use Prim.Native.Nat.{ℕ, suc, ◌^◌, ◌<◌}
use lib.Dec.{T, eqb, ltb}
use borrow.Author.Tests.{eq-eqb}
use Rattle.sets.specs.Sets.{has}
use Rattle.sets.proofs.Tests.{cond_ext}
use Rattle.sets.proofs.Those.{those_none}
use Rattle.rows.specs.Over.{zeros}
use Rattle.meaning.specs.Lists.{row_from}
use Rattle.meaning.specs.Sheet.{k_of, t_of, source}
use Rattle.meaning.specs.Check.{sheet_refusal}
use Rattle.meaning.specs.Hierarchy.{consistent}
use Rattle.meaning.specs.Reaction.{TickSets, is_delay, delay, alternative, is_due, trigger, triggered, eligible, after_round}
use Rattle.meaning.specs.Tick.{begin, chosen}
use Rattle.meaning.specs.RoundList.{takes_round, round_list, tick_rounds}
use Rattle.meaning.specs.Alternatives.{fired_in, fired, tick_numbers}
use Rattle.meaning.proofs.SheetLaws.{sound}
use Rattle.meaning.proofs.ListLaws.{row_from_ext}
use Rattle.meaning.proofs.RoundListLaws.{list_all}
use Rattle.meaning.proofs.TickLaws.{chosen_triggered}
use Rattle.meaning.proofs.Consistency.{begin-consistent, consistent_after}
use Rattle.reaction.specs.Causes.{cause, fired_by}
use Rattle.reaction.specs.Rounds.{start_sets, Before}
use Rattle.reaction.specs.declared.tick.Start.{Start}
use Rattle.reaction.proofs.RowLaws.{row_zeros}
use Rattle.reaction.proofs.NextLaws.{none_due_after}
use Rattle.reaction.proofs.StartLaws.{start_sets_lem}

-- by its truth values: its source is active, it is a delay, of 0 or due; and its alternative a
trigger_cases : (on wait now : Bool) (a : ℕ) → T (ltb 0 (cond (not on) 0 (cond wait (cond now 9 0) a)))
    → cond (not on) 0 (cond wait (cond now 9 0) a) ≡ cond wait 9 a
trigger_cases false wait now a k = absurd k
trigger_cases true false now a k = refl
trigger_cases true true false a k = absurd k
trigger_cases true true true a k = refl

module _ (s : List ℕ) where
  -- a transition that is triggered is so by its cause
  pub trigger-cause : (d i : ℕ) (z : TickSets) (t : ℕ) → T (ltb 0 (trigger s d i z t)) → trigger s d i z t ≡ cause s i z t
  unfolding trigger cause
  trigger-cause d i z t = trigger_cases (has z.modes (source s t)) (is_delay s t) (eqb (delay s t) 0 || is_due s d z t) (alternative s i z t)

  module _ (h : sheet_refusal s ≡ 0) where
    pub fired_by_lem : (f d i : ℕ) (z : TickSets) (t : ℕ) → i < 2 ^ k_of s → T (consistent s z.modes)
        → fired_by s f i z (triggered s d i z) t ≡ fired_in s d i (round_list s f d i z) t
    unfolding fired_by fired_in chosen
    fired_by_lem f d i z t v =
        list_all s d i (λ f z _ zs. T (consistent s z.modes) → fired_by s f i z (triggered s d i z) t ≡ fired_in s d i zs t)
        (λ _ _ _. refl) (λ f z _ e _. rw e) (λ f z _ zs k ih con.
        rw (k.filled, k.clear, k.fresh)
        (ap (cond (has (chosen s d i z) t) (cause s i z t))
        (ap (λ (x : ℕ). fired_by s f i (after_round s z (chosen s d i z)) x t) (none_due_after s h d i z v con) ∙ ih (consistent_after s (sound s h) d i z con k))
        ∙ cond_ext (has (chosen s d i z) t) (cause s i z t) (trigger s d i z t) (fired_in s d i zs t)
        (λ m. sym (trigger-cause d i z t (chosen_triggered s d i z t m))))) f z 0

    -- the numbers of the rounds from what is triggered first are those of the tick
    pub numbers_by : {b : Start} {due i first : ℕ} (o : Before s b due) → i < 2 ^ k_of s → first ≡ triggered s due i (start_sets b)
        → row_from 0 64 (fired_by s (suc (t_of s)) i (start_sets b) first) ≡ tick_numbers s o.set due i
    unfolding tick_numbers fired tick_rounds
    numbers_by {b} {due} {i} {first} o v e =
        ap (λ (x : ℕ). row_from 0 64 (fired_by s (suc (t_of s)) i (start_sets b) x)) e
        ∙ ap (λ (z : TickSets). row_from 0 64 (fired_by s (suc (t_of s)) i z (triggered s due i z))) (start_sets_lem s o.start)
        ∙ row_from_ext (fired_by s (suc (t_of s)) i (begin s o.set) (triggered s due i (begin s o.set))) (fired s o.set due i) 0 64
        (λ t a c. fired_by_lem (suc (t_of s)) due i (begin s o.set) t v (begin-consistent s (sound s h) o.set o.known))

-- a tick in which nothing is triggered takes no transition
pub numbers_quiet : (s : List ℕ) (x d i : ℕ) → triggered s d i (begin s x) ≡ 0 → tick_numbers s x d i ≡ zeros 64
unfolding tick_numbers fired fired_in tick_rounds round_list takes_round chosen
numbers_quiet s x d i e = row_zeros (fired s x d i) (λ t. rw (eq-eqb (chosen s d i (begin s x)) 0 none)) 0 64
  where
    none : chosen s d i (begin s x) ≡ 0
    none = ap (eligible s) e ∙ unfold eligible in (those_none (t_of s) 0 _ refl)
