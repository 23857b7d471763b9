-- What the rounds of a tick report of a transition, from the triggered transitions on, is what the tick reports. Assumes nothing.
use mathlib.Core.Path.{◌≡◌, refl, sym, ap, ap₂, ◌∙◌, subst}
use mathlib.Core.Bool.{Bool, true, false, not, ◌&&◌, cond}
use mathlib.Core.List.{List, ◌∷◌, map}
use Prim.Native.Nat.{ℕ, suc, ◌^◌, ◌<◌}
use lib.Dec.{T, ltb}
use borrow.Author.Tests.{eq-eqb, ne_eqb}
use Rattle.sets.specs.Sets.{has, those, lowest}
use Rattle.sets.proofs.Tests.{is_true, is_false, of_true, of_false}
use Rattle.sets.proofs.Membership.{has-set_of}
use Rattle.meaning.specs.Lists.{first_of}
use Rattle.meaning.specs.Sheet.{k_of, t_of, source}
use Rattle.meaning.specs.Check.{sheet_refusal}
use Rattle.meaning.specs.Hierarchy.{consistent}
use Rattle.meaning.specs.GivesWay.{gives_way}
use Rattle.meaning.specs.Reaction.{TickSets, triggered, eligible, after_round}
use Rattle.meaning.specs.Tick.{Tick, begin, chosen, tick}
use Rattle.meaning.specs.RoundList.{round_list, tick_rounds}
use Rattle.meaning.specs.Alternatives.{fired_in, fired}
use Rattle.meaning.specs.FiredAlternatives.{FiredTaken}
use Rattle.meaning.specs.Why.{Report, never_active, never_triggered, gave_way_to, taken_in, ahead_of, gave_way_in, round_in, reason}
use Rattle.meaning.proofs.SheetLaws.{sound}
use Rattle.meaning.proofs.TickLaws.{Taken, triggered-lt, chosen_triggered}
use Rattle.meaning.proofs.Consistency.{begin-consistent, consistent_after}
use Rattle.meaning.proofs.AlternativeLaws.{fired_taken_lem}
use Rattle.meaning.proofs.RoundListLaws.{Ends, list_all}
use Rattle.meaning.proofs.ReasonLaws.{ahead_none}
use Rattle.reaction.specs.Plan.{yielders_of}
use Rattle.reaction.specs.Causes.{cause}
use Rattle.reaction.specs.Rounds.{start_sets, Before}
use Rattle.reaction.specs.Reasons.{rounds_report, reason_by}
use Rattle.reaction.specs.declared.tick.Start.{Start}
use Rattle.reaction.proofs.NextLaws.{none_due_after}
use Rattle.reaction.proofs.StartLaws.{start_sets_lem}
use Rattle.reaction.proofs.FiredLaws.{trigger-cause}

-- by the word of those that give way to u
pub yielder : (s : List ℕ) (t u : ℕ) → t < t_of s → has (yielders_of s u) t ≡ gives_way s t u
unfolding yielders_of
yielder s t u l = has-set_of (t_of s) (λ v. gives_way s v u) t l

module _ (s : List ℕ) where
  -- ---- what a transition gives way to among the triggered ones

  pub ahead_of_lem : (ts t : ℕ) → T (has ts t) → ahead_of s ts t ≡ those (t_of s) ts (gives_way s t)
  unfolding ahead_of
  ahead_of_lem ts t k = rw (is_true (has ts t) k)

  -- there is none for one that is not triggered; there is one for a triggered one that is not eligible
  ahead_off : (ts t : ℕ) → has ts t ≡ false → ahead_of s ts t ≡ 0
  unfolding ahead_of
  ahead_off ts t k = rw k

  pub ahead_some : (ts t : ℕ) → t < t_of s → T (has ts t) → has (eligible s ts) t ≡ false → ahead_of s ts t ≡ 0 → ⊥
  ahead_some ts t l k n e = of_false n (ahead_none s ts t e l k)

  -- ---- the rounds

  module _ (h : sheet_refusal s ≡ 0) (d i t : ℕ) (v : i < 2 ^ k_of s) where
    -- some of these rounds takes t
    abbrev Takes : List TickSets → Type 0
    Takes zs = T (ltb 0 (fired_in s d i zs t))

    takes_first : (z : TickSets) (zs : List TickSets) → T (has (chosen s d i z) t) → Takes (z ∷ zs)
    unfolding fired_in
    takes_first z zs k = rw (is_true (has (chosen s d i z) t) k) (chosen_triggered s d i z t k)

    takes_later : (z : TickSets) (zs : List TickSets) → has (chosen s d i z) t ≡ false → fired_in s d i (z ∷ zs) t ≡ fired_in s d i zs t
    unfolding fired_in
    takes_later z zs k = rw k

    -- no round is taken
    report_ends : (taken : Bool) (f : ℕ) (z : TickSets) (r : ℕ) → Ends s d i z
        → rounds_report s taken (suc f) i z (triggered s d i z) r t ≡ never_triggered
    unfolding rounds_report chosen
    report_ends taken f z r e = rw e

    -- a round is taken, and then others
    report_more : (taken : Bool) (f : ℕ) (z : TickSets) (r : ℕ) → T (consistent s z.modes) → Taken s d i z
        → let ts = triggered s d i z in
        let next = after_round s z (chosen s d i z) in
        rounds_report s taken (suc f) i z ts r t
        ≡ cond (has (chosen s d i z) t) (taken_in (suc r) (cause s i z t))
        (cond (not taken && has ts t) (gave_way_to (lowest (t_of s) (ahead_of s ts t))) (rounds_report s taken f i next (triggered s d i next) (suc r) t))
    unfolding rounds_report chosen
    report_more taken f z r con k =
        rw (k.filled, k.clear, k.fresh, none_due_after s h d i z v con)

    -- one that some round takes
    report_taken : (f : ℕ) (z : TickSets) (r : ℕ) → T (consistent s z.modes) → Takes (round_list s f d i z)
        → rounds_report s true f i z (triggered s d i z) r t
        ≡ taken_in (first_of (suc r) (map (λ y. has (chosen s d i y) t) (round_list s f d i z))) (fired_in s d i (round_list s f d i z) t)
    unfolding first_of fired_in
    report_taken =
        list_all s d i (λ f z r zs. T (consistent s z.modes) → Takes zs → rounds_report s true f i z (triggered s d i z) r t ≡ told r zs)
        (λ _ _ _ k. absurd k) (λ _ _ _ _ _ k. absurd k)
        (λ f z r zs k ih con m. report_more true f z r con k ∙ go f z r zs (has (chosen s d i z) t) refl (ih (consistent_after s (sound s h) d i z con k)) m)
      where
        told : ℕ → List TickSets → Report
        told r zs = taken_in (first_of (suc r) (map (λ y. has (chosen s d i y) t) zs)) (fired_in s d i zs t)

        go : (f : ℕ) (z : TickSets) (r : ℕ) (zs : List TickSets) (b : Bool) → has (chosen s d i z) t ≡ b
            → (Takes zs → rounds_report s true f i (after_round s z (chosen s d i z)) (triggered s d i (after_round s z (chosen s d i z))) (suc r) t ≡ told (suc r) zs)
            → Takes (z ∷ zs)
            → cond b (taken_in (suc r) (cause s i z t)) (rounds_report s true f i (after_round s z (chosen s d i z)) (triggered s d i (after_round s z (chosen s d i z))) (suc r) t)
            ≡ told r (z ∷ zs)
        go f z r zs true e ih m = rw e (ap (taken_in (suc r)) (sym (trigger-cause s d i z t (chosen_triggered s d i z t (of_true e)))))
        go f z r zs false e ih m = rw e (ih (rw e at m))

    -- one that no round takes
    report_untaken : (f : ℕ) (z : TickSets) (r : ℕ) → T (consistent s z.modes) → (Takes (round_list s f d i z) → ⊥)
        → rounds_report s false f i z (triggered s d i z) r t ≡ gave_way_in s d i (round_list s f d i z) t
    unfolding rounds_report gave_way_in chosen
    report_untaken =
        list_all s d i (λ f z r zs. T (consistent s z.modes) → (Takes zs → ⊥) → rounds_report s false f i z (triggered s d i z) r t ≡ gave_way_in s d i zs t)
        (λ _ _ _ _. refl) (λ f z r e _ _. report_ends false f z r e)
        (λ f z r zs k ih con n.
        let out = is_false (has (chosen s d i z) t) (λ m. n (takes_first z zs m)) in
        report_more false f z r con k
        ∙ rw out (go z zs (has (triggered s d i z) t) refl out
        (ih (consistent_after s (sound s h) d i z con k) (λ m. n (subst (λ (x : ℕ). T (ltb 0 x)) (sym (takes_later z zs out)) m)))))
      where
        go : (z : TickSets) (zs : List TickSets) (b : Bool) → has (triggered s d i z) t ≡ b → has (chosen s d i z) t ≡ false
            → {later : Report} → later ≡ gave_way_in s d i zs t
            → cond b (gave_way_to (lowest (t_of s) (ahead_of s (triggered s d i z) t))) later ≡ gave_way_in s d i (z ∷ zs) t
        go z zs true e n ih =
            rw (ne_eqb (ahead_of s (triggered s d i z) t) 0 (ahead_some (triggered s d i z) t (triggered-lt s d i z t (of_true e)) (of_true e) n))
        go z zs false e n ih = rw (eq-eqb (ahead_of s (triggered s d i z) t) 0 (ahead_off (triggered s d i z) t e)) ih

    -- by whether the tick takes it
    report_either : (x : ℕ) → T (consistent s (begin s x).modes) → (b : Bool) → has (tick s x d i).sets.taken t ≡ b
        → rounds_report s b (suc (t_of s)) i (begin s x) (triggered s d i (begin s x)) 0 t
        ≡ cond b (taken_in (round_in s d i (tick_rounds s x d i) t) (fired s x d i t)) (gave_way_in s d i (tick_rounds s x d i) t)
    unfolding round_in fired tick_rounds FiredTaken
    report_either x con true e = report_taken (suc (t_of s)) (begin s x) 0 con (of_true (fired_taken_lem s x d i t ∙ e))
    report_either x con false e = report_untaken (suc (t_of s)) (begin s x) 0 con (of_false (fired_taken_lem s x d i t ∙ e))

  -- by whether the source is active in the tick
  module _ (o : Tick) (i : ℕ) (z : TickSets) (ts t : ℕ) where
    pub reason_off : has o.sets.active (source s t) ≡ false → never_active ≡ reason_by s o i z ts t
    unfolding reason_by
    reason_off e = rw e

    pub reason_on : has o.sets.active (source s t) ≡ true → {r : Report} → r ≡ rounds_report s (has o.sets.taken t) (suc (t_of s)) i z ts 0 t
        → r ≡ reason_by s o i z ts t
    unfolding reason_by
    reason_on e k = rw e k

  -- what a tick reports, by what is triggered first, is its reason
  pub reason_by_lem : sheet_refusal s ≡ 0 → {b : Start} {due i first : ℕ} (o : Before s b due) → i < 2 ^ k_of s → first ≡ triggered s due i (start_sets b)
      → {q : Tick} → q ≡ tick s o.set due i → (t : ℕ) → reason_by s q i (start_sets b) first t ≡ reason s o.set due i t
  unfolding reason_by reason
  reason_by_lem h {b} {due} {i} {first} o v e {q} g t =
      ap₂ (λ (q : Tick) (f : ℕ). reason_by s q i (start_sets b) f t) g e
      ∙ ap (λ (z : TickSets). reason_by s (tick s o.set due i) i z (triggered s due i z) t) (start_sets_lem s o.start)
      ∙ ap (cond (not (has (tick s o.set due i).sets.active (source s t))) never_active)
      (report_either h due i t v o.set (begin-consistent s (sound s h) o.set o.known) (has (tick s o.set due i).sets.taken t) refl)
