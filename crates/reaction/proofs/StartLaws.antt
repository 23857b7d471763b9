-- What a tick begins with, by the words of the plan, and the tick from there on. Assumes nothing.
use mathlib.Core.Path.{◌≡◌, refl, sym, ap, ap₂, ◌∙◌, subst}
use mathlib.Core.Bool.{Bool, true, false, ◌&&◌, cond}
use mathlib.Core.List.{List}
use Prim.Native.Nat.{ℕ, suc, ◌^◌, ◌<◌}
use lib.Dec.{T, eqb, ltb}
use lib.Bits.{or_zero_l, or_zero_r, or_self}
use borrow.Author.Tests.{eqb-true, eqb-false, ne_eqb}
use Rattle.sets.specs.Sets.{has, union, meet, single, those}
use Rattle.sets.proofs.Tests.{is_true, of_true}
use Rattle.sets.proofs.Facts.{meet_e, those_e}
use Rattle.sets.proofs.Membership.{those_same}
use Rattle.meaning.specs.Sheet.{k_of, t_of, source}
use Rattle.meaning.specs.Check.{sheet_refusal}
use Rattle.meaning.specs.Hierarchy.{complete, consistent}
use Rattle.meaning.specs.Reaction.{TickSets, is_delay, alternative, triggered}
use Rattle.meaning.specs.Tick.{Tick, begin, tick}
use Rattle.meaning.proofs.SheetLaws.{sound}
use Rattle.meaning.proofs.Consistency.{begin-consistent}
use Rattle.meaning.proofs.TickLaws.{begin_by}
use Rattle.reaction.specs.declared.plan.Plan.{Plan}
use Rattle.reaction.specs.Plan.{Planned, sources_in, hits_of, mixed, early}
use Rattle.reaction.specs.Facts.{open_facts, alternative_by}
use Rattle.reaction.specs.Rounds.{sets_of, first_sets, start_sets, rounds_by, StartOf, Before, Begun}
use Rattle.reaction.specs.declared.tick.Start.{Start}
use Rattle.reaction.proofs.PlanLaws.{sources_on}
use Rattle.reaction.proofs.TriggerLaws.{mixed_e}
use Rattle.reaction.proofs.EarlyLaws.{begins, first_triggered_lem, first_power_on}
use Rattle.reaction.proofs.NextLaws.{rounds_by_lem}

-- ---- by the words of the plan

module _ (s : List ℕ) (plan : Plan) (p : Planned s plan) {x live : ℕ} where
  pub start_power_on : {y : ℕ} → x ≡ 0 → y ≡ plan.start → live ≡ sources_in s y
      → StartOf s x (record { begun = y; entered = y; live = live; unsure = meet live (plan.mixed) })
  unfolding begin
  start_power_on {y} z e l =
      subst (λ (x : ℕ). StartOf s x (record { begun = y; entered = y; live = live; unsure = meet live (plan.mixed) })) (sym z)
      (record { begun = e ∙ p.start_at; entered = e ∙ p.start_at; live = l; unsure = ap (meet live) p.judged_at })

  pub start_other : (x ≡ 0 → ⊥) → live ≡ sources_in s x
      → StartOf s x (record { begun = x; entered = 0; live = live; unsure = meet live (plan.early) })
  start_other n l =
      record {
        begun = ap (λ (z : TickSets). z.modes) (begins s x n);
        entered = ap (λ (z : TickSets). z.entered) (begins s x n);
        live = l;
        unsure = ap (meet live) p.early_at ∙ ap (λ (b : Bool). meet live (cond b (mixed s) (early s))) (sym (ne_eqb x 0 n));
      }

-- ---- the sets with which a tick begins

module _ (s : List ℕ) {x : ℕ} {b : Start} (h : StartOf s x b) where
  -- what was entered is among the modes
  pub begun_whole : union b.begun b.entered ≡ b.begun
  begun_whole =
      ap₂ union h.begun h.entered
      ∙ begin_by s (λ z. union z.modes z.entered ≡ z.modes) x (λ _. or_self (complete s (single 0))) (λ _. or_zero_r x)
      ∙ sym h.begun

  pub start_sets_lem : start_sets b ≡ begin s x
  start_sets_lem =
      ap₂ (λ (y e : ℕ). sets_of y (first_sets y e)) h.begun h.entered
      ∙ begin_by s (λ z. sets_of z.modes (first_sets z.modes z.entered) ≡ z) x
      (λ _. let y = complete s (single 0) in ap (λ (a : ℕ). record { modes = y; entered = y; exited = 0; active = a; taken = 0 }) (or_self y))
      (λ _. ap (λ (a : ℕ). record { modes = x; entered = 0; exited = 0; active = a; taken = 0 }) (or_zero_r x))

early_mixed : (s : List ℕ) (t : ℕ) → T (has (early s) t) → T (has (mixed s) t)
unfolding early
early_mixed s t k = (those_e 64 (mixed s) (λ u. ltb 0 (alternative_by s open_facts u)) t k).1

-- what is judged where a tick begins are transitions, and no delays
pub unsure_asks : (s : List ℕ) {b : Start} {due : ℕ} → Before s b due → (t : ℕ) → has b.unsure t ≡ true → (t < t_of s) × (is_delay s t ≡ false)
unsure_asks s {b} o t m = go (eqb o.set 0) (sym (ap (λ (x : ℕ). has x t) o.start.unsure) ∙ m)
  where
    go : (c : Bool) → has (meet b.live (cond c (mixed s) (early s))) t ≡ true → (t < t_of s) × (is_delay s t ≡ false)
    go true k = mixed_e s t (meet_e b.live (mixed s) t (of_true k)).1
    go false k = mixed_e s t (early_mixed s t (meet_e b.live (early s) t (of_true k)).1)

-- ---- what is triggered first, and the tick

module _ (s : List ℕ) (h : sheet_refusal s ≡ 0) {b : Start} {due i : ℕ} (o : Before s b due) (v : i < 2 ^ k_of s) where
  -- of those whose source is a mode in which the tick begins
  live_judged : (a : ℕ) (q : ℕ → Bool) → those 64 (meet (sources_in s b.begun) a) (λ t. has b.begun (source s t) && q t)
      ≡ those 64 (meet (sources_in s b.begun) a) q
  live_judged a q =
      those_same 64 (meet (sources_in s b.begun) a) (λ t. has b.begun (source s t) && q t) q (λ t l m.
      ap (λ (c : Bool). c && q t) (is_true (has b.begun (source s t)) (sources_on s b.begun t (meet_e (sources_in s b.begun) a t (of_true m)).0)))

  -- what is triggered with the modes y, the due timers d and the sets z, where those of a are judged
  abbrev by : ℕ → ℕ → ℕ → TickSets → ℕ
  by y d a z = union (meet (sources_in s y) (union d (hits_of s i))) (those 64 (meet (sources_in s y) a) (λ t. ltb 0 (alternative s i z t)))

  at_power_on : by (begin s 0).modes 0 (mixed s) (begin s 0) ≡ triggered s 0 i (begin s 0)
  unfolding begin
  at_power_on =
      ap (λ (x : ℕ). union (meet (sources_in s (complete s (single 0))) x)
      (those 64 (meet (sources_in s (complete s (single 0))) (mixed s)) (λ t. ltb 0 (alternative s i (begin s 0) t))))
      (or_zero_l (hits_of s i))
      ∙ sym (first_power_on s h i v)

  pub first_words : {hits : ℕ} → hits ≡ hits_of s i
      → union (meet b.live (union due hits)) (those 64 b.unsure (λ t. has b.begun (source s t) && ltb 0 (alternative s i (start_sets b) t)))
      ≡ triggered s due i (start_sets b)
  first_words {hits} e =
      ap (λ (x : ℕ). union (meet b.live (union due x)) (those 64 b.unsure (λ t. has b.begun (source s t) && judge t))) e
      ∙ ap₂ (λ (l u : ℕ). union (meet l (union due (hits_of s i))) (those 64 u (λ t. has b.begun (source s t) && judge t))) o.start.live
      (o.start.unsure ∙ ap (λ (l : ℕ). meet l asked) o.start.live)
      ∙ ap (union (meet (sources_in s b.begun) (union due (hits_of s i)))) (live_judged asked judge)
      ∙ ap₂ (λ (y : ℕ) (z : TickSets). by y due asked z) o.start.begun (start_sets_lem s o.start)
      ∙ go (eqb o.set 0) refl
      ∙ ap (triggered s due i) (sym (start_sets_lem s o.start))
    where
      judge : ℕ → Bool
      judge t = ltb 0 (alternative s i (start_sets b) t)

      asked : ℕ
      asked = cond (eqb o.set 0) (mixed s) (early s)

      go : (c : Bool) → eqb o.set 0 ≡ c → by (begin s o.set).modes due (cond c (mixed s) (early s)) (begin s o.set) ≡ triggered s due i (begin s o.set)
      go true q =
          let x : o.set ≡ 0 = eqb-true o.set 0 q in
          let d : due ≡ 0 = o.none x in
          ap₂ (λ (x d : ℕ). by (begin s x).modes d (mixed s) (begin s x)) x d
          ∙ at_power_on
          ∙ sym (ap₂ (λ (x d : ℕ). triggered s d i (begin s x)) x d)
      go false q =
          let n = eqb-false o.set 0 q in
          ap (λ (z : TickSets). by z.modes due (early s) (begin s o.set)) (sym (begins s o.set n))
          ∙ sym (first_triggered_lem s h o.set due i n v o.small o.timing)

  pub begun_of : {first : ℕ} → first ≡ triggered s due i (start_sets b) → Begun s b.begun b.entered first i
  begun_of e =
      record {
        known = subst (λ (y : ℕ). T (consistent s y)) (sym o.start.begun) (begin-consistent s (sound s h) o.set o.known);
        whole = begun_whole s o.start;
        due = due;
        triggers = e;
      }

  -- the rounds from what is triggered first are the tick
  pub tick_by : {first : ℕ} {t : Tick} → first ≡ triggered s due i (start_sets b) → t ≡ rounds_by s (suc (t_of s)) i (start_sets b) first 0 → t ≡ tick s o.set due i
  unfolding tick
  tick_by e g =
      g
      ∙ ap (λ (f : ℕ). rounds_by s (suc (t_of s)) i (start_sets b) f 0) e
      ∙ ap (λ (z : TickSets). rounds_by s (suc (t_of s)) i z (triggered s due i z) 0) (start_sets_lem s o.start)
      ∙ rounds_by_lem s h (suc (t_of s)) due i (begin s o.set) 0 v (begin-consistent s (sound s h) o.set o.known)
