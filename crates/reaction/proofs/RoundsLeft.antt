-- What is left of the rounds of a tick: whether one more is taken, and what it leaves. Assumes nothing.
use mathlib.Core.Path.{◌≡◌, refl, ap, ◌∙◌, subst}
use mathlib.Core.Logic.{◌⊎◌, inl, inr, ⊎_elim}
use mathlib.Core.Bool.{Bool, true, false, ◌&&◌, ◌||◌}
use mathlib.Core.List.{List}
use Prim.Native.Nat.{ℕ, zero, suc, ◌+◌, ◌-◌, ◌^◌, ◌≤◌, ◌<◌}
use native.Mathlib.Omega.{arith}
use lib.Dec.{T, eqb, ltb}
use borrow.Author.Tests.{eqb-false}
use Rattle.sets.specs.Sets.{has, union, meet, meets, those}
use Rattle.meaning.specs.Sheet.{k_of, t_of, source}
use Rattle.meaning.specs.Check.{sheet_refusal}
use Rattle.meaning.specs.Reaction.{TickSets, alternative, triggered, eligible, ambiguous, restless, after_round}
use Rattle.meaning.specs.Tick.{Tick, chosen}
use Rattle.meaning.proofs.TickLaws.{chosen_lt, chosen_triggered}
use Rattle.reaction.specs.Plan.{hits_of, mixed}
use Rattle.reaction.specs.Causes.{cause}
use Rattle.reaction.specs.Rounds.{sets_of, after_ends, RoundOf, rounds_by}
use Rattle.reaction.specs.declared.tick.Sets.{Sets}
use Rattle.reaction.specs.declared.tick.Round.{Round}
use Rattle.reaction.proofs.RoundLaws.{triggered_small, clash, taken_again, eligible_small, after_ends_lem}
use Rattle.reaction.proofs.RoundLoop.{eligible_none, all, Left, round_triggers, round_by}
use Rattle.reaction.proofs.FiredLaws.{trigger-cause}

-- ---- one round

module _ (s : List ℕ) (i : ℕ) where
  -- no round is taken of f from the sets z and the triggered transitions ts: none is left, nothing is eligible, or it is refused
  abbrev pub Over : ℕ → TickSets → ℕ → Type 0
  Over zero z ts = Unit {0}
  Over (suc f) z ts = (eqb (eligible s ts) 0 || ambiguous s (eligible s ts) || restless s z (eligible s ts)) ≡ true

  -- the rounds end there
  pub record Stops (f : ℕ) (z : TickSets) (ts r : ℕ) : Type 0 where
    pub over : Over f z ts
    pub sets : (rounds_by s f i z ts r).sets ≡ z
    pub rounds : (rounds_by s f i z ts r).rounds ≡ r

  -- a round is taken, and f are left
  pub record Goes (f : ℕ) (z : TickSets) (ts r : ℕ) : Type 0 where
    pub filled : eqb (eligible s ts) 0 ≡ false
    pub clear : ambiguous s (eligible s ts) ≡ false
    pub fresh : restless s z (eligible s ts) ≡ false
    pub same : let next = after_round s z (eligible s ts) in rounds_by s (suc f) i z ts r ≡ rounds_by s f i next (triggered s 0 i next) (suc r)

  pub spent : (z : TickSets) (ts r : ℕ) → Stops 0 z ts r
  unfolding rounds_by
  spent z ts r = record { over = tt; sets = refl; rounds = refl }

  pub round_cases : (f : ℕ) (z : TickSets) (ts r : ℕ) → Stops (suc f) z ts r ⊎ Goes f z ts r
  unfolding rounds_by
  round_cases f z ts r = go (eqb es 0) (ambiguous s es) (restless s z es) refl refl refl
    where
      es : ℕ
      es = eligible s ts

      go : (x y c : Bool) → eqb es 0 ≡ x → ambiguous s es ≡ y → restless s z es ≡ c → Stops (suc f) z ts r ⊎ Goes f z ts r
      go true y c ex ey ec = inl (record { over = rw ex; sets = rw ex; rounds = rw ex })
      go false true c ex ey ec = inl (record { over = rw (ex, ey); sets = rw (ex, ey); rounds = rw (ex, ey) })
      go false false true ex ey ec = inl (record { over = rw (ex, ey, ec); sets = rw (ex, ey, ec); rounds = rw (ex, ey, ec) })
      go false false false ex ey ec = inr (record { filled = ex; clear = ey; fresh = ec; same = rw (ex, ey, ec) })

  -- rounds are counted upwards, and are no more than the fuel allows
  pub rounds_counted : (f : ℕ) (z : TickSets) (ts r : ℕ) → (r ≤ (rounds_by s f i z ts r).rounds) × ((rounds_by s f i z ts r).rounds ≤ r + f)
  rounds_counted zero z ts r = let e = (spent z ts r).rounds in (omega arith, omega arith)
  rounds_counted (suc f) z ts r = go (round_cases f z ts r) (rounds_counted f next (triggered s 0 i next) (suc r))
    where
      next : TickSets
      next = after_round s z (eligible s ts)

      on : Tick
      on = rounds_by s f i next (triggered s 0 i next) (suc r)

      go : Stops (suc f) z ts r ⊎ Goes f z ts r → (suc r ≤ on.rounds) × (on.rounds ≤ suc r + f)
          → (r ≤ (rounds_by s (suc f) i z ts r).rounds) × ((rounds_by s (suc f) i z ts r).rounds ≤ r + suc f)
      go (inl k) h = let e = k.rounds in (omega arith, omega arith)
      go (inr k) h = rw k.same (omega (arith, h.0), omega (arith, h.1))

  -- none is counted: none is taken
  pub rounds_still : (f : ℕ) (z : TickSets) (ts r : ℕ) → (rounds_by s f i z ts r).rounds ≤ r → Stops f z ts r
  rounds_still zero z ts r h = spent z ts r
  rounds_still (suc f) z ts r h =
      ⊎_elim (λ k. k) (λ k.
      let next = after_round s z (eligible s ts) in
      let e = ap (λ (o : Tick). o.rounds) k.same in
      absurd (omega (arith, e, (rounds_counted f next (triggered s 0 i next) (suc r)).0))) (round_cases f z ts r)

-- ---- the loop over them, after r rounds with the sets z and the triggered transitions ts

module _ {s : List ℕ} {begun entered first i : ℕ} {z : Sets} {ts r : ℕ} (l : Left s begun entered first i z ts r) where
  pub left_small : ts < 2 ^ t_of s
  left_small = rw l.triggers (triggered_small s l.due i (sets_of begun z))

  -- what is eligible has a cause
  pub caused : (t : ℕ) → T (has (eligible s ts) t) → (t < t_of s) × T (ltb 0 (cause s i (sets_of begun z) t))
  unfolding chosen
  caused t k =
      let y = sets_of begun z in
      let m : T (has (chosen s l.due i y) t) = subst (λ (x : ℕ). T (has (eligible s x) t)) l.triggers k in
      let c = chosen_triggered s l.due i y t m in
      (chosen_lt s l.due i y t m, subst (λ (x : ℕ). T (ltb 0 x)) (trigger-cause s l.due i y t c) c)

-- where one more is taken
module _ {s : List ℕ} {begun entered first i : ℕ} {z : Sets} {ts r : ℕ} (l : Left s begun entered first i z ts r)
    (g : r < (all s begun entered first i).rounds) where
  within : r ≤ t_of s
  within = omega (arith, l.within, (rounds_counted s i (suc (t_of s) - r) (sets_of begun z) ts r).1, ap (λ (o : Tick). o.rounds) l.same)

  pub fuel : suc (t_of s) - r ≡ suc (t_of s - r)
  fuel = omega (arith, within)

  pub goes : Goes s i (t_of s - r) (sets_of begun z) ts r
  goes =
      ⊎_elim (λ k. absurd (omega (arith, k.rounds, ap (λ (o : Tick). o.rounds) (rw fuel at l.same)))) (λ k. k)
      (round_cases s i (t_of s - r) (sets_of begun z) ts r)

  filled : ts ≡ 0 → ⊥
  filled e = eqb-false (eligible s ts) 0 goes.filled (ap (eligible s) e ∙ eligible_none s)

  module _ {o : Round} (c : RoundOf s ts o) where
    clear : meets o.moves.clashes o.chosen ≡ false
    clear = clash s o.chosen o.moves c.moves ∙ ap (ambiguous s) c.chosen ∙ goes.clear

    pub round_fresh : meets o.chosen z.taken ≡ false
    round_fresh =
        taken_again s (sets_of begun z) o.chosen (rw c.chosen (eligible_small s ts)) ∙ ap (restless s (sets_of begun z)) c.chosen ∙ goes.fresh

    -- the sets y and the triggered transitions ts' that it leaves, by the words of the plan
    module _ (h : sheet_refusal s ≡ 0) (v : i < 2 ^ k_of s) {ts' hits unsure : ℕ} {y : Sets} (a : hits ≡ hits_of s i) (m : unsure ≡ mixed s)
        (e : y ≡ after_ends z o.moves.ends o.chosen)
        (d : ts' ≡ union (meet o.moves.next hits) (those 64 (meet o.moves.next unsure) (λ t.
        has y.modes (source s t) && ltb 0 (alternative s i (sets_of begun y) t)))) where
      pub left_next : Left s begun entered first i y ts' (r + 1)
      left_next = round_by l within h filled c clear round_fresh v a m e d

      pub next_sets : sets_of begun y ≡ after_round s (sets_of begun z) o.chosen
      next_sets = ap (sets_of begun) e ∙ after_ends_lem s begun z o.chosen o.moves c.moves

      pub next_triggers : ts' ≡ triggered s 0 i (after_round s (sets_of begun z) o.chosen)
      next_triggers = round_triggers l within h filled c clear round_fresh v a m e d
