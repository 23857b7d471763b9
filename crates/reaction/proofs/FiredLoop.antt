-- The loop over the rounds of a tick but the last, for the numbers of the transitions taken: those taken so far have their numbers, and
-- what is left of the rounds gives the others. Assumes nothing.
use mathlib.Core.Path.{◌≡◌, refl, sym, ap, ap₂, ◌∙◌, subst}
use mathlib.Core.Logic.{⊎_elim}
use mathlib.Core.Bool.{Bool, true, false, not, ◌&&◌, ◌||◌, cond, and-true}
use mathlib.Core.List.{List}
use Prim.Native.Nat.{ℕ, zero, suc, ◌+◌, ◌-◌, ◌^◌, ◌≤◌, ◌<◌}
use native.Mathlib.Nat.{sub-zero}
use native.Mathlib.Omega.{arith}
use lib.Dec.{T, ltb}
use lib.ListN.{length, get_or}
use lib.Bits.{or_zero_r}
use Rattle.sets.specs.Sets.{has, union, meet, minus, those}
use Rattle.sets.proofs.Tests.{is_false, of_true, of_false}
use Rattle.sets.proofs.Membership.{has_none, has-union, has-minus}
use Rattle.sets.proofs.Facts.{union_l, union_r}
use Rattle.sets.proofs.Quantifiers.{meets_i}
use Rattle.rows.specs.Over.{over, zeros}
use Rattle.meaning.specs.Lists.{row_from}
use Rattle.meaning.specs.Sheet.{k_of, t_of, source}
use Rattle.meaning.specs.Check.{sheet_refusal}
use Rattle.meaning.specs.Reaction.{TickSets, alternative, triggered, eligible, after_round}
use Rattle.meaning.specs.Tick.{Tick}
use Rattle.reaction.specs.Plan.{hits_of, mixed}
use Rattle.reaction.specs.Causes.{cause, fired_by}
use Rattle.reaction.specs.Rounds.{sets_of, first_sets, after_ends, RoundOf, rounds_by, Begun}
use Rattle.reaction.specs.declared.tick.Sets.{Sets}
use Rattle.reaction.specs.declared.tick.Round.{Round}
use Rattle.reaction.proofs.RowLaws.{row_zeros, row_from_lem}
use Rattle.reaction.proofs.RoundLoop.{all, Left, left_start}
use Rattle.reaction.proofs.RoundsLeft.{Over, Stops, Goes, spent, round_cases, rounds_still, caused, fuel, goes, round_fresh, left_next, next_sets, next_triggers}

-- ---- one round

module _ (s : List ℕ) (i : ℕ) where
  -- no round is taken
  fired_none : (f : ℕ) (z : TickSets) (ts : ℕ) → Over s i f z ts → (t : ℕ) → fired_by s f i z ts t ≡ 0
  unfolding fired_by
  fired_none zero z ts e t = refl
  fired_none (suc f) z ts e t = rw e

  -- a round is taken
  fired_goes : {f : ℕ} {z : TickSets} {ts r : ℕ} → Goes s i f z ts r → (t : ℕ)
      → let next = after_round s z (eligible s ts) in
      fired_by s (suc f) i z ts t ≡ cond (has (eligible s ts) t) (cause s i z t) (fired_by s f i next (triggered s 0 i next) t)
  unfolding fired_by
  fired_goes k t = rw (k.filled, k.clear, k.fresh)

  -- what is taken where at most one round is left: es, some or none of the eligible
  record Last (f : ℕ) (z : TickSets) (ts r : ℕ) : Type 0 where
    es : ℕ
    among : (t : ℕ) → T (has es t) → T (has (eligible s ts) t)
    taken : (rounds_by s f i z ts r).sets.taken ≡ union z.taken es
    fired : (t : ℕ) → fired_by s f i z ts t ≡ cond (has es t) (cause s i z t) 0

  last_none : (f : ℕ) (z : TickSets) (ts r : ℕ) → Stops s i f z ts r → Last f z ts r
  last_none f z ts r k =
      record {
        es = 0;
        among = λ t m. absurd (of_false (has_none t) m);
        taken = ap (λ (y : TickSets). y.taken) k.sets ∙ sym (or_zero_r z.taken);
        fired = λ t. fired_none f z ts k.over t ∙ ap (λ (b : Bool). cond b (cause s i z t) 0) (sym (has_none t));
      }

  last_of : (f : ℕ) (z : TickSets) (ts r : ℕ) → (rounds_by s f i z ts r).rounds ≤ r + 1 → Last f z ts r
  unfolding after_round
  last_of zero z ts r h = last_none 0 z ts r (spent s i z ts r)
  last_of (suc f) z ts r h =
      ⊎_elim (last_none (suc f) z ts r) (λ k.
      let next = after_round s z (eligible s ts) in
      let e = ap (λ (o : Tick). o.rounds) k.same in
      let still = rounds_still s i f next (triggered s 0 i next) (suc r) (omega (arith, h, e)) in
      record {
        es = eligible s ts;
        among = λ t m. m;
        taken = ap (λ (o : Tick). o.sets.taken) k.same ∙ ap (λ (y : TickSets). y.taken) still.sets;
        fired = λ t. fired_goes k t ∙ ap (cond (has (eligible s ts) t) (cause s i z t)) (fired_none f next (triggered s 0 i next) still.over t);
      }) (round_cases s i f z ts r)

-- ---- the loop

module _ (s : List ℕ) (begun entered first i : ℕ) where
  -- the number of transition t in the tick
  abbrev pub number : ℕ → ℕ
  number t = fired_by s (suc (t_of s)) i (sets_of begun (first_sets begun entered)) first t

  -- the numbers of the transitions taken so far, 0 for the others
  abbrev pub numbered : Sets → ℕ → ℕ
  numbered z t = cond (has z.taken t) (number t) 0

  -- after r rounds, with the sets z and the triggered transitions ts
  pub record Numbered (z : Sets) (ts r : ℕ) : Type 0 where
    pub left : Left s begun entered first i z ts r
    pub later : (t : ℕ) → has z.taken t ≡ false → fired_by s (suc (t_of s) - r) i (sets_of begun z) ts t ≡ number t

  pub numbered_start : entered < 2 ^ 32 → Begun s begun entered first i → Numbered (first_sets begun entered) first 0
  numbered_start b h = record { left = left_start s begun entered first i b h; later = λ t e. simp sub-zero }

  -- none is taken yet
  pub numbered_none : (l₀ : List ℕ) (at : ℕ) {l : List ℕ} → l ≡ over l₀ at (zeros 64) → l ≡ over l₀ at (row_from 0 64 (numbered (first_sets begun entered)))
  numbered_none l₀ at e =
      e ∙ ap (over l₀ at) (sym (row_zeros (numbered (first_sets begun entered)) (λ t. ap (λ (b : Bool). cond b (number t) 0) (has_none t)) 0 64))

module _ {s : List ℕ} {begun entered first i : ℕ} {z : Sets} {ts r : ℕ} (n : Numbered s begun entered first i z ts r) where
  -- one more round is taken
  module _ (g : r < (all s begun entered first i).rounds) {o : Round} (c : RoundOf s ts o) where
    abbrev es : ℕ
    es = o.chosen

    pub round_asks : (t : ℕ) → has es t ≡ true → (t < t_of s) × T (ltb 0 (cause s i (sets_of begun z) t))
    round_asks t m = caused n.left t (subst (λ (x : ℕ). T (has x t)) c.chosen (of_true m))

    -- what is left, of a transition not taken so far
    fired_next : (t : ℕ) → has z.taken t ≡ false
        → cond (has es t) (cause s i (sets_of begun z) t)
        (fired_by s (t_of s - r) i (after_round s (sets_of begun z) es) (triggered s 0 i (after_round s (sets_of begun z) es)) t) ≡ number s begun entered first i t
    fired_next t e =
        ap (λ (x : ℕ). cond (has x t) (cause s i (sets_of begun z) t)
        (fired_by s (t_of s - r) i (after_round s (sets_of begun z) x) (triggered s 0 i (after_round s (sets_of begun z) x)) t)) c.chosen
        ∙ sym (fired_goes s i (goes n.left g) t) ∙ ap (λ (x : ℕ). fired_by s x i (sets_of begun z) ts t) (sym (fuel n.left g)) ∙ n.later t e

    -- the transitions of the round have their numbers too
    round_numbered : (t : ℕ) → cond (has es t) (cause s i (sets_of begun z) t) (numbered s begun entered first i z t)
        ≡ numbered s begun entered first i (after_ends z o.moves.ends es) t
    round_numbered t =
        go (has es t) (has z.taken t) refl refl ∙ ap (λ (b : Bool). cond b (number s begun entered first i t) 0) (sym (has-union z.taken es t))
      where
        go : (a b : Bool) → has es t ≡ a → has z.taken t ≡ b
            → cond a (cause s i (sets_of begun z) t) (cond b (number s begun entered first i t) 0) ≡ cond (b || a) (number s begun entered first i t) 0
        go false false p q = refl
        go false true p q = refl
        go true false p q = rw p at (fired_next t q)
        go true true p q = absurd (of_false (round_fresh n.left g c) (meets_i es z.taken t (of_true p) (of_true q)))

    pub round_laid : {y : Sets} → y ≡ after_ends z o.moves.ends es → (l₀ : List ℕ) (at : ℕ) → at + 64 ≤ length l₀
        → {l m : List ℕ} → l ≡ over l₀ at (row_from 0 64 (numbered s begun entered first i z))
        → m ≡ over l at (row_from 0 64 (λ t. cond (has es t) (cause s i (sets_of begun z) t) (get_or l (at + t) 0)))
        → m ≡ over l₀ at (row_from 0 64 (numbered s begun entered first i y))
    round_laid {y} e l₀ at h p q =
        row_from_lem l₀ at 64 (numbered s begun entered first i z) h p (numbered s begun entered first i (after_ends z o.moves.ends es))
        (λ t. cond (has es t) (cause s i (sets_of begun z) t)) round_numbered q
        ∙ ap (λ (x : Sets). over l₀ at (row_from 0 64 (numbered s begun entered first i x))) (sym e)

    pub round_next : sheet_refusal s ≡ 0 → i < 2 ^ k_of s → {ts' hits unsure : ℕ} {y : Sets} → hits ≡ hits_of s i → unsure ≡ mixed s
        → y ≡ after_ends z o.moves.ends es
        → ts' ≡ union (meet o.moves.next hits) (those 64 (meet o.moves.next unsure) (λ t.
        has y.modes (source s t) && ltb 0 (alternative s i (sets_of begun y) t)))
        → Numbered s begun entered first i y ts' (r + 1)
    round_next h v {ts'} {hits} {unsure} {y} a m e d =
        record { left = left_next n.left g c h v a m e d; later = λ t k. on t ∙ rest t (sym (ap (λ (x : Sets). has x.taken t) e) ∙ k) }
      where
        next : TickSets
        next = after_round s (sets_of begun z) es

        on : (t : ℕ) → fired_by s (suc (t_of s) - (r + 1)) i (sets_of begun y) ts' t ≡ fired_by s (t_of s - r) i next (triggered s 0 i next) t
        on t =
            let f : suc (t_of s) - (r + 1) ≡ t_of s - r = omega arith in
            ap (λ (x : ℕ). fired_by s x i (sets_of begun y) ts' t) f
            ∙ ap₂ (λ (u : TickSets) (x : ℕ). fired_by s (t_of s - r) i u x t) (next_sets n.left g c h v a m e d)
            (next_triggers n.left g c h v a m e d)

        rest : (t : ℕ) → has (union z.taken es) t ≡ false → fired_by s (t_of s - r) i next (triggered s 0 i next) t ≡ number s begun entered first i t
        rest t k =
            rw (is_false (has es t) (λ p. of_false k (union_r z.taken es t p))) at
            (fired_next t (is_false (has z.taken t) (λ p. of_false k (union_l z.taken es t p))))

  -- at most one round is left, and takes what was not taken before
  module _ (g : (all s begun entered first i).rounds ≤ r + 1) {last : ℕ} (e : last ≡ minus (all s begun entered first i).sets.taken z.taken) where
    final : Last s i (suc (t_of s) - r) (sets_of begun z) ts r
    final = last_of s i (suc (t_of s) - r) (sets_of begun z) ts r (omega (arith, g, ap (λ (o : Tick). o.rounds) n.left.same))

    last_has : (t : ℕ) → has last t ≡ (has z.taken t || has final.es t) && not (has z.taken t)
    last_has t =
        ap (λ (x : ℕ). has x t) (e ∙ ap (λ (o : Tick). minus o.sets.taken z.taken) (sym n.left.same) ∙ ap (λ (x : ℕ). minus x z.taken) final.taken)
        ∙ has-minus (union z.taken final.es) z.taken t
        ∙ ap (λ (b : Bool). b && not (has z.taken t)) (has-union z.taken final.es t)

    pub last_asks : (t : ℕ) → has last t ≡ true → (t < t_of s) × T (ltb 0 (cause s i (sets_of begun z) t))
    last_asks t m = caused n.left t (final.among t (go (has z.taken t) (has final.es t) (subst T (last_has t) (of_true m))))
      where
        go : (a b : Bool) → T ((a || b) && not a) → T b
        go true b k = absurd k
        go false true k = tt
        go false false k = k

    last_numbered : (t : ℕ)
        → cond (has last t) (cause s i (sets_of begun z) t) (numbered s begun entered first i z t) ≡ number s begun entered first i t
    last_numbered t =
        ap (λ (b : Bool). cond b (cause s i (sets_of begun z) t) (numbered s begun entered first i z t)) (last_has t) ∙ go (has z.taken t) refl
      where
        go : (a : Bool) → has z.taken t ≡ a
            → cond ((a || has final.es t) && not a) (cause s i (sets_of begun z) t) (cond a (number s begun entered first i t) 0) ≡ number s begun entered first i t
        go true k = refl
        go false k = rw (and-true (has final.es t)) (sym (final.fired t) ∙ n.later t k)

    pub last_laid : (l₀ : List ℕ) (at : ℕ) → at + 64 ≤ length l₀ → {l m : List ℕ} → l ≡ over l₀ at (row_from 0 64 (numbered s begun entered first i z))
        → m ≡ over l at (row_from 0 64 (λ t. cond (has last t) (cause s i (sets_of begun z) t) (get_or l (at + t) 0)))
        → m ≡ over l₀ at (row_from 0 64 (number s begun entered first i))
    last_laid l₀ at h p q =
        row_from_lem l₀ at 64 (numbered s begun entered first i z) h p (number s begun entered first i)
        (λ t. cond (has last t) (cause s i (sets_of begun z) t)) last_numbered q
