-- While the transitions of a round are taken one at a time in any order, those not yet taken stay triggered. Assumes nothing.
use mathlib.Core.Path.{◌≡◌, refl, sym, ap, ap₂, ◌∙◌, subst}
use mathlib.Core.Bool.{Bool, true, false, not, ◌&&◌, ◌||◌, cond}
use mathlib.Core.List.{List, [], ◌∷◌}
use Prim.Native.Nat.{ℕ, zero, suc, ◌<◌}
use native.Mathlib.Nat.{lt_of_lt_of_le}
use native.Mathlib.Omega.{arith}
use lib.Dec.{T, eqb, ltb, eqb_refl}
use lib.ListN.{get_or}
use Rattle.sets.specs.Sets.{has, minus, meet, single}
use Rattle.sets.proofs.Tests.{is_false, of_false, and_l, and_r, and_i, or_l, or_r}
use Rattle.sets.proofs.Facts.{union_l, set_of_e, some_in_e, some_in_i}
use Rattle.sets.proofs.Membership.{has-union, has_meet, has-minus}
use Rattle.meaning.specs.Lists.{is_in, all_of}
use Rattle.meaning.specs.Sheet.{n_of, t_of, source, term_kind, term_value}
use Rattle.meaning.specs.Hierarchy.{exits, enters}
use Rattle.meaning.specs.Reaction.{TickSets, is_delay, delay, running, holds, alternatives, all_hold, alternative}
use Rattle.meaning.specs.TickInWords.{trigger_at, chosen_at, restarted}
use Rattle.meaning.specs.OneByOne.{Reaction, is_triggered, eligible_in, take_one, take_in_order}
use Rattle.meaning.specs.Promises.{StayTriggered}
use Rattle.meaning.proofs.ListLaws.{row_at, first_of_more}
use Rattle.meaning.proofs.SheetLaws.{Sound, sound, t_le}
use Rattle.meaning.proofs.GivesWayLaws.{eligible-lt, eligible_among}
use Rattle.meaning.proofs.TickLaws.{holds_none, running_e}
use Rattle.meaning.proofs.Consistency.{source_apart, clear_apart}

-- an eligible transition is below T and triggered
module _ (s : List ℕ) (i : ℕ) (y : Reaction) where
  eligible_in_lt : (t : ℕ) → T (has (eligible_in s i y) t) → t < t_of s
  unfolding eligible_in chosen_at
  eligible_in_lt t h = eligible-lt s _ t h

  eligible_in_triggered : (t : ℕ) → T (has (eligible_in s i y) t) → T (is_triggered s i y t)
  unfolding eligible_in chosen_at is_triggered
  eligible_in_triggered t h = (set_of_e (t_of s) (λ u. ltb 0 (trigger_at s i y.sets y.readings u)) t (eligible_among s _ t h)).1

-- more modes are entered, exited and active, and more transitions taken
record More (z z' : TickSets) : Type 0 where
  entered : (m : ℕ) → T (has z.entered m) → T (has z'.entered m)
  exited : (m : ℕ) → T (has z.exited m) → T (has z'.exited m)
  active : (m : ℕ) → T (has z.active m) → T (has z'.active m)
  taken : (t : ℕ) → T (has z.taken t) → T (has z'.taken t)

-- so what held still holds: a term, the terms of an alternative, an alternative
module _ (s : List ℕ) (i : ℕ) (z z' : TickSets) (more : More z z') where
  holds_more : (c v : ℕ) → T (holds s i z c v) → T (holds s i z' c v)
  unfolding holds
  holds_more zero v h = h
  holds_more (suc zero) v h = h
  holds_more (suc (suc zero)) v h = h
  holds_more (suc (suc (suc zero))) v h =
      let r = some_in_e (n_of s) v (has z.active) h in
      some_in_i (n_of s) v (has z'.active) r.0 r.1 r.2 (more.active r.0 r.3)
  holds_more (suc (suc (suc (suc zero)))) v h = more.entered v h
  holds_more (suc (suc (suc (suc (suc zero))))) v h = more.exited v h
  holds_more (suc (suc (suc (suc (suc (suc zero)))))) v h = more.taken v h
  holds_more (suc (suc (suc (suc (suc (suc (suc c))))))) v h = absurd (of_false (holds_none s i z (suc (suc (suc (suc (suc (suc (suc c))))))) v (omega arith)) h)

  all_more : (t : ℕ) (js : List ℕ) → T (all_hold s i z t js) → T (all_hold s i z' t js)
  unfolding all_hold all_of
  all_more t [] h = tt
  all_more t (j ∷ js) h =
      let c = term_kind s t j in
      let v = term_value s t j in
      and_i (holds s i z' c v) (all_hold s i z' t js) (holds_more c v (and_l (holds s i z c v) (all_hold s i z t js) h))
      (all_more t js (and_r (holds s i z c v) (all_hold s i z t js) h))

  alternative_more : (t : ℕ) → T (ltb 0 (alternative s i z t)) → T (ltb 0 (alternative s i z' t))
  unfolding alternative
  alternative_more t h = first_of_more (all_hold s i z t) (all_hold s i z' t) (all_more t) 0 (alternatives s t) h

module _ (s : List ℕ) (sd : Sound s) (i : ℕ) where
  -- a transition u that is taken neither exits nor enters t's source, and t stays triggered
  stays_one : (y : Reaction) (u t : ℕ) → t < t_of s → (T (has (exits s u) (source s t)) → ⊥) → (T (has (enters s u) (source s t)) → ⊥)
      → T (is_triggered s i y t) → T (is_triggered s i (take_one s y u) t)
  unfolding is_triggered trigger_at take_one restarted
  stays_one y u t l out in' h = go (has z.modes (source s t)) (is_delay s t) refl h
    where
      z : TickSets
      z = y.sets

      o : Reaction
      o = take_one s y u

      grows : More z o.sets
      grows = record {
        entered = union_l z.entered (enters s u);
        exited = union_l z.exited (meet z.modes (exits s u));
        active = union_l z.active (enters s u);
        taken = union_l z.taken (single u);
      }

      -- its source stays active, and its reading as it was
      on : has z.modes (source s t) ≡ true → has o.sets.modes (source s t) ≡ true
      on e =
          has-union (minus z.modes (meet z.modes (exits s u))) (enters s u) (source s t)
          ∙ ap (λ (b : Bool). b || has (enters s u) (source s t))
          (has-minus z.modes (meet z.modes (exits s u)) (source s t)
          ∙ ap₂ (λ (a b : Bool). a && not b) e
          (has_meet z.modes (exits s u) (source s t) ∙ ap₂ (λ (a b : Bool). a && b) e (is_false (has (exits s u) (source s t)) out)))

      still : get_or o.readings t 0 ≡ get_or y.readings t 0
      still =
          row_at 64 (λ j. cond (has (running s (enters s u)) j) (delay s j) (get_or y.readings j 0)) t (lt_of_lt_of_le l (t_le s sd))
          ∙ ap (λ (b : Bool). cond b (delay s t) (get_or y.readings t 0)) (is_false (has (running s (enters s u)) t) (λ r. in' (running_e s (enters s u) t r).on))

      go : (a b : Bool) → has z.modes (source s t) ≡ a
          → T (ltb 0 (cond (not a) 0 (cond b (cond (eqb (delay s t) 0 || eqb (get_or y.readings t 0) 0) 9 0) (alternative s i z t))))
          → T (ltb 0 (cond (not (has o.sets.modes (source s t))) 0
          (cond b (cond (eqb (delay s t) 0 || eqb (get_or o.readings t 0) 0) 9 0) (alternative s i o.sets t))))
      go false b e k = absurd k
      go true true e k = rw (on e, still) k
      go true false e k = rw (on e) (alternative_more s i z o.sets grows t k)

  stays_all : (before : List ℕ) (y : Reaction) (t : ℕ) → t < t_of s
      → ((u : ℕ) → T (is_in u before) → (T (has (exits s u) (source s t)) → ⊥) × (T (has (enters s u) (source s t)) → ⊥))
      → T (is_triggered s i y t) → T (is_triggered s i (take_in_order s y before) t)
  unfolding take_in_order is_in
  stays_all [] y t l apart h = h
  stays_all (u ∷ us) y t l apart h =
      let a = apart u (or_l (eqb u u) (is_in u us) (eqb_refl u)) in
      stays_all us (take_one s y u) t l (λ v k. apart v (or_r (eqb v u) (is_in v us) k)) (stays_one y u t l a.0 a.1 h)

pub stay_triggered_lem : StayTriggered
unfolding StayTriggered
stay_triggered_lem s h y i e before from t a new =
    let sd = sound s h in
    let es = eligible_in s i y in
    let small = eligible_in_lt s i y in
    stays_all s sd i before y t (small t a)
    (λ u k. source_apart s sd es small (clear_apart s sd es small e) t u a (from u k) (λ g. of_false new (subst (λ (v : ℕ). T (is_in v before)) (sym g) k)))
    (eligible_in_triggered s i y t a)
