-- What is triggered, by the words of the plan. Assumes nothing.
use mathlib.Core.Path.{◌≡◌, refl, sym, ap, ap₂, ◌∙◌, subst}
use mathlib.Core.Bool.{Bool, true, false, not, ◌&&◌, ◌||◌, cond, or-false}
use mathlib.Core.List.{List}
use Prim.Native.Nat.{ℕ, ◌^◌, ◌<◌}
use native.Mathlib.Nat.{lt_of_lt_of_le, lt_of_le_of_lt, pow-le-pow_right}
use native.Mathlib.Omega.{arith}
use lib.Dec.{T, eqb, ltb}
use borrow.Author.Tests.{not-true}
use Rattle.sets.specs.Sets.{has, union, meet, set_of, those}
use Rattle.sets.proofs.Tests.{is_true, is_false, of_true, of_false, and_l}
use Rattle.sets.proofs.Facts.{set_of_e}
use Rattle.sets.proofs.Membership.{has-union, has_meet, has-set_of, set_of_ext, union-lt, meet-le}
use Rattle.sets.proofs.Those.{has-those, those_part_lt}
use Rattle.meaning.specs.Sheet.{k_of, t_of, source}
use Rattle.meaning.specs.Check.{sheet_refusal}
use Rattle.meaning.specs.Reaction.{TickSets, is_delay, delay, is_timer, alternative, is_due, trigger, triggered}
use Rattle.meaning.proofs.SheetLaws.{sound, k_le, t_le}
use Rattle.reaction.specs.Plan.{no_sets, sources_in, events_only, hits_of, mixed}
use Rattle.reaction.proofs.PlanLaws.{sources_in-lt, has-sources_in}
use Rattle.reaction.proofs.TermLaws.{events_alone}

-- ---- what is triggered

-- by its truth values: the source is active; a delay, of 0, due; events only, with the alternative n that the input gives and the
-- alternative a that the sets give
trigger_cases : (on wait now due events : Bool) (a n : ℕ) → (wait ≡ false → due ≡ false) → (events ≡ true → n ≡ a)
    → ((on && (due || cond wait now (events && ltb 0 n))) || ((on && (not wait && not events)) && ltb 0 a))
    ≡ ltb 0 (cond (not on) 0 (cond wait (cond (now || due) 9 0) a))
trigger_cases false wait now due events a n p q = refl
trigger_cases true true true true events a n p q = refl
trigger_cases true true true false events a n p q = refl
trigger_cases true true false true events a n p q = refl
trigger_cases true true false false events a n p q = refl
trigger_cases true false now due true a n p q = rw (p refl, q refl) (or-false (ltb 0 a))
trigger_cases true false now due false a n p q = rw (p refl)

module _ (s : List ℕ) where
  -- an input set is below 64
  pub input_lt : (i : ℕ) → sheet_refusal s ≡ 0 → i < 2 ^ k_of s → i < 64
  input_lt i h l = lt_of_lt_of_le l (pow-le-pow_right {n = 2} (omega arith) (k_le s (sound s h)))

  -- what is judged are transitions, and no delays
  pub mixed_e : (t : ℕ) → T (has (mixed s) t) → (t < t_of s) × (is_delay s t ≡ false)
  unfolding mixed
  mixed_e t h =
      let k = set_of_e (t_of s) (λ u. not (is_delay s u) && not (events_only s u)) t h in
      (k.0, not-true (is_delay s t) (is_true (not (is_delay s t)) (and_l (not (is_delay s t)) (not (events_only s t)) k.1)))

  -- so of a word that is theirs
  pub mixed_asks : (t : ℕ) {x : ℕ} → x ≡ mixed s → has x t ≡ true → (t < t_of s) × (is_delay s t ≡ false)
  mixed_asks t e k = mixed_e t (of_true (ap (λ (y : ℕ). has y t) (sym e) ∙ k))

-- the transitions whose source is a current mode, and due timers of which none's source was entered
pub record Derived (s : List ℕ) (z : TickSets) (live due : ℕ) : Type 0 where
  pub sources : live ≡ sources_in s z.modes
  pub fresh : due ≡ set_of (t_of s) (is_due s due z)
  pub timing : (t : ℕ) → T (has due t) → T (is_timer s t)

module _ (s : List ℕ) (h : sheet_refusal s ≡ 0) (z : TickSets) (live due : ℕ) (d : Derived s z live due) (i : ℕ) (b : i < 2 ^ k_of s) where
  -- the terms of t hold
  abbrev judge : ℕ → Bool
  judge t = ltb 0 (alternative s i z t)

  due_waits : (t : ℕ) → is_delay s t ≡ false → has due t ≡ false
  unfolding is_timer
  due_waits t e = is_false (has due t) (λ k. of_false e (and_l (is_delay s t) (ltb 0 (delay s t)) (d.timing t k)))

  triggered_at : (t : ℕ) → t < t_of s
      → has (union (meet live (union due (hits_of s i))) (those 64 (meet live (mixed s)) judge)) t ≡ ltb 0 (trigger s due i z t)
  unfolding trigger hits_of mixed
  triggered_at t l =
      let small : i < 2 ^ 32 = omega (arith, input_lt s i h b) in
      let on = has z.modes (source s t) in
      let wait = is_delay s t in
      let now = eqb (delay s t) 0 in
      let a = alternative s i z t in
      let due_is : has due t ≡ is_due s due z t = ap (λ (x : ℕ). has x t) d.fresh ∙ has-set_of (t_of s) (is_due s due z) t l in
      let live-is : has live t ≡ on = ap (λ (x : ℕ). has x t) d.sources ∙ has-sources_in s z.modes t l in
      has-union (meet live (union due (hits_of s i))) (those 64 (meet live (mixed s)) judge) t
      ∙ ap₂ ◌||◌
      (has_meet live (union due (hits_of s i)) t ∙ ap₂ ◌&&◌ live-is (has-union due (hits_of s i) t ∙ ap (λ (x : Bool). has due t || x) (has-set_of (t_of s) _ t l)))
      (has-those 64 (meet live (mixed s)) judge t (lt_of_lt_of_le l (t_le s (sound s h)))
      ∙ ap (λ (x : Bool). x && judge t) (has_meet live (mixed s) t ∙ ap₂ ◌&&◌ live-is (has-set_of (t_of s) _ t l)))
      ∙ trigger_cases on wait now (has due t) (events_only s t) a (alternative s i no_sets t) (due_waits t) (events_alone s i no_sets z t small h l)
      ∙ ap (λ (x : Bool). ltb 0 (cond (not on) 0 (cond wait (cond (now || x) 9 0) a))) due_is

  live_lt : live < 2 ^ t_of s
  live_lt = subst (λ (x : ℕ). x < 2 ^ t_of s) (sym d.sources) (sources_in-lt s z.modes)

  pub triggered-union : union (meet live (union due (hits_of s i))) (those 64 (meet live (mixed s)) judge) ≡ triggered s due i z
  unfolding triggered
  triggered-union =
      set_of_ext (t_of s) (λ t. ltb 0 (trigger s due i z t))
      (union-lt (t_of s) (lt_of_le_of_lt (meet-le live (union due (hits_of s i))) live_lt)
      (those_part_lt 64 (t_of s) (meet live (mixed s)) judge (lt_of_le_of_lt (meet-le live (mixed s)) live_lt)))
      triggered_at
