-- Every transition is a timer, or one that an input set can trigger by itself, or one to be judged in each round; the timers' delays.
-- Assumes nothing.
use mathlib.Core.Path.{◌≡◌, refl, sym, ap, ap₂, ◌∙◌}
use mathlib.Core.Logic.{⊎_elim}
use mathlib.Core.Bool.{Bool, true, false, not, ◌&&◌, ◌||◌, cond}
use mathlib.Core.List.{List}
use Prim.Native.Nat.{ℕ, ◌<◌}
use native.Mathlib.Nat.{eq-zero-or-pos, lt_of_le_of_lt}
use native.Mathlib.Omega.{arith}
use lib.Dec.{eqb, ltb}
use lib.ListN.{length, set, replicate}
use borrow.Author.Tests.{eq-eqb, lt-ltb, le-ltb}
use Rattle.sets.specs.Sets.{has, union, minus, below, those}
use Rattle.sets.proofs.Tests.{of_true}
use Rattle.sets.proofs.Facts.{set_of_e}
use Rattle.sets.proofs.Membership.{has_none, has-union, has-minus, has_below, below_lt, minus-le, has-set_of, set_of_ext, those_same}
use Rattle.sets.proofs.Members.{Turn, without_it, without_other}
use Rattle.meaning.specs.Sheet.{t_of, source}
use Rattle.meaning.specs.Check.{sheet_refusal}
use Rattle.meaning.specs.Reaction.{is_delay, delay, is_timer}
use Rattle.meaning.proofs.SheetLaws.{sound, n_le, source-lt}
use Rattle.reaction.specs.Plan.{timers, timer_delay, events_only, mixed, early}
use Rattle.reaction.specs.Facts.{open_facts, alternative_by}
use Rattle.reaction.proofs.TriggerLaws.{mixed_asks}
use Rattle.planner.specs.Parts.{Words, is_sure, sure}
use Rattle.planner.proofs.WordLaws.{zero_words, word_stored}

-- neither a timer nor a sure one, of a transition that is one of delay v or not (d), or has event terms alone (e)
neither : (v : ℕ) (d e : Bool) → not (d && ltb 0 v || cond d (eqb v 0) e) ≡ (not d && not e)
neither v true e = ⊎_elim (λ k. rw (le-ltb 0 v (omega arith), eq-eqb v 0 k)) (λ k. rw (lt-ltb 0 v k)) (eq-zero-or-pos v)
neither v false e = refl

module _ (s : List ℕ) where
  has-mixed : (t : ℕ) → t < t_of s → has (minus (below (t_of s)) (union (timers s) (sure s))) t ≡ (not (is_delay s t) && not (events_only s t))
  unfolding timers sure is_timer is_sure
  has-mixed t l =
      has-minus (below (t_of s)) (union (timers s) (sure s)) t
      ∙ ap₂ (λ (a b : Bool). a && not b) (has_below (t_of s) t ∙ lt-ltb t (t_of s) l)
      (has-union (timers s) (sure s) t ∙ ap₂ ◌||◌ (has-set_of (t_of s) (is_timer s) t l) (has-set_of (t_of s) (is_sure s) t l))
      ∙ neither (delay s t) (is_delay s t) (events_only s t)

  pub mixed_is : {n a b c r : ℕ} → n ≡ t_of s → a ≡ below n → b ≡ timers s → c ≡ sure s → r ≡ minus a (union b c) → r ≡ mixed s
  unfolding mixed
  mixed_is en ea eb ec er =
      rw (er, ea, en, eb, ec)
      (set_of_ext (t_of s) (λ t. not (is_delay s t) && not (events_only s t)) (lt_of_le_of_lt (minus-le (below (t_of s)) (union (timers s) (sure s))) (below_lt (t_of s))) has-mixed)

  -- ---- those of them that are judged where a tick begins

  -- every source is one of all modes
  pub early_is : sheet_refusal s ≡ 0 → {x r : ℕ} → x ≡ mixed s
      → r ≡ those 64 x (λ t. has (below 32) (source s t) && ltb 0 (alternative_by s open_facts t)) → r ≡ early s
  unfolding early
  early_is h {x} e q =
      q
      ∙ those_same 64 x (λ t. has (below 32) (source s t) && ltb 0 (alternative_by s open_facts t)) (λ t. ltb 0 (alternative_by s open_facts t))
      (λ t l k.
      let m : source s t < 32 = omega (arith, source-lt s (sound s h) t (mixed_asks s t e k).0, n_le s (sound s h)) in
      rw (has_below 32 (source s t), lt-ltb (source s t) 32 m))
      ∙ ap (λ (y : ℕ). those 64 y (λ t. ltb 0 (alternative_by s open_facts t))) e

  -- ---- the timers' delays

  pub timer_lt : {x : ℕ} (t : ℕ) → x ≡ timers s → has x t ≡ true → t < t_of s
  unfolding timers
  timer_lt t e h = (set_of_e (t_of s) (is_timer s) t (of_true (ap (λ (y : ℕ). has y t) (sym e) ∙ h))).0

  -- the delay of t while the timers of `rest` are to come
  abbrev pub delays_but : ℕ → ℕ → ℕ
  delays_but rest t = cond (has rest t) 0 (timer_delay s t)

  pub delays_start : {x : ℕ} {l : List ℕ} → x ≡ timers s → l ≡ replicate 64 0 → Words l 64 (delays_but x)
  delays_start {x} e z = zero_words 64 (delays_but x) z (λ t. rw e (none (has (timers s) t) (delay s t)))
    where
      none : (b : Bool) (d : ℕ) → cond b 0 (cond b d 0) ≡ 0
      none true d = refl
      none false d = refl

  pub delays_turn : {x rest t r v : ℕ} (l : List ℕ) → t < length l → x ≡ timers s → Turn 64 rest t r → has x t ≡ true → Words l 64 (delays_but rest) → v ≡ delay s t
      → Words (set l t v) 64 (delays_but r)
  delays_turn {x} {rest} {t} {r} l room e u k w q =
      word_stored (delays_but rest) (delays_but r) l 64 t room (q ∙ sym here)
      (λ j n. ap (λ (b : Bool). cond b 0 (timer_delay s j)) (sym (ap (λ (y : ℕ). has y j) u.removed ∙ without_other rest t j n))) w
    where
      here : delays_but r t ≡ delay s t
      here = rw (ap (λ (y : ℕ). has y t) u.removed ∙ without_it rest t, ← e, k)

  pub delays_done : {rest : ℕ} (l : List ℕ) → rest ≡ 0 → Words l 64 (delays_but rest) → Words l 64 (timer_delay s)
  delays_done l e w t k = w t k ∙ rw (e, has_none t)
