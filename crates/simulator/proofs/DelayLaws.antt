-- The delays of the timers, as a row of 64 words: the delay of a timer that runs stands there, and all are small. Assumes nothing.
use mathlib.Core.Path.{◌≡◌, refl, ap, ◌∙◌}
use mathlib.Core.Bool.{Bool, true, false, cond}
use mathlib.Core.List.{List}
use Prim.Native.Nat.{ℕ, ◌^◌, ◌<◌}
use native.Mathlib.Omega.{arith}
use lib.ListN.{get_or}
use Rattle.sets.specs.Sets.{has}
use Rattle.sets.proofs.Tests.{is_true, of_true}
use Rattle.sets.proofs.Facts.{set_of_e, set_of_i}
use Rattle.meaning.specs.Lists.{row_from}
use Rattle.meaning.specs.Sheet.{t_of}
use Rattle.meaning.specs.Reaction.{delay, is_timer}
use Rattle.meaning.proofs.ListLaws.{row_at}
use Rattle.meaning.proofs.SheetLaws.{Sound}
use Rattle.meaning.proofs.TickLaws.{Runs}
use Rattle.meaning.proofs.ReadingLaws.{delay_small}
use Rattle.reaction.specs.Plan.{timers, timer_delay}

module _ (s : List ℕ) {delays : List ℕ} (e : delays ≡ row_from 0 64 (timer_delay s)) (t : ℕ) (l : t < 64) where
  word_at : get_or delays t 0 ≡ timer_delay s t
  word_at = ap (λ (d : List ℕ). get_or d t 0) e ∙ row_at 64 (timer_delay s) t l

  pub delay_at : {x : ℕ} → Runs s x t → get_or delays t 0 ≡ delay s t
  unfolding timers
  delay_at on =
      word_at ∙ ap (λ (b : Bool). cond b (delay s t) 0) (is_true (has (timers s) t) (set_of_i (t_of s) (is_timer s) t on.small on.timer))

  pub delay_word : Sound s → get_or delays t 0 < 2 ^ 32
  unfolding timers
  delay_word sd = rw word_at (at (has (timers s) t) refl)
    where
      at : (b : Bool) → has (timers s) t ≡ b → cond b (delay s t) 0 < 2 ^ 32
      at true h = let r = set_of_e (t_of s) (is_timer s) t (of_true h) in omega (arith, delay_small s sd t r.0 r.1)
      at false h = omega arith
