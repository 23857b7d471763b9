-- Readings tested one by one. Assumes nothing.
use mathlib.Core.Path.{◌≡◌}
use mathlib.Core.Bool.{Bool, true, ◌&&◌, cond}
use mathlib.Core.List.{List}
use Prim.Native.Nat.{ℕ, ◌<◌}
use lib.Dec.{T, eqb, leb}
use lib.ListN.{get_or}
use Rattle.sets.specs.Sets.{has, every}
use Rattle.sets.proofs.Tests.{of_true, cond_ext}
use Rattle.sets.proofs.Facts.{every_e}
use Rattle.sets.proofs.Membership.{has_none}
use Rattle.sets.proofs.Quantifiers.{every_same}
use Rattle.meaning.specs.Run.{reading, readings_ok}

-- a reading that runs is 1 to its delay, one that does not is 0
abbrev pub reading_fits : ℕ → (ℕ → ℕ) → List ℕ → ℕ → Bool
reading_fits timers delay_of readings t =
    cond (has timers t) (leb 1 (get_or readings t 0) && leb (get_or readings t 0) (delay_of t)) (eqb (get_or readings t 0) 0)

module _ (timers : ℕ) (delay_of : ℕ → ℕ) (readings : List ℕ) where
  pub readings_sound : readings_ok timers delay_of readings ≡ true → (t : ℕ) → t < 64 → T (reading_fits timers delay_of readings t)
  unfolding readings_ok reading
  readings_sound e = every_e 64 (reading_fits timers delay_of readings) (of_true e)

  -- where no timer runs every reading is 0
  pub readings_none : timers ≡ 0 → readings_ok timers delay_of readings ≡ every 64 (λ t. eqb (reading readings t) 0)
  unfolding readings_ok reading
  readings_none z = every_same 64 (reading_fits timers delay_of readings) (λ t. eqb (get_or readings t 0) 0) (λ t l. rw (z, has_none t))

  -- delays that are the same at the timers serve as well
  pub delays_serve : (d : ℕ → ℕ) → ((t : ℕ) → t < 64 → T (has timers t) → d t ≡ delay_of t) → readings_ok timers d readings ≡ readings_ok timers delay_of readings
  unfolding readings_ok reading
  delays_serve d same =
      every_same 64 (reading_fits timers d readings) (reading_fits timers delay_of readings)
      (λ t l. cond_ext (has timers t) _ _ (eqb (get_or readings t 0) 0) (λ r. rw (same t l r)))
