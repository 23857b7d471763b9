-- Document 002 takes one transition at a time: what its step does, and what the steps of a list of transitions do in order. Its whole rule
-- has more: after each step it looks again at what is triggered and gives way (Examples, `outer_triggered`). Assumes nothing.
use Rattle.std.specs.Prelude.{Bool, List, [], ◌∷◌, ℕ, ltb}
use Rattle.sets.specs.Sets.{union, minus, meet, single}
use Rattle.meaning.specs.Hierarchy.{exits, enters}
use Rattle.meaning.specs.Reaction.{TickSets, entering, after_round}
use Rattle.meaning.specs.TickInWords.{trigger_at, chosen_at, restarted}

-- what a reaction changes: the sets of the tick and the readings
pub record Reaction : Type 0 where
  pub sets : TickSets
  pub readings : List ℕ

module _ (s : List ℕ) where
  -- t is triggered on the input i; the eligible transitions
  unfoldable pub is_triggered : ℕ → Reaction → ℕ → Bool
  is_triggered i y t = ltb 0 (trigger_at s i y.sets y.readings t)

  unfoldable pub eligible_in : ℕ → Reaction → ℕ
  eligible_in i y = chosen_at s i y.sets y.readings

  -- t alone is taken: it exits what is active of its exits, enters its enters, and starts the timers whose source it enters
  unfoldable pub take_one : Reaction → ℕ → Reaction
  take_one y t =
      let z = y.sets in
      let out = meet z.modes (exits s t) in
      record {
        sets = record {
          modes = union (minus z.modes out) (enters s t);
          entered = union z.entered (enters s t);
          exited = union z.exited out;
          active = union z.active (enters s t);
          taken = union z.taken (single t);
        };
        readings = restarted s (enters s t) y.readings;
      }

  unfoldable pub take_in_order : Reaction → List ℕ → Reaction
  take_in_order y [] = y
  take_in_order y (t ∷ ts) = take_in_order (take_one y t) ts

  -- the transitions es are taken together, as in a round
  unfoldable pub take_together : Reaction → ℕ → Reaction
  take_together y es =
      record { sets = after_round s y.sets es; readings = restarted s (entering s es) y.readings }
