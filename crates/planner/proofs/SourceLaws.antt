-- The transitions by their sources, while they are added one by one. Assumes nothing.
use mathlib.Core.Path.{◌≡◌, sym, ◌∙◌}
use mathlib.Core.Bool.{Bool}
use mathlib.Core.List.{List}
use Prim.Native.Nat.{ℕ, ◌+◌, ◌<◌}
use native.Mathlib.Omega.{arith}
use lib.ListN.{length, get_or, set}
use borrow.Author.Tests.{eq-eqb, ne_eqb}
use Rattle.sets.specs.Sets.{has, union, single}
use Rattle.sets.proofs.Membership.{has-single}
use Rattle.meaning.specs.Sheet.{t_of, source}
use Rattle.meaning.specs.Check.{sheet_refusal}
use Rattle.meaning.proofs.SheetLaws.{sound, n_le, source-lt}
use Rattle.reaction.specs.Plan.{sources_in}
use Rattle.planner.specs.Parts.{Words, from_of}
use Rattle.planner.proofs.WordLaws.{below_words, below_added}

-- a source is a mode
pub source_small : (s : List ℕ) → sheet_refusal s ≡ 0 → (t : ℕ) → t < t_of s → source s t < 32
source_small s h t l = omega (arith, n_le s (sound s h), source-lt s (sound s h) t l)

module _ (s : List ℕ) where
  -- m is the source of u
  abbrev pub by_source : ℕ → ℕ → Bool
  by_source m u = has (single m) (source s u)

  pub from_turn : (l : List ℕ) (t m : ℕ) {x : ℕ} → m < length l → m < 32 → m ≡ source s t → x ≡ single t → Words l 32 (below_words by_source t)
      → Words (set l m (union (get_or l m 0) x)) 32 (below_words by_source (t + 1))
  from_turn l t m room b e k w =
      below_added by_source l 32 t m room b k (has-single m (source s t) ∙ eq-eqb (source s t) m (sym e))
      (λ i q. has-single i (source s t) ∙ ne_eqb (source s t) i (λ y. q (sym (e ∙ y)))) w

  pub from_done : (l : List ℕ) {t : ℕ} → t ≡ t_of s → Words l 32 (below_words by_source t) → Words l 32 (from_of s)
  unfolding sources_in
  from_done l e w = rw e at w
