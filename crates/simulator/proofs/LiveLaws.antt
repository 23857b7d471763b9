-- The transitions whose source is active after a tick, by those before it. Assumes nothing.
use mathlib.Core.Path.{◌≡◌, refl, ap, ap₂, ◌∙◌}
use mathlib.Core.Logic.{◌⊎◌, inl, inr}
use mathlib.Core.Bool.{Bool, true, false, not, ◌&&◌, ◌||◌}
use mathlib.Core.List.{List}
use Prim.Native.Nat.{ℕ, ◌<◌}
use native.Mathlib.Nat.{lt_of_le_of_lt}
use lib.Dec.{T}
use Rattle.sets.specs.Sets.{has, union, minus}
use Rattle.sets.proofs.Membership.{has_none, has-union, has-minus, set_of_ext, union-lt, minus-le}
use Rattle.sets.proofs.Members.{empty}
use Rattle.meaning.specs.Sheet.{t_of, source}
use Rattle.reaction.specs.Plan.{sources_in}
use Rattle.reaction.proofs.PlanLaws.{sources_in-lt, has-sources_in}

module _ (s : List ℕ) where
  -- of no modes there are none
  pub sources_none : sources_in s 0 ≡ 0
  sources_none = empty (t_of s) (sources_in-lt s 0) (λ t l. has-sources_in s 0 t l ∙ has_none (source s t))

  -- in y are modes of x and entered ones: what x and the entered ones have, without what they have beside y
  pub sources_moved : (x entered y : ℕ) → ((m : ℕ) → T (has y m) → T (has x m) ⊎ T (has entered m))
      → minus (union (sources_in s x) (sources_in s entered)) (sources_in s (minus (union x entered) y)) ≡ sources_in s y
  unfolding sources_in
  sources_moved x entered y known =
      set_of_ext (t_of s) (λ t. has y (source s t))
      (lt_of_le_of_lt (minus-le both gone) (union-lt (t_of s) (sources_in-lt s x) (sources_in-lt s entered))) at
    where
      both : ℕ
      both = union (sources_in s x) (sources_in s entered)

      gone : ℕ
      gone = sources_in s (minus (union x entered) y)

      moved : (a e b : Bool) → (T b → T a ⊎ T e) → ((a || e) && not ((a || e) && not b)) ≡ b
      moved true e true k = refl
      moved true e false k = refl
      moved false true true k = refl
      moved false true false k = refl
      moved false false false k = refl
      moved false false true k = none (k tt)
        where
          none : ⊥ ⊎ ⊥ → false ≡ true
          none (inl n) = absurd n
          none (inr n) = absurd n

      at : (t : ℕ) → t < t_of s → has (minus both gone) t ≡ has y (source s t)
      at t l =
          let m = source s t in
          has-minus both gone t
          ∙ ap₂ (λ (a b : Bool). a && not b)
          (has-union (sources_in s x) (sources_in s entered) t ∙ ap₂ ◌||◌ (has-sources_in s x t l) (has-sources_in s entered t l))
          (has-sources_in s (minus (union x entered) y) t l ∙ has-minus (union x entered) y m ∙ ap (λ (a : Bool). a && not (has y m)) (has-union x entered m))
          ∙ moved (has x m) (has entered m) (has y m) (known m)
