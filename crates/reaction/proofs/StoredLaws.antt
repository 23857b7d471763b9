-- A row of a list with words by a rule at the members of a set, as a loop over the members stores them. Assumes nothing.
use mathlib.Core.Path.{◌≡◌, sym, ap, ◌∙◌}
use mathlib.Core.Bool.{true, cond}
use mathlib.Core.List.{List}
use Prim.Native.Nat.{ℕ, ◌+◌, ◌≤◌}
use native.Mathlib.Decide.{ℕ_discrete}
use native.Mathlib.Omega.{arith}
use lib.ListN.{length, get_or, take, drop, set, length-drop}
use lib.Seq.{length-take-le, get_or-take, get_or-drop, get_or-set_same, get_or-set_other}
use Rattle.sets.specs.Sets.{has}
use Rattle.sets.proofs.Tests.{is_true, cond_ext}
use Rattle.sets.proofs.Membership.{has_none}
use Rattle.sets.proofs.Members.{Turn, without_it, without_other}
use Rattle.rows.specs.Over.{over}
use Rattle.rows.proofs.OverLaws.{over_set, over_same}
use Rattle.meaning.specs.Lists.{row_from}
use Rattle.meaning.proofs.ListLaws.{row_from_ext, row_from-length, row_done}

module _ (f : ℕ → ℕ) (w at : ℕ) where
  -- the w words of the list l from `at` on, with f t in the place of word t for each member t of s
  abbrev row : List ℕ → ℕ → List ℕ
  row l s = row_from 0 w (λ t. cond (has s t) (f t) (get_or l (at + t) 0))

  -- the list with this row
  abbrev pub stored : List ℕ → ℕ → List ℕ
  stored l s = over l at (row l s)

  row-length : (l : List ℕ) (s : ℕ) → length (row l s) ≡ w
  row-length l s = row_from-length (λ t. cond (has s t) (f t) (get_or l (at + t) 0)) 0 w

  -- storing f t at the lowest member leaves the others to store
  pub stored_turn : {s t s' : ℕ} (l : List ℕ) → Turn w s t s' → at + w ≤ length l → stored (set l (at + t) (f t)) s' ≡ stored l s
  stored_turn {s} {t} {s'} l u h =
      over_set l at (row (set l (at + t) (f t)) s') t (f t) (omega (arith, row-length (set l (at + t) (f t)) s', u.lowest.small))
      ∙ ap (over l at) (row_from_ext _ _ 0 w (λ j a b. one j (ℕ_discrete j t)))
    where
      one : (j : ℕ) → Dec (j ≡ t) → cond (has s' j) (f j) (get_or (set l (at + t) (f t)) (at + j) 0) ≡ cond (has s j) (f j) (get_or l (at + j) 0)
      one j (yes p) =
          rw (p, u.removed, without_it s t, u.lowest.member) (get_or-set_same l (at + t) (f t) 0 (omega (arith, u.lowest.small)))
      one j (no p) = rw (u.removed, without_other s t j p, get_or-set_other l (at + t) (at + j) (f t) 0 (λ e. p (omega arith)))

  -- where none is left, the list is done
  pub stored_done : (l : List ℕ) (s : ℕ) → s ≡ 0 → at + w ≤ length l → l ≡ stored l s
  stored_done l s z h =
      let e : length (take w (drop at l)) ≡ w = length-take-le w (drop at l) (omega (arith, length-drop at l)) in
      sym (over_same l at w h)
      ∙ ap (over l at) (row_done _ (take w (drop at l)) w e (λ t k. get_or-take w (drop at l) t 0 k ∙ get_or-drop at l t 0 ∙ rw (z, has_none t)))

-- rules that agree at the members
pub stored_same : (f g : ℕ → ℕ) (w at : ℕ) (l : List ℕ) (s : ℕ) → ((t : ℕ) → has s t ≡ true → f t ≡ g t) → stored f w at l s ≡ stored g w at l s
stored_same f g w at l s h =
    ap (over l at) (row_from_ext _ _ 0 w (λ t a b. cond_ext (has s t) (f t) (g t) (get_or l (at + t) 0) (λ k. h t (is_true (has s t) k))))
