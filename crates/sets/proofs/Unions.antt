-- The union of a list's sets: its members, and the union of two lists. Assumes nothing.
use mathlib.Core.Path.{◌≡◌, sym, ap, ◌∙◌}
use mathlib.Core.Logic.{⊎_elim}
use mathlib.Core.List.{List, [], ◌∷◌, ◌++◌}
use Prim.Native.Nat.{ℕ, zero, suc, ◌<◌}
use native.Mathlib.Nat.{not-suc-le-zero, le_of_suc-le-suc}
use native.Mathlib.Omega.{arith}
use lib.Bits.{or_zero_l}
use lib.Dec.{T}
use lib.ListN.{length, get_or}
use Rattle.sets.specs.Sets.{has, union, union_of}
use Rattle.sets.proofs.Tests.{of_false}
use Rattle.sets.proofs.Membership.{has_none, union_assoc}
use Rattle.sets.proofs.Facts.{union_e, union_l, union_r}

pub union_of_e : (xs : List ℕ) (i : ℕ) → T (has (union_of xs) i) → (j : ℕ) × (j < length xs) × T (has (get_or xs j 0) i)
unfolding union_of
union_of_e [] i h = absurd (of_false (has_none i) h)
union_of_e (x ∷ xs) i h =
    ⊎_elim
    (λ (k : T (has x i)). (0, omega arith, k))
    (λ (k : T (has (union_of xs) i)). let r = union_of_e xs i k in (suc r.0, omega (arith, r.1), r.2))
    (union_e x (union_of xs) i h)

pub union_of_i : (xs : List ℕ) (j i : ℕ) → j < length xs → T (has (get_or xs j 0) i) → T (has (union_of xs) i)
unfolding union_of
union_of_i [] j i h k = absurd (not-suc-le-zero h)
union_of_i (x ∷ xs) zero i h k = union_l x (union_of xs) i k
union_of_i (x ∷ xs) (suc j) i h k = union_r x (union_of xs) i (union_of_i xs j i (le_of_suc-le-suc h) k)

pub union_of-append : (xs ys : List ℕ) → union_of (xs ++ ys) ≡ union (union_of xs) (union_of ys)
unfolding union_of
union_of-append [] ys = sym (or_zero_l (union_of ys))
union_of-append (x ∷ xs) ys = ap (union x) (union_of-append xs ys) ∙ sym (union_assoc x (union_of xs) (union_of ys))
