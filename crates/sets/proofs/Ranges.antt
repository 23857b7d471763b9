-- Iterators over the numbers from 0 to n: what `all` answers is what `every` says. Assumes nothing.
use Rattle.std.proofs.Common.{◌≡◌, refl, sym, ap, ap₂, ◌∙◌, ℕ, zero, suc, ◌+◌, Bool, ◌&&◌, arith}
use mathlib.Core.Bool.{and_assoc, and_comm, true, false}
use mathlib.Core.List.{List}
use denote.Param.Members.{Mut}
use Rattle.std.specs.declared.ops.Range.{Range}
use Rattle.std.specs.Fn.{Called}
use Rattle.std.specs.Iterator.{YieldsThen}
use Rattle.std.specs.List.{range_with_len, FoldsTo, list_all}
use Rattle.std.specs.Option.{MatchOption}
use Rattle.std.specs.Prelude.{Option}
use Rattle.std.proofs.iter.Yields.{nat_range_steps}
use Rattle.std.proofs.lemmas.Iterator.{YieldsList-from_range}
use Rattle.std.proofs.lemmas.Iterator.Search.{all_from_yields_List}
use Rattle.sets.specs.Sets.{every}
use Rattle.sets.proofs.Quantifiers.{every_same}

-- the first number apart from the others
every_front : (n : ℕ) (p : ℕ → Bool) → every (suc n) p ≡ (p 0 && every n (λ i. p (suc i)))
unfolding every
every_front zero p = refl
every_front (suc n) p = rw (every_front n p) (swap (p (suc n)) (p 0) (every n (λ i. p (suc i))))
  where
    swap : (a b c : Bool) → (a && (b && c)) ≡ (b && (a && c))
    swap a b c = sym (and_assoc a b c) ∙ ap (λ (x : Bool). x && c) (and_comm a b) ∙ and_assoc b a c

list_every : (n a : ℕ) (p : ℕ → Bool) → list_all p (range_with_len a n) ≡ every n (λ i. p (a + i))
unfolding every
list_every zero a p = refl
list_every (suc n) a p =
    ap₂ ◌&&◌ (ap p (omega arith)) (list_every n (a + 1) p ∙ every_same n _ _ (λ i l. ap p (omega arith)))
    ∙ sym (every_front n (λ i. p (a + i)))

-- what `all` answers of the numbers below n, where its closure answers the test
pub every_all : {F : Type 0} {g : Mut F (ℕ × Unit {0}) Bool} {s : Range ℕ} (n : ℕ) (test : ℕ → Bool) (u : Range ℕ) (f : F) (r : Bool)
    → s ≡ record { start = 0; end = n }
    → (xs : List ℕ) × (o : Option ℕ) × (j : F) × YieldsThen nat_range_steps s xs o u × FoldsTo (λ p x q. Called g p (x, tt) true q) f xs j × MatchOption o (r ≡ true) (λ x. (r ≡ false) × ((h : F) × Called g j (x, tt) false h))
    → ((x : ℕ) (b : Bool) (q : F) → Called g f (x, tt) b q → (q ≡ f) × (b ≡ test x))
    → r ≡ every n test
every_all n test u f r e ran calls = all_from_yields_List test u f r ran (YieldsList-from_range 0 n n e (omega arith)) calls ∙ list_every n 0 test ∙ every_same n _ _ (λ i l. ap test (omega arith))
