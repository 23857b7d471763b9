-- Chains over the members of a set: where `all` may call its closure, and what it answers. Assumes nothing.
use Rattle.std.proofs.Common.{◌≡◌, refl, sym, ap, ap₂, ◌∙◌, ℕ, ◌^◌, ◌<◌, Bool, true, false, ◌&&◌}
use mathlib.Core.List.{List, [], ◌∷◌}
use mathlib.Core.Logic.{⊎_elim}
use native.Mathlib.Nat.{eq-zero-or-pos}
use denote.Param.Members.{Mut}
use Rattle.std.specs.Fn.{Called}
use Rattle.std.specs.Iterator.{AlwaysYields, YieldsThen, CallableAtEachTurn}
use Rattle.std.proofs.lemmas.Iterator.Adapters.{serves_from_places}
use Rattle.std.proofs.lemmas.List.{get_or_default}
use lib.Dec.{T}
use lib.ListN.{get_or}
use Rattle.sets.proofs.Tests.{of_true}
use Rattle.sets.proofs.Those.{nth_member}
use Rattle.std.specs.List.{FoldsTo, list_all}
use Rattle.std.specs.Option.{MatchOption}
use Rattle.std.specs.Prelude.{Option}
use Rattle.std.proofs.lemmas.Iterator.Search.{all_from_yields_List}
use Rattle.sets.specs.declared.set.Members.{Members}
use Rattle.sets.specs.Sets.{has, size, members, lowest, single, minus, every_in, NextMember}
use Rattle.sets.proofs.Members.{Turn, step, members-turn, members_none}
use Rattle.sets.proofs.Widths.{every_in-and, every_in_none}

module _ (w : ℕ) where
  abbrev steps : Members ℕ → Option ℕ → Members ℕ → Type 0
  steps s r t = NextMember w s.rest r t.rest

  yields : (xs : List ℕ) (s : Members ℕ) → s.rest < 2 ^ w → members w s.rest ≡ xs → AlwaysYields steps (λ x. x) s xs
  yields [] s h e = λ x j p. let k : [] ≡ x ∷ members w j.rest = sym e ∙ members-turn (step h p) in cc
  yields (y ∷ ys) s h e = (
    (λ j p. let k : y ∷ ys ≡ [] = sym e ∙ ap (members w) p.0 ∙ members_none w in cc),
    λ x j p.
        let u = step h p in
        let k : x ∷ members w j.rest ≡ y ∷ ys = sym (members-turn u) ∙ e in
        (cc, yields ys j u.fits (cc)),
  )

  every_list : (test : ℕ → Bool) (xs : List ℕ) (s : ℕ) → s < 2 ^ w → members w s ≡ xs → list_all test xs ≡ every_in w s test
  every_list test [] s h e =
      ⊎_elim (λ z. sym (every_in_none w s test z))
      (λ p. let k : [] ≡ lowest w s ∷ members w (minus s (single (lowest w s))) = sym e ∙ members-turn (step h (p, refl, refl)) in absurd (cc))
      (eq-zero-or-pos s)
  every_list test (y ∷ ys) s h e =
      ⊎_elim (λ z. let k : y ∷ ys ≡ [] = sym e ∙ ap (members w) z ∙ members_none w in absurd (cc))
      (λ p.
      let r = minus s (single (lowest w s)) in
      let u : Turn w s (lowest w s) r = step h (p, refl, refl) in
      let k : lowest w s ∷ members w r ≡ y ∷ ys = sym (members-turn u) ∙ e in
      let first : y ≡ lowest w s = cc in
      ap₂ ◌&&◌ (ap test first) (every_list test ys r u.fits (cc)) ∙ every_in-and test true u refl)
      (eq-zero-or-pos s)

  -- a closure that stays as it is may be called at each member, where it may be called at every number in the set
  pub serves_from_members : {P : Type 0} {R : P → ℕ → P → Type 0} {Q : P → ℕ → Type 0} {s : Members ℕ} {p : P} → s.rest < 2 ^ w
      → ((x : ℕ) (q : P) → R p x q → q ≡ p) → ((x : ℕ) → T (has s.rest x) → Q p x) → CallableAtEachTurn steps R Q s p
  unfolding size
  serves_from_members {s = s} h keeps serves =
      serves_from_places {steps = steps} {v = λ x. x} (record { runs = yields (members w s.rest) s h refl }) keeps
      (λ x k l e.
      let at : x ≡ get_or (members w s.rest) k 0 = e ∙ get_or_default (members w s.rest) k x 0 l in
      serves x (of_true (ap (has s.rest) at ∙ (nth_member w s.rest k l).1)))

  -- what `all` answers of the members, where its closure answers the test
  pub every_in_all : {F : Type 0} {g : Mut F (ℕ × Unit {0}) Bool} {s : Members ℕ} (test : ℕ → Bool) (u : Members ℕ) (f : F) (r : Bool)
      → s.rest < 2 ^ w
      → (xs : List ℕ) × (o : Option ℕ) × (j : F) × YieldsThen steps s xs o u × FoldsTo (λ p x q. Called g p (x, tt) true q) f xs j × MatchOption o (r ≡ true) (λ x. (r ≡ false) × ((h : F) × Called g j (x, tt) false h))
      → ((x : ℕ) (b : Bool) (q : F) → Called g f (x, tt) b q → (q ≡ f) × (b ≡ test x))
      → r ≡ every_in w s.rest test
  every_in_all {F} {g} {s} test u f r h ran calls =
      all_from_yields_List {steps = steps} {s = s} test u f r ran (record { runs = yields (members w s.rest) s h refl }) calls ∙ every_list test (members w s.rest) s.rest h refl
