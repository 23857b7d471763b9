-- Why a transition is triggered: by the words of a tick and by its sets, and as a byte. Assumes nothing.
use mathlib.Core.Path.{◌≡◌, ap, ◌∙◌, subst}
use mathlib.Core.Bool.{Bool, true, false, ◌&&◌, cond}
use mathlib.Core.List.{List}
use Prim.Native.Nat.{ℕ, zero, suc, ◌+◌, ◌^◌, ◌≤◌, ◌<◌}
use native.Mathlib.Omega.{arith}
use lib.Dec.{T, eqb, ltb}
use borrow.Author.Tests.{ne_eqb}
use Rattle.sets.proofs.Tests.{and_l, and_r}
use Rattle.meaning.specs.Sheet.{t_of, term_count, term_kind, term_value}
use Rattle.meaning.specs.Check.{kind_ok, sheet_refusal}
use Rattle.meaning.specs.Reaction.{TickSets, is_delay}
use Rattle.sheet.proofs.Past.{first_read, record_read}
use Rattle.reaction.specs.Facts.{facts_of, holds_by, alternative_by_from, alternative_by}
use Rattle.reaction.specs.Causes.{cause_by, cause}
use Rattle.reaction.proofs.TermLaws.{met_at, count_le, alternative_by_lem}

module _ (s f : List ℕ) (t : ℕ) where
  -- each "or" counts one more alternative
  from_le : (w j a : ℕ) (ok : Bool) → alternative_by_from s f t w j a ok ≤ a + w
  unfolding alternative_by_from
  from_le zero j a true = omega arith
  from_le zero j a false = omega arith
  from_le (suc w) j a ok =
      go _ _ (eqb (term_kind s t j) 7) ok (from_le w (suc j) (suc a) true) (from_le w (suc j) a (ok && holds_by f (term_kind s t j) (term_value s t j)))
    where
      go : (x y : ℕ) (o k : Bool) → x ≤ suc a + w → y ≤ a + w → cond o (cond k a x) y ≤ a + suc w
      go x y true true next same = omega arith
      go x y true false next same = omega arith
      go x y false k next same = omega arith

  -- of a delay, and of terms
  pub cause_by-delay : is_delay s t ≡ true → cause_by s f t ≡ 9
  unfolding cause_by
  cause_by-delay e = rw e

  pub cause_by_terms : is_delay s t ≡ false → cause_by s f t ≡ alternative_by s f t
  unfolding cause_by
  cause_by_terms e = rw e

module _ (s : List ℕ) (h : sheet_refusal s ≡ 0) (t : ℕ) (l : t < t_of s) where
  -- the number of an alternative is a byte
  pub alternative_by_byte : (f : List ℕ) → alternative_by s f t < 256
  unfolding alternative_by
  alternative_by_byte f = omega (arith, from_le s f t (term_count s t) 0 1 true, count_le (record_read s h t l))

  -- an "or" is never first
  first_no_or : term_kind s t 0 ≡ 7 → ⊥
  unfolding kind_ok
  first_no_or e =
      let v = eqb (term_value s t 0) 0 in
      and_r v false (and_l (v && false) (ltb 1 (term_count s t)) (and_l ((v && false) && ltb 1 (term_count s t)) _ (met_at s h t 0 l (first_read s h t l).term 7 e)))

  -- one term that holds is alternative 1
  pub cause_by_one : (f : List ℕ) → is_delay s t ≡ false → term_count s t ≡ 1 → T (ltb 0 (cause_by s f t)) → cause_by s f t ≡ 1
  unfolding alternative_by alternative_by_from
  cause_by_one f d n k =
      let b = holds_by f (term_kind s t 0) (term_value s t 0) in
      let e : cause_by s f t ≡ cond b 1 0 = cause_by_terms s f t d ∙ rw (n, ne_eqb (term_kind s t 0) 7 first_no_or) in
      go b e (subst (λ (x : ℕ). T (ltb 0 x)) e k)
    where
      go : (b : Bool) → cause_by s f t ≡ cond b 1 0 → T (ltb 0 (cond b 1 0)) → cause_by s f t ≡ 1
      go true e k = e
      go false e k = absurd k

  -- the words of a tick say what its sets say
  pub cause_by_lem : {f : List ℕ} (i : ℕ) (z : TickSets) → i < 2 ^ 32 → f ≡ facts_of i z → cause_by s f t ≡ cause s i z t
  unfolding cause_by cause
  cause_by_lem i z b e = ap (λ (f : List ℕ). cause_by s f t) e ∙ ap (cond (is_delay s t) 9) (alternative_by_lem s i z b t h l)
