-- Terms about what a transition does: the others hold after a round as before it, and where each term holds by more words, some
-- alternative does. Assumes nothing.
use mathlib.Core.Path.{◌≡◌, refl, sym, ap, ◌∙◌, subst}
use mathlib.Core.Logic.{◌⊎◌, inl, inr, ⊎_elim}
use mathlib.Core.Bool.{Bool, true, false, ◌&&◌, ◌||◌, cond}
use mathlib.Core.List.{List}
use Prim.Native.Nat.{ℕ, zero, suc, ◌+◌, ◌^◌, ◌<◌}
use native.Mathlib.Omega.{arith}
use lib.Dec.{T, eqb, leb, ltb, lt→ltb, eqb→eq, eqb_refl}
use Rattle.sets.specs.Sets.{has}
use Rattle.sets.proofs.Tests.{and_l, and_i, or_e, bool_ext}
use Rattle.sets.proofs.Facts.{union-absent, set_of_e, set_of_i, some_e, some_i, every_e}
use Rattle.sets.proofs.Quantifiers.{meets_e, meets_i, meets-union}
use Rattle.meaning.specs.Sheet.{t_of, term_count, term_kind, term_value}
use Rattle.meaning.specs.Check.{kind_ok, term_ok, sheet_refusal}
use Rattle.meaning.specs.Hierarchy.{enters}
use Rattle.meaning.specs.Reaction.{TickSets, is_delay, alternative, exiting, entering, after_round}
use Rattle.meaning.proofs.SheetLaws.{sound}
use Rattle.meaning.proofs.Consistency.{exiting_e, entering_e}
use Rattle.reaction.specs.Plan.{is_event_kind, events_only, is_about, woken_by}
use Rattle.reaction.specs.Facts.{facts_of, holds_by, alternative_by_from, alternative_by}
use Rattle.reaction.proofs.TermLaws.{none_by, alternative_by_lem}

-- ---- where each term that holds by the words f holds by the words g, some alternative holds by g if one does by f

module _ (s f g : List ℕ) (t : ℕ) where
  -- term j holds by some words
  abbrev by : List ℕ → ℕ → Bool
  by x j = holds_by x (term_kind s t j) (term_value s t j)

  more_from : (w j a : ℕ) (ok ok' : Bool) → (T ok → T ok') → ((u : ℕ) → u < j + w → T (by f u) → T (by g u))
      → T (ltb 0 (alternative_by_from s f t w j (suc a) ok)) → T (ltb 0 (alternative_by_from s g t w j (suc a) ok'))
  unfolding alternative_by_from
  more_from zero j a true true o h = λ k. k
  more_from zero j a true false o h = absurd (o tt)
  more_from zero j a false ok' o h = λ k. absurd k
  more_from (suc w) j a ok ok' o h =
      go _ _ _ _ (eqb (term_kind s t j) 7) ok ok' o (more_from w (suc j) (suc a) true true (λ k. k) on)
      (more_from w (suc j) a (ok && by f j) (ok' && by g j) (both ok ok' (by f j) (by g j) o (h j (omega arith))) on)
    where
      on : (u : ℕ) → u < suc j + w → T (by f u) → T (by g u)
      on u l = h u (omega arith)

      both : (k k' x y : Bool) → (T k → T k') → (T x → T y) → T (k && x) → T (k' && y)
      both true k' x y p q m = and_i k' y (p tt) (q m)
      both false k' x y p q m = absurd m

      go : (x y p q : ℕ) (b k k' : Bool) → (T k → T k') → (T (ltb 0 x) → T (ltb 0 y)) → (T (ltb 0 p) → T (ltb 0 q))
          → T (ltb 0 (cond b (cond k (suc a) x) p)) → T (ltb 0 (cond b (cond k' (suc a) y) q))
      go x y p q true true true c next same m = m
      go x y p q true true false c next same m = absurd (c tt)
      go x y p q true false true c next same m = lt→ltb 0 (suc a) (omega arith)
      go x y p q true false false c next same m = next m
      go x y p q false k k' c next same m = same m

  pub by_more : ((j : ℕ) → j < term_count s t → T (by f j) → T (by g j)) → T (ltb 0 (alternative_by s f t)) → T (ltb 0 (alternative_by s g t))
  unfolding alternative_by
  by_more h = more_from (term_count s t) 0 0 true true (λ k. k) (λ j l. h j (omega arith))

-- ---- what is about no transition of a round holds after it as before

module _ (s : List ℕ) (h : sheet_refusal s ≡ 0) (i : ℕ) (b : i < 2 ^ 32) (z : TickSets) (es : ℕ) (small : (t : ℕ) → T (has es t) → t < t_of s) where
  holds_after : (c v : ℕ) → ((t : ℕ) → T (has es t) → T (is_about s t c v) → ⊥)
      → holds_by (facts_of i (after_round s z es)) c v ≡ holds_by (facts_of i z) c v
  unfolding holds_by is_about after_round
  holds_after zero v n = refl
  holds_after (suc zero) v n = refl
  holds_after (suc (suc zero)) v n = refl
  holds_after (suc (suc (suc zero))) v n =
      meets-union v z.active (entering s es) (λ k.
      let m = meets_e v (entering s es) k in
      let r = entering_e s (sound s h) es m.0 m.2 in
      n r.0 r.2 (meets_i v (enters s r.0) m.0 m.1 r.3))
  holds_after (suc (suc (suc (suc zero)))) v n =
      union-absent z.entered (entering s es) v (λ k. let r = entering_e s (sound s h) es v k in n r.0 r.2 r.3)
  holds_after (suc (suc (suc (suc (suc zero))))) v n =
      union-absent z.exited (exiting s z es) v (λ k. let r = (exiting_e s (sound s h) z es v k).1 in n r.0 r.2 r.3)
  holds_after (suc (suc (suc (suc (suc (suc zero)))))) v n = union-absent z.taken es v (λ k. n v k (eqb_refl v))
  holds_after (suc (suc (suc (suc (suc (suc (suc zero))))))) v n = refl
  holds_after (suc (suc (suc (suc (suc (suc (suc (suc c)))))))) v n = none_by s i (after_round s z es) b c v ∙ sym (none_by s i z b c v)

  -- the terms of u say the same after the round, where none is about what a transition of the round does
  pub woken_same : (u : ℕ) → u < t_of s → ((t : ℕ) → T (has es t) → T (has (woken_by s t) u) → ⊥)
      → ltb 0 (alternative s i (after_round s z es) u) ≡ ltb 0 (alternative s i z u)
  unfolding woken_by
  woken_same u l n =
      ap (ltb 0) (sym (alternative_by_lem s i (after_round s z es) b u h l))
      ∙ bool_ext (ltb 0 (alternative_by s (facts_of i (after_round s z es)) u)) (ltb 0 (alternative_by s (facts_of i z) u))
      (by_more s (facts_of i (after_round s z es)) (facts_of i z) u (λ j k. subst T (same j k)))
      (by_more s (facts_of i z) (facts_of i (after_round s z es)) u (λ j k. subst T (sym (same j k))))
      ∙ ap (ltb 0) (alternative_by_lem s i z b u h l)
    where
      same : (j : ℕ) → j < term_count s u
          → holds_by (facts_of i (after_round s z es)) (term_kind s u j) (term_value s u j) ≡ holds_by (facts_of i z) (term_kind s u j) (term_value s u j)
      same j k =
          holds_after (term_kind s u j) (term_value s u j)
          (λ t m a. n t m (set_of_i (t_of s) _ u l (some_i (term_count s u) _ j k a)))

-- ---- no term of a delay, and none that speaks of events only, is about what a transition does

about_none : (s : List ℕ) (t c v : ℕ) → (c ≡ 0) ⊎ T (is_event_kind c) → T (is_about s t c v) → ⊥
unfolding is_about is_event_kind
about_none s t c v h a =
    ⊎_elim (at 0 (λ k. k))
    (λ e. ⊎_elim (λ k. ⊎_elim (named 1 (λ x. x)) (named 2 (λ x. x)) (or_e (eqb c 1) (eqb c 2) k)) (named 7 (λ x. x)) (or_e (eqb c 1 || eqb c 2) (eqb c 7) e)) h
  where
    at : (d : ℕ) → (T (is_about s t d v) → ⊥) → c ≡ d → ⊥
    at d n e = n (subst (λ (x : ℕ). T (is_about s t x v)) e a)

    named : (d : ℕ) → (T (is_about s t d v) → ⊥) → T (eqb c d) → ⊥
    named d n e = at d n (eqb→eq c d e)

module _ (s : List ℕ) (h : sheet_refusal s ≡ 0) (u : ℕ) (l : u < t_of s) where
  -- a delay is the only term
  pub delay-kind : T (is_delay s u) → (j : ℕ) → j < term_count s u → term_kind s u j ≡ 0
  unfolding is_delay term_ok kind_ok
  delay-kind d j k =
      let e : term_kind s u 0 ≡ 0 = eqb→eq (term_kind s u 0) 0 d in
      let ok : T (kind_ok s u 0 0) = subst (λ (c : ℕ). T (kind_ok s u 0 c)) e ((sound s h).terms u l 0 (omega arith)) in
      let one : term_count s u ≡ 1 = eqb→eq (term_count s u) 1 (and_l (eqb (term_count s u) 1) (leb (term_value s u 0) 65535) ok) in
      let z : j ≡ 0 = omega arith in
      ap (term_kind s u) z ∙ e

  pub woken_none : (t : ℕ) → T (is_delay s u) ⊎ T (events_only s u) → T (has (woken_by s t) u) → ⊥
  unfolding woken_by events_only
  woken_none t k w =
      let r = some_e (term_count s u) (λ j. is_about s t (term_kind s u j) (term_value s u j)) (set_of_e (t_of s) _ u w).1 in
      about_none s t (term_kind s u r.0) (term_value s u r.0)
      (⊎_elim (λ d. inl (delay-kind d r.0 r.1)) (λ e. inr (every_e (term_count s u) (λ j. is_event_kind (term_kind s u j)) e r.0 r.1)) k) r.2
