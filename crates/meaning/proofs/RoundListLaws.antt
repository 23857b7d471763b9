-- Laws of the list of a tick's rounds: what holds of the rounds and of their list together; the list is as long as the tick has rounds;
-- a transition is eligible in one of them at most. Assumes nothing.
use mathlib.Core.Path.{◌≡◌, refl, sym, ap, ◌∙◌, subst}
use mathlib.Core.Bool.{Bool, true, false, not, ◌||◌, cond}
use mathlib.Core.List.{List, [], ◌∷◌}
use Prim.Native.Nat.{ℕ, zero, suc, ◌+◌}
use native.Mathlib.Nat.{add-zero, zero-add}
use native.Mathlib.Omega.{arith}
use lib.Dec.{T, eqb}
use lib.ListN.{length, get_or}
use borrow.Author.Tests.{not-false}
use Rattle.sets.specs.Sets.{has}
use Rattle.sets.proofs.Tests.{of_true, of_false, or_l, or_r}
use Rattle.sets.proofs.Facts.{some_in_i}
use Rattle.meaning.specs.Sheet.{t_of}
use Rattle.meaning.specs.Reaction.{TickSets, triggered, ambiguous, restless, after_round}
use Rattle.meaning.specs.Tick.{Tick, begin, chosen, rounds_from, tick}
use Rattle.meaning.specs.RoundList.{takes_round, round_list, tick_rounds, RoundsListed}
use Rattle.meaning.proofs.TickLaws.{Taken, chosen_lt, chosen_among, taken_after}

or_none : (a b c : Bool) → not (a || b || c) ≡ true → (a ≡ false) × (b ≡ false) × (c ≡ false)
or_none false false false e = (refl, refl, refl)
or_none false false true e = absurd (of_true e)
or_none false true c e = absurd (of_true e)
or_none true b c e = absurd (of_true e)

module _ (s : List ℕ) (d i : ℕ) where
  -- no round is taken; one is
  abbrev pub Ends : TickSets → Type 0
  Ends z = (eqb (chosen s d i z) 0 || ambiguous s (chosen s d i z) || restless s z (chosen s d i z)) ≡ true

  takes_not : (z : TickSets) → takes_round s d i z ≡ false → Ends z
  unfolding takes_round
  takes_not z = not-false (eqb (chosen s d i z) 0 || ambiguous s (chosen s d i z) || restless s z (chosen s d i z))

  takes_e : (z : TickSets) → takes_round s d i z ≡ true → Taken s d i z
  unfolding takes_round
  takes_e z e =
      let k = or_none (eqb (chosen s d i z) 0) (ambiguous s (chosen s d i z)) (restless s z (chosen s d i z)) e in
      record { filled = k.0; clear = k.1; fresh = k.2 }

  -- what holds of the rounds from any sets and of their list: where no round is taken, refused or not, and after one that is
  module _ (P : TickSets → ℕ → Tick → List TickSets → Type 0)
      (ends : (z : TickSets) (r e : ℕ) → P z r (record { refusal = e; sets = z; rounds = r }) [])
      (more : (z : TickSets) (r : ℕ) (o : Tick) (zs : List TickSets) → Taken s d i z → P (after_round s z (chosen s d i z)) (suc r) o zs → P z r o (z ∷ zs)) where
    pub round_list_all : (f : ℕ) (z : TickSets) (r : ℕ) → P z r (rounds_from s f d i z r) (round_list s f d i z)
    unfolding rounds_from round_list takes_round
    round_list_all zero z r = ends z r 0
    round_list_all (suc f) z r = go (eqb es 0) (ambiguous s es) (restless s z es) refl refl refl (round_list_all f (after_round s z es) (suc r))
      where
        es : ℕ
        es = chosen s d i z

        on : Tick
        on = rounds_from s f d i (after_round s z es) (suc r)

        rest : List TickSets
        rest = round_list s f d i (after_round s z es)

        go : (a b c : Bool) → eqb es 0 ≡ a → ambiguous s es ≡ b → restless s z es ≡ c → P (after_round s z es) (suc r) on rest
            → P z r
            (cond a (record { refusal = 0; sets = z; rounds = r })
            (cond b (record { refusal = 8; sets = z; rounds = r })
            (cond c (record { refusal = 9; sets = z; rounds = r }) on)))
            (cond (not (a || b || c)) (z ∷ rest) [])
        go true b c ea eb ec ih = ends z r 0
        go false true c ea eb ec ih = ends z r 8
        go false false true ea eb ec ih = ends z r 9
        go false false false ea eb ec ih = more z r on rest (record { filled = ea; clear = eb; fresh = ec }) ih

  -- the same of the list and its fuel: where none is left, where no round is taken, and after one that is
  module _ (P : ℕ → TickSets → ℕ → List TickSets → Type 0)
      (spent : (z : TickSets) (r : ℕ) → P 0 z r [])
      (ends : (f : ℕ) (z : TickSets) (r : ℕ) → Ends z → P (suc f) z r [])
      (more : (f : ℕ) (z : TickSets) (r : ℕ) (zs : List TickSets) → Taken s d i z → P f (after_round s z (chosen s d i z)) (suc r) zs → P (suc f) z r (z ∷ zs)) where
    pub list_all : (f : ℕ) (z : TickSets) (r : ℕ) → P f z r (round_list s f d i z)
    unfolding round_list
    list_all zero z r = spent z r
    list_all (suc f) z r = go (takes_round s d i z) refl (list_all f (after_round s z (chosen s d i z)) (suc r))
      where
        rest : List TickSets
        rest = round_list s f d i (after_round s z (chosen s d i z))

        go : (b : Bool) → takes_round s d i z ≡ b → P f (after_round s z (chosen s d i z)) (suc r) rest → P (suc f) z r (cond b (z ∷ rest) [])
        go true e ih = more f z r rest (takes_e z e) ih
        go false e ih = ends f z r (takes_not z e)

  rounds_length : (f : ℕ) (z : TickSets) (r : ℕ) → r + length (round_list s f d i z) ≡ (rounds_from s f d i z r).rounds
  rounds_length = round_list_all (λ _ r o zs. r + length zs ≡ o.rounds) (λ _ r _. add-zero r) (λ _ r o zs _ ih. omega arith)

pub rounds_listed_lem : RoundsListed
unfolding RoundsListed tick_rounds tick
rounds_listed_lem s x d i = sym (zero-add _) ∙ rounds_length s d i (suc (t_of s)) (begin s x) 0

module _ (s : List ℕ) (d i : ℕ) where
  -- t is eligible in no round if it is taken before, and in one round at most
  pub record Once (t : ℕ) (z : TickSets) (o : Tick) (zs : List TickSets) : Type 0 where
    pub fresh : (j : ℕ) → T (has (chosen s d i (get_or zs j o.sets)) t) → T (has z.taken t) → ⊥
    pub same : (j k : ℕ) → T (has (chosen s d i (get_or zs j o.sets)) t) → T (has (chosen s d i (get_or zs k o.sets)) t) → j ≡ k

  pub rounds_once : (t f : ℕ) (z : TickSets) (r : ℕ) → (T (has (triggered s d i (rounds_from s f d i z r).sets) t) → ⊥)
      → Once t z (rounds_from s f d i z r) (round_list s f d i z)
  rounds_once t =
      round_list_all s d i (λ z _ o zs. (T (has (triggered s d i o.sets) t) → ⊥) → Once t z o zs)
      (λ z _ _ quiet. record { fresh = λ _ h. absurd (quiet (chosen_among s d i z t h)); same = λ _ _ h. absurd (quiet (chosen_among s d i z t h)) })
      (λ z _ o zs round ih quiet. more z o zs round (ih quiet))
    where
      more : (z : TickSets) (o : Tick) (zs : List TickSets) → Taken s d i z → Once t (after_round s z (chosen s d i z)) o zs → Once t z o (z ∷ zs)
      more z o zs round ih = record { fresh = fresh; same = same }
        where
          es : ℕ
          es = chosen s d i z

          now : T (has es t) → T (has (after_round s z es).taken t)
          now h = subst T (sym (taken_after s d i z es t)) (or_r (has z.taken t) (has es t) h)

          before : T (has z.taken t) → T (has (after_round s z es).taken t)
          before h = subst T (sym (taken_after s d i z es t)) (or_l (has z.taken t) (has es t) h)

          fresh : (j : ℕ) → T (has (chosen s d i (get_or (z ∷ zs) j o.sets)) t) → T (has z.taken t) → ⊥
          fresh zero h k = of_false round.fresh (unfold restless in (some_in_i (t_of s) es (has z.taken) t (chosen_lt s d i z t h) h k))
          fresh (suc j) h k = ih.fresh j h (before k)

          same : (j k : ℕ) → T (has (chosen s d i (get_or (z ∷ zs) j o.sets)) t) → T (has (chosen s d i (get_or (z ∷ zs) k o.sets)) t) → j ≡ k
          same zero zero a b = refl
          same zero (suc k) a b = absurd (ih.fresh k b (now a))
          same (suc j) zero a b = absurd (ih.fresh j a (now b))
          same (suc j) (suc k) a b = ap suc (ih.same j k a b)
