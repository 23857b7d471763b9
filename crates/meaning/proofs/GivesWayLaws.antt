-- Laws of giving way and of what is eligible among some transitions. Assumes nothing.
use mathlib.Core.Path.{◌≡◌, refl, sym, subst, ap}
use mathlib.Core.Logic.{◌⊎◌, inl, inr, ⊎_elim}
use mathlib.Core.Bool.{Bool, true, false, not, ◌&&◌, ◌||◌}
use mathlib.Core.List.{List}
use Prim.Native.Nat.{ℕ, zero, suc, ◌<◌}
use native.Mathlib.Nat.{le_refl, lt_of_lt_of_le, not-suc-le-zero, le_of_suc-le-suc}
use lib.Dec.{T, eqb, T_not, not_T, eqb→eq}
use borrow.Author.Tests.{eqb-true, eq-eqb}
use Rattle.sets.specs.Sets.{has, some_in}
use Rattle.sets.proofs.Tests.{is_true, is_false, of_true, and_i, and_r, or_e, or_l, or_r, eqb-sym, and_l}
use Rattle.sets.proofs.Facts.{those_e, those_i, some_in_e, some_in_i}
use Rattle.meaning.specs.Sheet.{t_of, contains, strictly_contains, meeting}
use Rattle.meaning.specs.GivesWay.{gives_way}
use Rattle.meaning.specs.Reaction.{conflict, eligible}
use Rattle.meaning.specs.HighestLevelFirst.{EqualStay, GivesWayInConflict, ConflictIsEqual}
use Rattle.meaning.proofs.SheetLaws.{Sound, tree}
use Rattle.meaning.proofs.Containment.{contains_same, strictly_lt, strictly_trans, meeting-lt}

-- ---- two transitions

pub equal_stay_lem : EqualStay
unfolding EqualStay gives_way strictly_contains
equal_stay_lem s t u e = rw (eq-eqb (meeting s u) (meeting s t) (sym e)) refl

-- what gives way is in conflict
pub gives_way_in_conflict_lem : GivesWayInConflict
unfolding GivesWayInConflict gives_way strictly_contains conflict
gives_way_in_conflict_lem s t u h =
    or_r (contains s (meeting s t) (meeting s u)) (contains s (meeting s u) (meeting s t))
    (and_r (not (eqb (meeting s u) (meeting s t))) (contains s (meeting s u) (meeting s t)) h)

-- and of two in conflict with different meeting modes one gives way
one_gives_way : (s : List ℕ) (t u : ℕ) → T (conflict s t u) → eqb (meeting s t) (meeting s u) ≡ false → T (gives_way s t u) ⊎ T (gives_way s u t)
unfolding conflict gives_way strictly_contains
one_gives_way s t u h n =
    ⊎_elim (λ c. inr (and_i (not (eqb p q)) (contains s p q) (rw n tt) c)) (λ c. inl (and_i (not (eqb q p)) (contains s q p) (rw (eqb-sym q p, n) tt) c))
    (or_e (contains s p q) (contains s q p) h)
  where
    p : ℕ
    p = meeting s t

    q : ℕ
    q = meeting s u

-- so one that is not another in conflict with t does not give way to t
pub no_conflict_stays : (s : List ℕ) (t u : ℕ) → (not (eqb t u) && conflict s t u) ≡ false → gives_way s u t ≡ false
unfolding conflict gives_way strictly_contains
no_conflict_stays s t u e =
    is_false (not (eqb p q) && contains s p q) (λ g.
    subst T e (and_i (not (eqb t u)) (contains s p q || contains s q p)
    (not_T (eqb t u) (λ k. T_not (eqb p q) (and_l (not (eqb p q)) (contains s p q) g) (of_true (eq-eqb p q (ap (meeting s) (eqb→eq t u k))))))
    (or_l (contains s p q) (contains s q p) (and_r (not (eqb p q)) (contains s p q) g))))
  where
    p : ℕ
    p = meeting s t

    q : ℕ
    q = meeting s u

module _ (s : List ℕ) (sd : Sound s) where
  -- the number of the meeting mode falls from a transition to one that it gives way to
  gives_way_falls : (t u : ℕ) → t < t_of s → T (gives_way s t u) → meeting s u < meeting s t
  unfolding gives_way
  gives_way_falls t u l h = strictly_lt s (tree s sd) (meeting s u) (meeting s t) (meeting-lt s sd t l) h

  gives_way_trans : (t u v : ℕ) → t < t_of s → T (gives_way s t u) → T (gives_way s u v) → T (gives_way s t v)
  unfolding gives_way
  gives_way_trans t u v l h k = strictly_trans s (tree s sd) (meeting s v) (meeting s u) (meeting s t) (meeting-lt s sd t l) k h

-- ---- the eligible ones of some transitions

module _ (s : List ℕ) (ts : ℕ) where
  -- an eligible one of ts is below T, one of ts, and gives way to none of ts
  pub eligible-lt : (t : ℕ) → T (has (eligible s ts) t) → t < t_of s
  unfolding eligible
  eligible-lt t h = (those_e (t_of s) ts (λ u. not (some_in (t_of s) ts (gives_way s u))) t h).0

  pub eligible_among : (t : ℕ) → T (has (eligible s ts) t) → T (has ts t)
  unfolding eligible
  eligible_among t h = (those_e (t_of s) ts (λ u. not (some_in (t_of s) ts (gives_way s u))) t h).1

  pub eligible-stays : (t u : ℕ) → T (has (eligible s ts) t) → u < t_of s → T (has ts u) → T (gives_way s t u) → ⊥
  unfolding eligible
  eligible-stays t u h l m g =
      T_not (some_in (t_of s) ts (gives_way s t)) (those_e (t_of s) ts (λ v. not (some_in (t_of s) ts (gives_way s v))) t h).2
      (some_in_i (t_of s) ts (gives_way s t) u l m g)

  pub eligible_i : (t : ℕ) → t < t_of s → T (has ts t) → some_in (t_of s) ts (gives_way s t) ≡ false → T (has (eligible s ts) t)
  unfolding eligible
  eligible_i t l m e = those_i (t_of s) ts (λ u. not (some_in (t_of s) ts (gives_way s u))) t l m (rw e tt)

pub conflict_is_equal_lem : ConflictIsEqual
unfolding ConflictIsEqual
conflict_is_equal_lem s ts t u a b = go (eqb (meeting s t) (meeting s u)) refl
  where
    go : (e : Bool) → eqb (meeting s t) (meeting s u) ≡ e → conflict s t u ≡ e
    go true e = unfold conflict in (is_true _ (or_l (contains s (meeting s t) (meeting s u)) (contains s (meeting s u) (meeting s t))
        (subst (λ (q : ℕ). T (contains s (meeting s t) q)) (eqb-true (meeting s t) (meeting s u) e) (contains_same s (meeting s t)))))
    go false e = is_false (conflict s t u) (λ c.
        ⊎_elim (eligible-stays s ts t u a (eligible-lt s ts u b) (eligible_among s ts u b)) (eligible-stays s ts u t b (eligible-lt s ts t a) (eligible_among s ts t a))
        (one_gives_way s t u c e))

module _ (s : List ℕ) (sd : Sound s) (ts : ℕ) (below : (t : ℕ) → T (has ts t) → t < t_of s) where
  -- t gives way to an eligible one of ts
  abbrev pub GivesWayToEligible : ℕ → Type 0
  GivesWayToEligible t = (u : ℕ) × T (has (eligible s ts) u) × T (gives_way s t u)

  eligible_within : (f t : ℕ) → meeting s t < f → T (has ts t) → T (has (eligible s ts) t) ⊎ GivesWayToEligible t
  eligible_within zero t l m = absurd (not-suc-le-zero l)
  eligible_within (suc f) t l m = go (some_in (t_of s) ts (gives_way s t)) refl (eligible_within f)
    where
      go : (b : Bool) → some_in (t_of s) ts (gives_way s t) ≡ b
          → ((u : ℕ) → meeting s u < f → T (has ts u) → T (has (eligible s ts) u) ⊎ GivesWayToEligible u)
          → T (has (eligible s ts) t) ⊎ GivesWayToEligible t
      go false e ih = inl (eligible_i s ts t (below t m) m e)
      go true e ih =
          let w = some_in_e (t_of s) ts (gives_way s t) (of_true e) in
          let falls = lt_of_lt_of_le (gives_way_falls s sd t w.0 (below t m) w.3) (le_of_suc-le-suc l) in
          inr (⊎_elim (λ h. (w.0, h, w.3)) (λ v. (v.0, v.1, gives_way_trans s sd t w.0 v.0 (below t m) w.3 v.2)) (ih w.0 falls w.2))

  -- one of ts is eligible or gives way to an eligible one
  pub eligible_or_gives_way_lem : (t : ℕ) → T (has ts t) → T (has (eligible s ts) t) ⊎ GivesWayToEligible t
  eligible_or_gives_way_lem t m = eligible_within (suc (meeting s t)) t (le_refl (suc (meeting s t))) m

  pub eligible_exists : (t : ℕ) → T (has ts t) → (u : ℕ) × T (has (eligible s ts) u)
  eligible_exists t m = ⊎_elim (λ h. (t, h)) (λ v. (v.0, v.1)) (eligible_or_gives_way_lem t m)
