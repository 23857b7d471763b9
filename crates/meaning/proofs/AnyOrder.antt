-- The transitions of a round, taken one at a time in any order, leave what the round leaves. Assumes nothing.
use mathlib.Core.Path.{◌≡◌, refl, sym, ap, ap₂, ◌∙◌, subst}
use mathlib.Core.Bool.{Bool, true, false, not, ◌&&◌, ◌||◌, cond, and-true, and-false, or-false, or_assoc}
use mathlib.Core.List.{List, [], ◌∷◌}
use Prim.Native.Nat.{ℕ, ◌+◌, ◌<◌}
use native.Mathlib.Nat.{zero-add}
use native.Mathlib.Omega.{arith}
use lib.Dec.{T, eqb, eqb_refl}
use lib.ListN.{length, get_or}
use Rattle.sets.specs.Sets.{has, minus, meet, single}
use Rattle.sets.proofs.Tests.{and_l, and_r, and_i, or_l, or_r, bool_ext}
use Rattle.sets.proofs.Membership.{same_members, has-union, has_meet, has-minus, has-single}
use Rattle.meaning.specs.Lists.{row_from, is_in}
use Rattle.meaning.specs.Sheet.{t_of, source}
use Rattle.meaning.specs.Hierarchy.{exits, enters}
use Rattle.meaning.specs.Reaction.{TickSets, delay, running, exiting, entering, after_round}
use Rattle.meaning.specs.TickInWords.{restarted, chosen_at}
use Rattle.meaning.specs.OneByOne.{Reaction, take_one, take_in_order, take_together, eligible_in}
use Rattle.meaning.specs.Promises.{AnyOrder}
use Rattle.meaning.proofs.ListLaws.{row_from_at, row_from_ext, row_from-length, row_from-get_or, any_of, any_of_e, any_of_i}
use Rattle.meaning.proofs.SheetLaws.{Sound, sound}
use Rattle.meaning.proofs.GivesWayLaws.{eligible-lt}
use Rattle.meaning.proofs.TickLaws.{modes_after, running_e, running_i}
use Rattle.meaning.proofs.Consistency.{exiting_e, exiting_i, entering_e, entering_i, clear_apart, exits_enters_apart}

-- ---- one transition more, at one mode: y it is active; x, n the transition exits, enters it; x', n' a later one does

modes_turn : (y x n x' n' : Bool) → (T n → T x' → ⊥) → (((y && not (y && x)) || n) && not x' || n') ≡ (y && not (x || x') || (n || n'))
modes_turn y x true true n' h = absurd (h tt tt)
modes_turn false x true false n' h = refl
modes_turn true true true false n' h = refl
modes_turn true false true false n' h = refl
modes_turn false x false x' n' h = refl
modes_turn true true false x' n' h = refl
modes_turn true false false x' n' h = refl

exited_turn : (e y x n x' : Bool) → (T n → T x' → ⊥) → ((e || (y && x)) || (((y && not (y && x)) || n) && x')) ≡ (e || (y && (x || x')))
exited_turn true y x n x' h = refl
exited_turn false false x true true h = absurd (h tt tt)
exited_turn false false x true false h = refl
exited_turn false false x false x' h = refl
exited_turn false true true n x' h = refl
exited_turn false true false n x' h = refl

reading-turn : (a b : Bool) (d r : ℕ) → cond b d (cond a d r) ≡ cond (a || b) d r
reading-turn true true d r = refl
reading-turn true false d r = refl
reading-turn false b d r = refl

without_both : (y x : Bool) → (y && not (y && x)) ≡ (y && not x)
without_both true x = refl
without_both false x = refl

-- ---- what a list of transitions leaves, none of which enters what one of them exits

sets_same : {a b : TickSets} → a.modes ≡ b.modes → a.entered ≡ b.entered → a.exited ≡ b.exited → a.active ≡ b.active → a.taken ≡ b.taken → a ≡ b
sets_same p q r u v = λ i. record { modes = p i; entered = q i; exited = r i; active = u i; taken = v i }

module _ (s : List ℕ) where
  record Left (y : Reaction) (l : List ℕ) (o : Reaction) : Type 0 where
    modes : (m : ℕ)
        → has o.sets.modes m ≡ (has y.sets.modes m && not (any_of (λ t. has (exits s t) m) l) || any_of (λ t. has (enters s t) m) l)
    entered : (m : ℕ) → has o.sets.entered m ≡ (has y.sets.entered m || any_of (λ t. has (enters s t) m) l)
    exited : (m : ℕ) → has o.sets.exited m ≡ (has y.sets.exited m || (has y.sets.modes m && any_of (λ t. has (exits s t) m) l))
    active : (m : ℕ) → has o.sets.active m ≡ (has y.sets.active m || any_of (λ t. has (enters s t) m) l)
    taken : (t : ℕ) → has o.sets.taken t ≡ (has y.sets.taken t || is_in t l)
    readings : o.readings ≡ row_from 0 64 (λ j. cond (any_of (λ t. has (running s (enters s t)) j) l) (delay s j) (get_or y.readings j 0))

  left_none : (y : Reaction) → length y.readings ≡ 64 → Left y [] y
  unfolding any_of is_in
  left_none y h =
      record {
        modes = λ m. sym (or-false (has y.sets.modes m && true) ∙ and-true (has y.sets.modes m));
        entered = λ m. sym (or-false (has y.sets.entered m));
        exited = λ m. sym (ap (λ (b : Bool). has y.sets.exited m || b) (and-false (has y.sets.modes m)) ∙ or-false (has y.sets.exited m));
        active = λ m. sym (or-false (has y.sets.active m));
        taken = λ t. sym (or-false (has y.sets.taken t));
        readings = row_from-get_or y.readings 0 ∙ ap (λ (w : ℕ). row_from 0 w (λ j. get_or y.readings j 0)) h;
      }

  left_more : (y : Reaction) (t : ℕ) (l : List ℕ) (o : Reaction)
      → ((u : ℕ) → T (is_in u l) → (m : ℕ) → T (has (exits s u) m) → T (has (enters s t) m) → ⊥)
      → Left (take_one s y t) l o → Left y (t ∷ l) o
  unfolding any_of is_in take_one restarted
  left_more y t l o apart h =
      record {
        modes = λ m. h.modes m ∙ ap (λ (b : Bool). b && not (out' m) || in' m) (now m) ∙ modes_turn (on m) (has (exits s t) m) (has (enters s t) m) (out' m) (in' m) (clear m);
        entered = λ m. h.entered m ∙ ap (λ (b : Bool). b || in' m) (has-union y.sets.entered (enters s t) m) ∙ or_assoc (has y.sets.entered m) (has (enters s t) m) (in' m);
        exited = λ m. h.exited m
            ∙ ap₂ (λ (a b : Bool). a || (b && out' m)) (has-union y.sets.exited (meet y.sets.modes (exits s t)) m ∙ ap (λ (b : Bool). has y.sets.exited m || b) (has_meet y.sets.modes (exits s t) m)) (now m)
            ∙ exited_turn (has y.sets.exited m) (on m) (has (exits s t) m) (has (enters s t) m) (out' m) (clear m);
        active = λ m. h.active m ∙ ap (λ (b : Bool). b || in' m) (has-union y.sets.active (enters s t) m) ∙ or_assoc (has y.sets.active m) (has (enters s t) m) (in' m);
        taken = λ u. h.taken u
            ∙ ap (λ (b : Bool). b || is_in u l) (has-union y.sets.taken (single t) u ∙ ap (λ (b : Bool). has y.sets.taken u || b) (has-single t u))
            ∙ or_assoc (has y.sets.taken u) (eqb u t) (is_in u l);
        readings = h.readings ∙ row_from_ext later both 0 64 (λ j a b. reading j b);
      }
    where
      on : ℕ → Bool
      on m = has y.sets.modes m

      out' : ℕ → Bool
      out' m = any_of (λ u. has (exits s u) m) l

      in' : ℕ → Bool
      in' m = any_of (λ u. has (enters s u) m) l

      clear : (m : ℕ) → T (has (enters s t) m) → T (out' m) → ⊥
      clear m n x = let r = any_of_e (λ u. has (exits s u) m) l x in apart r.0 r.1 m r.2 n

      now : (m : ℕ) → has (take_one s y t).sets.modes m ≡ ((on m && not (on m && has (exits s t) m)) || has (enters s t) m)
      now m =
          has-union (minus y.sets.modes (meet y.sets.modes (exits s t))) (enters s t) m
          ∙ ap (λ (b : Bool). b || has (enters s t) m)
          (has-minus y.sets.modes (meet y.sets.modes (exits s t)) m ∙ ap (λ (b : Bool). on m && not b) (has_meet y.sets.modes (exits s t) m))

      runs : ℕ → ℕ → Bool
      runs j u = has (running s (enters s u)) j

      later : ℕ → ℕ
      later j = cond (any_of (runs j) l) (delay s j) (get_or (take_one s y t).readings j 0)

      both : ℕ → ℕ
      both j = cond (runs j t || any_of (runs j) l) (delay s j) (get_or y.readings j 0)

      reading : (j : ℕ) → j < 0 + 64 → later j ≡ both j
      reading j b =
          ap (cond (any_of (runs j) l) (delay s j))
          (row_from_at (λ i. cond (runs i t) (delay s i) (get_or y.readings i 0)) 0 0 64 j (omega arith)
          ∙ ap (λ (i : ℕ). cond (runs i t) (delay s i) (get_or y.readings i 0)) (zero-add j))
          ∙ reading-turn (runs j t) (any_of (runs j) l) (delay s j) (get_or y.readings j 0)

  left : (l : List ℕ) (y : Reaction)
      → ((t u : ℕ) → T (is_in t l) → T (is_in u l) → (m : ℕ) → T (has (exits s t) m) → T (has (enters s u) m) → ⊥)
      → (l ≡ [] → length y.readings ≡ 64) → Left y l (take_in_order s y l)
  unfolding take_in_order is_in take_one restarted
  left [] y apart h = left_none y (h refl)
  left (t ∷ l) y apart h =
      left_more y t l (take_in_order s (take_one s y t) l)
      (λ u a m. apart u t (or_r (eqb u t) (is_in u l) a) (or_l (eqb t t) (is_in t l) (eqb_refl t)) m)
      (left l (take_one s y t) (λ u v a b. apart u v (or_r (eqb u t) (is_in u l) a) (or_r (eqb v t) (is_in v l) b))
      (λ e. row_from-length (λ j. cond (has (running s (enters s t)) j) (delay s j) (get_or y.readings j 0)) 0 64))

-- ---- and what a round leaves

module _ (s : List ℕ) (sd : Sound s) (y : Reaction) (es : ℕ) (small : (t : ℕ) → T (has es t) → t < t_of s)
    (order : List ℕ) (same : (t : ℕ) → is_in t order ≡ has es t) where
  entering_is : (m : ℕ) → any_of (λ t. has (enters s t) m) order ≡ has (entering s es) m
  entering_is m =
      bool_ext (any_of (λ t. has (enters s t) m) order) (has (entering s es) m)
      (λ h. let r = any_of_e (λ t. has (enters s t) m) order h in
      let a = subst T (same r.0) r.1 in
      entering_i s sd es r.0 m (small r.0 a) a r.2)
      (λ h. let r = entering_e s sd es m h in
      any_of_i (λ t. has (enters s t) m) order r.0 (subst T (sym (same r.0)) r.2) r.3)

  exiting_is : (m : ℕ) → (has y.sets.modes m && any_of (λ t. has (exits s t) m) order) ≡ has (exiting s y.sets es) m
  exiting_is m =
      bool_ext (on && out) (has (exiting s y.sets es) m)
      (λ h. let r = any_of_e (λ t. has (exits s t) m) order (and_r on out h) in
      let a = subst T (same r.0) r.1 in
      exiting_i s sd y.sets es r.0 m (small r.0 a) a r.2 (and_l on out h))
      (λ h. let r = exiting_e s sd y.sets es m h in
      and_i on out r.0 (any_of_i (λ t. has (exits s t) m) order r.1.0 (subst T (sym (same r.1.0)) r.1.2) r.1.3))
    where
      on : Bool
      on = has y.sets.modes m

      out : Bool
      out = any_of (λ t. has (exits s t) m) order

  running_is : (j : ℕ) → any_of (λ t. has (running s (enters s t)) j) order ≡ has (running s (entering s es)) j
  running_is j =
      bool_ext (any_of (λ t. has (running s (enters s t)) j) order) (has (running s (entering s es)) j)
      (λ h. let r = any_of_e (λ t. has (running s (enters s t)) j) order h in
      let g = running_e s (enters s r.0) j r.2 in
      running_i s (entering s es) j (record { small = g.small; timer = g.timer; on = subst T (entering_is (source s j)) (any_of_i (λ t. has (enters s t) (source s j)) order r.0 r.1 g.on) }))
      (λ h. let g = running_e s (entering s es) j h in
      let r = any_of_e (λ t. has (enters s t) (source s j)) order (subst T (sym (entering_is (source s j))) g.on) in
      any_of_i (λ t. has (running s (enters s t)) j) order r.0 r.1 (running_i s (enters s r.0) j (record { small = g.small; timer = g.timer; on = r.2 })))

  together : (o : Reaction) → Left s y order o → o ≡ take_together s y es
  unfolding take_together after_round restarted
  together o h = λ i. record { sets = sets_is i; readings = readings_is i }
    where
      z : TickSets
      z = y.sets

      modes_is : o.sets.modes ≡ (after_round s z es).modes
      modes_is =
          same_members (λ m. h.modes m
          ∙ ap₂ (λ (a b : Bool). a || b)
          (sym (without_both (has z.modes m) (any_of (λ t. has (exits s t) m) order)) ∙ ap (λ (b : Bool). has z.modes m && not b) (exiting_is m)) (entering_is m)
          ∙ sym (modes_after s z es m))

      sets_is : o.sets ≡ after_round s z es
      sets_is =
          sets_same modes_is
          (same_members (λ m. h.entered m ∙ ap (λ (b : Bool). has z.entered m || b) (entering_is m) ∙ sym (has-union z.entered (entering s es) m)))
          (same_members (λ m. h.exited m ∙ ap (λ (b : Bool). has z.exited m || b) (exiting_is m) ∙ sym (has-union z.exited (exiting s z es) m)))
          (same_members (λ m. h.active m ∙ ap (λ (b : Bool). has z.active m || b) (entering_is m) ∙ sym (has-union z.active (entering s es) m)))
          (same_members (λ t. h.taken t ∙ ap (λ (b : Bool). has z.taken t || b) (same t) ∙ sym (has-union z.taken es t)))

      readings_is : o.readings ≡ restarted s (entering s es) y.readings
      readings_is =
          h.readings
          ∙ row_from_ext (λ j. cond (any_of (λ t. has (running s (enters s t)) j) order) (delay s j) (get_or y.readings j 0))
          (λ j. cond (has (running s (entering s es)) j) (delay s j) (get_or y.readings j 0)) 0 64
          (λ j a b. ap (λ (v : Bool). cond v (delay s j) (get_or y.readings j 0)) (running_is j))

-- the eligible transitions of a round that is not ambiguous, in any order; of none the readings must be 64, as those of a state are
pub any_order_lem : AnyOrder
unfolding AnyOrder
any_order_lem s h y i k e order same =
    let sd = sound s h in
    let es = eligible_in s i y in
    let small : (t : ℕ) → T (has es t) → t < t_of s = unfold eligible_in chosen_at in (eligible-lt s _) in
    together s sd y es small order same (take_in_order s y order)
    (left s order y (λ t u a b. exits_enters_apart s sd es small (clear_apart s sd es small e) t u (subst T (same t) a) (subst T (same u) b)) (λ g. k))
