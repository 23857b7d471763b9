-- Ages by the ticks of their limits: after a tick, by the words of the ticks done, at the start of a call. Assumes nothing.
use mathlib.Core.Path.{◌≡◌, refl, sym, ap, ap₂, ◌∙◌}
use mathlib.Core.Logic.{inl}
use mathlib.Core.Bool.{Bool, true, false, not, ◌&&◌, ◌||◌, cond}
use mathlib.Core.List.{List, ◌∷◌}
use Prim.Native.Nat.{ℕ, zero, suc, ◌+◌, ◌-◌, ◌*◌, ◌≤◌, ◌<◌, min}
use native.Mathlib.Numerals.{add-one}
use native.Mathlib.Omega.{arith}
use lib.Bits.{or_zero_r}
use lib.Dec.{T}
use lib.ListN.{length, get_or}
use Rattle.sets.specs.Sets.{has, union, meet, minus}
use Rattle.sets.proofs.Tests.{is_true, of_true, of_false}
use Rattle.sets.proofs.Membership.{has_none, has-union, has_meet, has-minus}
use Rattle.rows.specs.Over.{over}
use Rattle.rows.proofs.OverLaws.{over_in, over_out}
use Rattle.meaning.specs.Lists.{row_from}
use Rattle.meaning.specs.Ages.{age, next_ages, ages_ok}
use Rattle.meaning.proofs.ListLaws.{row_at, row_from_ext, row_from-length}
use Rattle.meaning.proofs.AgeLaws.{ages_ok_active, ages_ok_inactive}
use Rattle.run.specs.Entries.{ages_by, entered_at, limit_by, limits_by}
use Rattle.run.proofs.ArrayLaws.{row_of}

-- the limit of a mode after some of a set are entered
pub entered_at_lem : (set tick : ℕ) (limits : List ℕ) (m : ℕ) → m < 32 → get_or (entered_at set tick limits) m 0 ≡ cond (has set m) (tick + 65535) (get_or limits m 0)
entered_at_lem set tick limits m l = row_at 32 (λ k. cond (has set k) (tick + 65535) (get_or limits k 0)) m l

-- a tick that enters none
pub entered_none : (tick : ℕ) (limits : List ℕ) → length limits ≡ 32 → entered_at 0 tick limits ≡ limits
entered_none tick limits l = sym (row_of limits 32 (λ m. cond (has 0 m) (tick + 65535) (get_or limits m 0)) l (λ m _. rw (has_none m) refl))

-- ---- after a tick

-- no active mode is yet to be entered
abbrev pub Young : ℕ → List ℕ → ℕ → Type 0
Young active limits i = (m : ℕ) → m < 32 → T (has active m) → get_or limits m 0 ≤ i + 65535

-- a tick that leaves `next` and enters some: the limits of those entered, of those that were active, and of those that come without being
-- entered, whose age was 0
abbrev pub Moved : ℕ → ℕ → ℕ → ℕ → List ℕ → List ℕ → Type 0
Moved i active next entered limits limits' =
    (m : ℕ) → m < 32 → T (has next m) → get_or limits' m 0 ≡ cond (has entered m) (i + 1 + 65535) (cond (has active m) (get_or limits m 0) (i + 65535))

module _ (i active next entered : ℕ) (limits limits' : List ℕ) (young : Young active limits i) (moved : Moved i active next entered limits limits') where
  pub young_next : Young next limits' (i + 1)
  young_next m l h = go (has entered m) (has active m) (moved m l h) (λ k. young m l k)
    where
      go : (a b : Bool) → get_or limits' m 0 ≡ cond a (i + 1 + 65535) (cond b (get_or limits m 0) (i + 65535)) → (T b → get_or limits m 0 ≤ i + 65535)
          → get_or limits' m 0 ≤ i + 1 + 65535
      go true b e k = omega (arith, e)
      go false true e k = omega (arith, e, k tt)
      go false false e k = omega (arith, e)

  pub ages_next : ages_by limits' next (i + 1) ≡ next_ages next entered (ages_by limits active i)
  unfolding next_ages age
  ages_next =
      row_from_ext (λ m. cond (has next m) (65535 - (get_or limits' m 0 - (i + 1))) 0)
      (λ m. cond (has next m && not (has entered m)) (min 65535 (get_or (ages_by limits active i) m 0 + 1)) 0) 0 32
      (λ m _ l. at m (omega arith) (has next m) refl)
    where
      was : (m : ℕ) → m < 32 → get_or (ages_by limits active i) m 0 ≡ cond (has active m) (65535 - (get_or limits m 0 - i)) 0
      was m l = row_at 32 (λ k. cond (has active k) (65535 - (get_or limits k 0 - i)) 0) m l

      go : (m : ℕ) (a b : Bool) → get_or limits' m 0 ≡ cond a (i + 1 + 65535) (cond b (get_or limits m 0) (i + 65535))
          → get_or (ages_by limits active i) m 0 ≡ cond b (65535 - (get_or limits m 0 - i)) 0 → (T b → get_or limits m 0 ≤ i + 65535)
          → 65535 - (get_or limits' m 0 - (i + 1)) ≡ cond (not a) (min 65535 (get_or (ages_by limits active i) m 0 + 1)) 0
      go m true b e w k = omega (arith, e)
      go m false true e w k = omega (arith, e, w, k tt)
      go m false false e w k = omega (arith, e, w)

      at : (m : ℕ) → m < 32 → (b : Bool) → has next m ≡ b
          → cond b (65535 - (get_or limits' m 0 - (i + 1))) 0 ≡ cond (b && not (has entered m)) (min 65535 (get_or (ages_by limits active i) m 0 + 1)) 0
      at m l true h = go m (has entered m) (has active m) (moved m l (of_true h)) (was m l) (λ k. young m l k)
      at m l false h = refl

-- those that are entered, and those that come late, without being entered
pub moved_by : (i active next entered : ℕ) (limits : List ℕ) {late : ℕ} → late ≡ minus next (union active entered)
    → Moved i active next entered limits (entered_at entered (i + 1) (entered_at late i limits))
moved_by i active next entered limits {late} le m l h =
    entered_at_lem entered (i + 1) (entered_at late i limits) m l
    ∙ ap (cond (has entered m) (i + 1 + 65535)) (entered_at_lem late i limits m l)
    ∙ at (has active m) (has entered m) (i + 1 + 65535) (i + 65535) (get_or limits m 0) there
  where
    there : has late m ≡ not (has active m || has entered m)
    there =
        ap (λ (x : ℕ). has x m) le ∙ has-minus next (union active entered) m
        ∙ rw (is_true (has next m) h, has-union active entered m)

    at : (a b : Bool) (x y z : ℕ) {c : Bool} → c ≡ not (a || b) → cond b x (cond c y z) ≡ cond b x (cond a z y)
    at true true x y z e = refl
    at true false x y z e = rw e
    at false true x y z e = refl
    at false false x y z e = rw e

-- the same modes stay active, and none is entered
pub moved_none : (i active : ℕ) (limits : List ℕ) → Moved i active active 0 limits limits
moved_none i active limits m l h = rw (has_none m, is_true (has active m) h)

-- ---- by the words of the ticks done

-- they look at the mode's own limit alone
limit_same : (limits limits' out : List ℕ) (m n : ℕ) → get_or limits m 0 ≡ get_or limits' m 0 → limit_by limits out n m ≡ limit_by limits' out n m
unfolding limit_by
limit_same limits limits' out m zero e = e
limit_same limits limits' out m (suc p) e =
    ap (cond (has (get_or out (5 * p) 0) m) (suc p + 65535)) (limit_same limits limits' out m p e)

-- words of a later tick change nothing
limit_before : (limits out : List ℕ) (i : ℕ) (ws : List ℕ) → length ws ≡ 5 → 5 * i + 5 ≤ length out → (n : ℕ) → n ≤ i → (m : ℕ)
    → limit_by limits (over out (5 * i) ws) n m ≡ limit_by limits out n m
unfolding limit_by
limit_before limits out i ws five room zero h m = refl
limit_before limits out i ws five room (suc p) h m =
    rw (over_out out (5 * i) ws (omega arith) (5 * p) (inl (omega arith)), limit_before limits out i ws five room p (omega arith) m)

-- the entered word of a tick stands first
first_word : (out : List ℕ) (i e : ℕ) (ws : List ℕ) → length ws ≡ 4 → 5 * i + 5 ≤ length out → get_or (over out (5 * i) (e ∷ ws)) (5 * i) 0 ≡ e
first_word out i e ws four room =
    ap (λ (x : ℕ). get_or (over out (5 * i) (e ∷ ws)) x 0) (omega arith) ∙ over_in out (5 * i) (e ∷ ws) (omega arith) 0 (omega arith)

-- by the words of one tick more
limit_last : (limits out : List ℕ) (i e : ℕ) (ws : List ℕ) → length ws ≡ 4 → 5 * i + 5 ≤ length out → (m : ℕ)
    → limit_by limits (over out (5 * i) (e ∷ ws)) (i + 1) m ≡ cond (has e m) (i + 1 + 65535) (limit_by limits out i m)
unfolding limit_by
limit_last limits out i e ws four room m =
    rw add-one (rw (first_word out i e ws four room) (ap (cond (has e m) (suc i + 65535)) (limit_before limits out i (e ∷ ws) (ap suc four) room i (omega arith) m)))

module _ (limits : List ℕ) where
  -- a tick's words put at their place, and the modes that it enters added to the set
  pub limits_turn : (out : List ℕ) (i set e : ℕ) (ws : List ℕ) → length ws ≡ 4 → 5 * i + 5 ≤ length out
      → limits_by limits (over out (5 * i) (e ∷ ws)) (union set e) (i + 1) ≡ entered_at e (i + 1) (limits_by limits out set i)
  limits_turn out i set e ws four room =
      row_from_ext (λ m. cond (has (union set e) m) (limit_by limits out' (i + 1) m) (get_or limits m 0))
      (λ m. cond (has e m) (i + 1 + 65535) (get_or (limits_by limits out set i) m 0)) 0 32
      (λ m _ l.
      rw (has-union set e m, limit_last limits out i e ws four room m, row_at 32 (λ k. cond (has set k) (limit_by limits out i k) (get_or limits k 0)) m (omega arith))
      (at (has set m) (has e m) (i + 1 + 65535) (limit_by limits out i m) (get_or limits m 0)))
    where
      out' : List ℕ
      out' = over out (5 * i) (e ∷ ws)

      at : (a b : Bool) (x y z : ℕ) → cond (a || b) (cond b x y) z ≡ cond b x (cond a y z)
      at true true x y z = refl
      at true false x y z = refl
      at false true x y z = refl
      at false false x y z = refl

  -- the words of a tick that enters none
  pub limits_quiet : (out : List ℕ) (i set : ℕ) (ws : List ℕ) → length ws ≡ 4 → 5 * i + 5 ≤ length out
      → limits_by limits (over out (5 * i) (0 ∷ ws)) set (i + 1) ≡ limits_by limits out set i
  limits_quiet out i set ws four room =
      ap (λ (x : ℕ). limits_by limits (over out (5 * i) (0 ∷ ws)) x (i + 1)) (sym (or_zero_r set))
      ∙ limits_turn out i set 0 ws four room ∙ entered_none (i + 1) (limits_by limits out set i) (row_from-length _ 0 32)

  -- the words of a tick, where the modes that it enters, and those that come late, are stored at once and looked for no more
  pub limits_noted : (out : List ℕ) (i set e late : ℕ) (ws : List ℕ) → length ws ≡ 4 → 5 * i + 5 ≤ length out
      → limits_by (entered_at e (i + 1) (entered_at late i limits)) (over out (5 * i) (e ∷ ws)) (minus set (union late e)) (i + 1)
      ≡ entered_at e (i + 1) (entered_at late i (limits_by limits out set i))
  limits_noted out i set e late ws four room =
      row_from_ext (λ m. cond (has (minus set (union late e)) m) (limit_by limits' out' (i + 1) m) (get_or limits' m 0))
      (λ m. cond (has e m) (i + 1 + 65535) (get_or (entered_at late i (limits_by limits out set i)) m 0)) 0 32 (λ m _ l. go m (omega arith))
    where
      out' : List ℕ
      out' = over out (5 * i) (e ∷ ws)

      limits' : List ℕ
      limits' = entered_at e (i + 1) (entered_at late i limits)

      -- what stands at m before and after
      was : (m : ℕ) → m < 32 → get_or (limits_by limits out set i) m 0 ≡ cond (has set m) (limit_by limits out i m) (get_or limits m 0)
      was m l = row_at 32 (λ k. cond (has set k) (limit_by limits out i k) (get_or limits k 0)) m l

      stored : (m : ℕ) → m < 32 → get_or limits' m 0 ≡ cond (has e m) (i + 1 + 65535) (cond (has late m) (i + 65535) (get_or limits m 0))
      stored m l = entered_at_lem e (i + 1) (entered_at late i limits) m l ∙ ap (cond (has e m) (i + 1 + 65535)) (entered_at_lem late i limits m l)

      at : (a b c : Bool) (x y z v z' v' : ℕ) → z' ≡ cond b x (cond c y z) → (z' ≡ z → v' ≡ v)
          → cond (a && not (c || b)) (cond b x v') z' ≡ cond b x (cond c y (cond a v z))
      at true true true x y z v z' v' s k = s
      at true true false x y z v z' v' s k = s
      at true false true x y z v z' v' s k = s
      at true false false x y z v z' v' s k = k s
      at false true c x y z v z' v' s k = s
      at false false true x y z v z' v' s k = s
      at false false false x y z v z' v' s k = s

      go : (m : ℕ) → m < 32 → cond (has (minus set (union late e)) m) (limit_by limits' out' (i + 1) m) (get_or limits' m 0)
          ≡ cond (has e m) (i + 1 + 65535) (get_or (entered_at late i (limits_by limits out set i)) m 0)
      go m l =
          rw (has-minus set (union late e) m, has-union late e m, entered_at_lem late i (limits_by limits out set i) m l, was m l)
          (ap (λ (x : ℕ). cond (has set m && not (has late m || has e m)) x (get_or limits' m 0)) (limit_last limits' out i e ws four room m)
          ∙ at (has set m) (has e m) (has late m) (i + 1 + 65535) (i + 65535) (get_or limits m 0) (limit_by limits out i m) (get_or limits' m 0) (limit_by limits' out i m)
          (stored m l) (limit_same limits' limits out m i))

  -- no mode is looked for
  pub limits_none : (out : List ℕ) (n : ℕ) → length limits ≡ 32 → limits_by limits out 0 n ≡ limits
  limits_none out n l =
      sym (row_of limits 32 (λ m. cond (has 0 m) (limit_by limits out n m) (get_or limits m 0)) l (λ m _. rw (has_none m) refl))

  -- ---- looked for from the last tick back

  -- nothing is left to look at
  pub limits_first : (out : List ℕ) (wanted : ℕ) → length limits ≡ 32 → limits_by limits out wanted 0 ≡ limits
  unfolding limit_by
  limits_first out wanted l =
      sym (row_of limits 32 (λ m. cond (has wanted m) (get_or limits m 0) (get_or limits m 0)) l (λ m _. sym (either (has wanted m) (get_or limits m 0))))
    where
      either : (b : Bool) (x : ℕ) → cond b x x ≡ x
      either true x = refl
      either false x = refl

  -- a tick that enters none of the modes looked for
  pub not_found : (out : List ℕ) (wanted p : ℕ) → meet wanted (get_or out (5 * p) 0) ≡ 0 → limits_by limits out wanted p ≡ limits_by limits out wanted (suc p)
  unfolding limit_by
  not_found out wanted p z =
      row_from_ext (λ m. cond (has wanted m) (limit_by limits out p m) (get_or limits m 0))
      (λ m. cond (has wanted m) (cond (has e m) (suc p + 65535) (limit_by limits out p m)) (get_or limits m 0)) 0 32
      (λ m _ _. at (has wanted m) (has e m) (suc p + 65535) (limit_by limits out p m) (get_or limits m 0) (sym (has_meet wanted e m) ∙ ap (λ (x : ℕ). has x m) z ∙ has_none m))
    where
      e : ℕ
      e = get_or out (5 * p) 0

      at : (a b : Bool) (x y z : ℕ) → (a && b) ≡ false → cond a y z ≡ cond a (cond b x y) z
      at true true x y z n = absurd (of_false n tt)
      at true false x y z n = refl
      at false b x y z n = refl

  -- a tick that enters some of them: these are looked for no more
  pub found_turn : (out : List ℕ) (wanted p : ℕ) {found : ℕ} → found ≡ meet wanted (get_or out (5 * p) 0)
      → limits_by (entered_at found (p + 1) limits) out (minus wanted found) p ≡ limits_by limits out wanted (suc p)
  unfolding limit_by
  found_turn out wanted p {found} fe =
      row_from_ext (λ m. cond (has (minus wanted found) m) (limit_by limits' out p m) (get_or limits' m 0))
      (λ m. cond (has wanted m) (cond (has e m) (suc p + 65535) (limit_by limits out p m)) (get_or limits m 0)) 0 32
      (λ m _ l.
      let a = has wanted m in
      let b = has e m in
      let there : has found m ≡ (a && b) = ap (λ (x : ℕ). has x m) fe ∙ has_meet wanted e m in
      let limit : get_or limits' m 0 ≡ cond (a && b) (suc p + 65535) (get_or limits m 0) =
      entered_at_lem found (p + 1) limits m (omega arith) ∙ ap₂ (λ (c : Bool) (x : ℕ). cond c (x + 65535) (get_or limits m 0)) there (add-one p) in
      ap (λ (c : Bool). cond c (limit_by limits' out p m) (get_or limits' m 0)) (has-minus wanted found m ∙ ap (λ (c : Bool). a && not c) there)
      ∙ at a b (suc p + 65535) (limit_by limits out p m) (limit_by limits' out p m) (get_or limits m 0) (get_or limits' m 0) limit (limit_same limits' limits out m p))
    where
      e : ℕ
      e = get_or out (5 * p) 0

      limits' : List ℕ
      limits' = entered_at found (p + 1) limits

      at : (a b : Bool) (x y y' z z' : ℕ) → z' ≡ cond (a && b) x z → (z' ≡ z → y' ≡ y) → cond (a && not (a && b)) y' z' ≡ cond a (cond b x y) z
      at true true x y y' z z' s k = s
      at true false x y y' z z' s k = k s
      at false b x y y' z z' s k = s

-- ---- at the start of a call, of ages that 14 admits

module _ (active : ℕ) (ages : List ℕ) (ok : T (ages_ok active ages)) {limits : List ℕ} (se : limits ≡ row_from 0 32 (λ m. 65535 - get_or ages m 0)) where
  limit_at : (m : ℕ) → m < 32 → get_or limits m 0 ≡ 65535 - get_or ages m 0
  limit_at m l = ap (λ (x : List ℕ). get_or x m 0) se ∙ row_at 32 (λ k. 65535 - get_or ages k 0) m l

  pub young_start : Young active limits 0
  young_start m l h = omega (arith, limit_at m l)

  pub ages_start : length ages ≡ 32 → ages_by limits active 0 ≡ ages
  unfolding age
  ages_start n = sym (row_of ages 32 (λ m. cond (has active m) (65535 - (get_or limits m 0 - 0)) 0) n (λ m l. at m l (has active m) refl))
    where
      at : (m : ℕ) → m < 32 → (b : Bool) → has active m ≡ b → get_or ages m 0 ≡ cond b (65535 - (get_or limits m 0 - 0)) 0
      at m l true h = omega (arith, limit_at m l, ages_ok_active active ages ok m l (of_true h))
      at m l false h = ages_ok_inactive active ages ok m l h
