-- A turn that does not ask what is left of the allowance, and that such turns of two stations commute. Assumes nothing.
use mathlib.Core.Path.{◌≡◌, refl, sym, ap, ◌∙◌, subst}
use mathlib.Core.Logic.{◌⊎◌, inl, inr}
use mathlib.Core.Bool.{Bool, true, false, ◌&&◌, cond}
use mathlib.Core.List.{List, [], ◌∷◌}
use Prim.Native.Nat.{ℕ, zero, suc, ◌+◌, ◌-◌, ◌*◌, ◌≤◌, ◌<◌}
use native.Mathlib.Nat.{sub-zero, sub_right_comm, le_refl}
use native.Mathlib.Omega.{arith}
use lib.Dec.{T, eqb, ltb}
use lib.ListN.{length, get_or, set, length-set}
use lib.Seq.{sets, length-sets, set_comm, set_out, set-get_or, get_or-set_same, get_or-set_other}
use borrow.Author.Tests.{eqb-true, ltb-true, lt-ltb}
use Rattle.sets.specs.Sets.{digit}
use Rattle.sets.proofs.Tests.{is_true, of_true, of_false, and_l, and_r, below_or_not}
use Rattle.meaning.specs.Run.{State, Step}
use Rattle.meaning.specs.Table.{cell_word}
use Rattle.meaning.specs.TableRun.{cell_of, table_step}
use Rattle.meaning.specs.Stations.{Station, blank, ticked, stopped, has_work, Standing, station_at, station_count, next_set, turn_refusal, after_tick, after_stop, turn, parts_ok, standing_at}
use Rattle.meaning.proofs.ListLaws.{row_from-length}
use Rattle.turns.proofs.Sums.{same_or}
use Rattle.turns.proofs.Parts.{Parts, parts_of, SameParts, same_parts, parts_same}

-- ---- stores at different places
set-sets : (vs l : List ℕ) (at k x : ℕ) → (at ≤ k → k < at + length vs → ⊥) → sets (set l k x) at vs ≡ set (sets l at vs) k x
set-sets [] l at k x h = refl
set-sets (v ∷ vs) l at k x h =
    ap (λ (y : List ℕ). sets y (suc at) vs) (set_comm l k at x v (λ e. h (omega arith) (omega arith)))
    ∙ set-sets vs (set l at v) (suc at) k x (λ y z. h (omega arith) (omega arith))

pub sets_comm : (us vs l : List ℕ) (at at' : ℕ) → ((k : ℕ) → at ≤ k → k < at + length us → at' ≤ k → k < at' + length vs → ⊥)
    → sets (sets l at us) at' vs ≡ sets (sets l at' vs) at us
sets_comm [] vs l at at' h = refl
sets_comm (u ∷ us) vs l at at' h =
    sets_comm us vs (set l at u) (suc at) at' (λ k y z. h k (omega arith) (omega arith))
    ∙ ap (λ (y : List ℕ). sets y (suc at) us) (set-sets vs l at' at u (h at (le_refl at) (omega arith)))

-- what a station with work has
pub work_e : (s : Station) → T (has_work s) → (s.mark ≡ 0) × (s.position < s.in_length)
unfolding has_work
work_e s h = (
  eqb-true s.mark 0 (is_true _ (and_l (eqb s.mark 0) (ltb s.position s.in_length) h)),
  ltb-true s.position s.in_length (is_true _ (and_r (eqb s.mark 0) (ltb s.position s.in_length) h)),
)

-- standings with the same stations, output list and ticks left
stands : {ss ss' : List Station} {out out' : List ℕ} {left left' : ℕ} → ss ≡ ss' → out ≡ out' → left ≡ left'
    → standing_at ss out left ≡ standing_at ss' out' left'
stands e f g = rw (e, f, g) refl

module _ (w inputs : List ℕ) where
  -- ---- a turn by its own station alone: why it would stop, the station after it, the words it writes, the ticks it costs
  abbrev refusal_of : Station → ℕ
  refusal_of s = turn_refusal w s.state (next_set inputs s)

  abbrev step_of : Station → Step
  step_of s = table_step w s.state (next_set inputs s)

  unfoldable after : Station → Station
  after s = cond (has_work s) (cond (eqb (refusal_of s) 0) (ticked s (step_of s).state) (stopped s (refusal_of s))) s

  unfoldable words_of : Station → List ℕ
  words_of s = cond (has_work s && eqb (refusal_of s) 0) (step_of s).words []

  unfoldable cost_of : Station → ℕ
  cost_of s = digit (has_work s && eqb (refusal_of s) 0)

  abbrev words_at : Station → ℕ
  words_at s = s.out_start + 5 * s.position

  -- what the turn of a station s does to a standing where it has number m
  abbrev moved : Station → ℕ → Standing → Standing
  moved s m a =
      standing_at (set a.stations m (after s)) (sets a.out (words_at s) (words_of s)) (a.left - cost_of s)

  -- the turn of station m whatever is left
  unfoldable pub free : ℕ → Standing → Standing
  unfolding after words_of cost_of
  free m a = moved (station_at a m) m a

  -- it is the turn where there is a tick left for it
  pub turn_free : (m : ℕ) (a : Standing) → (T (has_work (station_at a m)) → 0 < a.left) → turn w inputs m a ≡ free m a
  unfolding turn free after words_of cost_of digit
  turn_free m a h = go (ltb 0 a.left) (has_work (station_at a m)) (eqb (refusal_of (station_at a m)) 0) refl h
    where
      s : Station
      s = station_at a m

      go : (x y z : Bool) → ltb 0 a.left ≡ x → (T y → 0 < a.left)
          → cond (x && y) (cond z (after_tick w inputs m a) (after_stop (refusal_of s) m a)) a
          ≡ standing_at
          (set a.stations m (cond y (cond z (ticked s (step_of s).state) (stopped s (refusal_of s))) s))
          (sets a.out (words_at s) (cond (y && z) (step_of s).words [])) (a.left - digit (y && z))
      go true true true e k = refl
      go true true false e k = stands refl refl (sym (sub-zero a.left))
      go false true z e k = absurd (of_false e (of_true (lt-ltb 0 a.left (k tt))))
      go true false z e k = stands (sym (set-get_or a.stations m blank)) refl (sym (sub-zero a.left))
      go false false z e k = stands (sym (set-get_or a.stations m blank)) refl (sym (sub-zero a.left))

  -- ---- what it keeps
  pub free_count : (m : ℕ) (a : Standing) → station_count (free m a) ≡ station_count a
  unfolding free
  free_count m a = length-set a.stations m (after (station_at a m))

  pub free_other : (m : ℕ) (a : Standing) (i : ℕ) → (i ≡ m → ⊥) → station_at (free m a) i ≡ station_at a i
  unfolding free
  free_other m a i d = get_or-set_other a.stations m i (after (station_at a m)) blank d

  after_parts : (s : Station) → SameParts s (after s)
  unfolding after
  after_parts s = go (has_work s) (eqb (refusal_of s) 0)
    where
      go : (x y : Bool) → SameParts s (cond x (cond y (ticked s (step_of s).state) (stopped s (refusal_of s))) s)
      go true true = record { in_start = refl; in_length_lem = refl; out_start_lem = refl; out_length_lem = refl }
      go true false = record { in_start = refl; in_length_lem = refl; out_start_lem = refl; out_length_lem = refl }
      go false y = record { in_start = refl; in_length_lem = refl; out_start_lem = refl; out_length_lem = refl }

  pub free_parts : (m : ℕ) (a : Standing) → parts_ok (free m a).stations inputs (free m a).out ≡ parts_ok a.stations inputs a.out
  unfolding free
  free_parts m a =
      parts_same inputs a (free m a) (free_count m a) (length-sets a.out (words_at s) (words_of s))
      (λ i. at i (same_or i m) (below_or_not m (station_count a)))
    where
      s : Station
      s = station_at a m

      at : (i : ℕ) → (i ≡ m) ⊎ (i ≡ m → ⊥) → (m < station_count a) ⊎ (station_count a ≤ m)
          → SameParts (station_at a i) (station_at (free m a) i)
      at i (inr d) l = same_parts (free_other m a i d)
      at i (inl e) (inl l) =
          subst (λ (x : ℕ). SameParts (station_at a x) (station_at (free m a) x)) (sym e)
          (subst (SameParts s) (sym (get_or-set_same a.stations m (after s) blank l)) (after_parts s))
      at i (inl e) (inr l) = same_parts (ap (λ (x : List Station). get_or x i blank) (set_out a.stations m (after s) l))

  -- ---- turns of two stations
  five_words_lem : (q : State) (i : ℕ) → length (table_step w q i).words ≡ 5
  unfolding table_step
  five_words_lem q i = row_from-length (cell_word w q.at (cell_of w q i)) 1 5

  -- the words of a turn lie in its station's part
  words_in : (s : Station) → 5 * s.in_length ≤ s.out_length → (k : ℕ) → words_at s ≤ k → k < words_at s + length (words_of s)
      → (s.out_start ≤ k) × (k < s.out_start + s.out_length)
  unfolding words_of
  words_in s f k y z = go (has_work s) (eqb (refusal_of s) 0) refl z
    where
      go : (x v : Bool) → has_work s ≡ x → k < words_at s + length (cond {A = List ℕ} (x && v) (step_of s).words [])
          → (s.out_start ≤ k) × (k < s.out_start + s.out_length)
      go true true e z =
          let p = (work_e s (of_true e)).1 in
          let q : k < words_at s + 5 = subst (λ (x : ℕ). k < words_at s + x) (five_words_lem s.state (next_set inputs s)) z in
          (omega arith, omega arith)
      go true false e z = absurd (omega arith)
      go false v e z = absurd (omega arith)

  pub free_comm : (i j : ℕ) (a : Standing) → T (parts_ok a.stations inputs a.out) → i < station_count a → j < station_count a
      → (i ≡ j → ⊥) → free i (free j a) ≡ free j (free i a)
  unfolding free
  free_comm i j a ok l y d =
      ap (λ (s : Station). moved s i (free j a)) (free_other j a i d)
      ∙ stands (set_comm a.stations j i (after t) (after s) (λ e. d (sym e)))
      (sets_comm (words_of t) (words_of s) a.out (words_at t) (words_at s) away)
      (sub_right_comm a.left (cost_of t) (cost_of s))
      ∙ ap (λ (t : Station). moved t j (free i a)) (sym (free_other i a j (λ e. d (sym e))))
    where
      s : Station
      s = station_at a i

      t : Station
      t = station_at a j

      parts : Parts inputs a
      parts = parts_of inputs a ok

      away : (k : ℕ) → words_at t ≤ k → k < words_at t + length (words_of t) → words_at s ≤ k → k < words_at s + length (words_of s) → ⊥
      away k p q p' q' =
          let u = words_in t (parts.five j y) k p q in
          let v = words_in s (parts.five i l) k p' q' in
          parts.apart i j l y d k v.0 v.1 u.0 u.1

  -- ---- sweeps of them, as turns_of and sweep_from
  unfoldable pub free_turns : ℕ → ℕ → Standing → Standing
  free_turns zero m a = a
  free_turns (suc p) m a = free_turns p m (free m a)

  unfoldable pub free_sweep : ℕ → ℕ → ℕ → Standing → Standing
  free_sweep p zero m a = a
  free_sweep p (suc r) m a = free_sweep p r (suc m) (free_turns p m a)

  free_turns_count : (p m : ℕ) (a : Standing) → station_count (free_turns p m a) ≡ station_count a
  unfolding free_turns
  free_turns_count zero m a = refl
  free_turns_count (suc p) m a = free_turns_count p m (free m a) ∙ free_count m a

  abbrev Ok : Standing → Type 0
  Ok a = T (parts_ok a.stations inputs a.out)

  free_ok : (m : ℕ) (a : Standing) → Ok a → Ok (free m a)
  free_ok m a = subst T (sym (free_parts m a))

  free_turns_ok : (p m : ℕ) (a : Standing) → Ok a → Ok (free_turns p m a)
  unfolding free_turns
  free_turns_ok zero m a ok = ok
  free_turns_ok (suc p) m a ok = free_turns_ok p m (free m a) (free_ok m a ok)

  -- a turn of a station before k goes past a turn each of the r stations from k on
  free_past : (r k m : ℕ) (a : Standing) → Ok a → m < k → k + r ≤ station_count a
      → free_sweep 1 r k (free m a) ≡ free m (free_sweep 1 r k a)
  unfolding free_sweep free_turns
  free_past zero k m a ok l h = refl
  free_past (suc r) k m a ok l h =
      ap (free_sweep 1 r (suc k)) (free_comm k m a ok (omega arith) (omega arith) (λ e. omega arith))
      ∙ free_past r (suc k) m (free k a) (free_ok k a ok) (omega arith) (omega (arith, free_count k a))

  turns_past : (p r k m : ℕ) (a : Standing) → Ok a → m < k → k + r ≤ station_count a
      → free_sweep 1 r k (free_turns p m a) ≡ free_turns p m (free_sweep 1 r k a)
  unfolding free_turns
  turns_past zero r k m a ok l h = refl
  turns_past (suc p) r k m a ok l h =
      turns_past p r k m (free m a) (free_ok m a ok) l (omega (arith, free_count m a)) ∙ ap (free_turns p m) (free_past r k m a ok l h)

  -- p + 1 turns for each station: a turn for each, and then p for each
  pub free_sweep_lem : (p r m : ℕ) (a : Standing) → Ok a → m + r ≤ station_count a
      → free_sweep (suc p) r m a ≡ free_sweep p r m (free_sweep 1 r m a)
  unfolding free_sweep free_turns
  free_sweep_lem p zero m a ok h = refl
  free_sweep_lem p (suc r) m a ok h =
      free_sweep_lem p r (suc m) (free_turns (suc p) m a) (free_turns_ok (suc p) m a ok) (omega (arith, free_turns_count (suc p) m a))
      ∙ ap (free_sweep p r (suc m))
      (turns_past p r (suc m) m (free m a) (free_ok m a ok) (le_refl (suc m)) (omega (arith, free_count m a)))
