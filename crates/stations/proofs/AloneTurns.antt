-- The turns of a station in a list are those of the station by itself. Assumes nothing.
use mathlib.Core.Path.{◌≡◌, refl, sym, ap, ◌∙◌, subst}
use mathlib.Core.Bool.{Bool, true, false, ◌&&◌, cond}
use mathlib.Core.List.{List, [], ◌∷◌, map}
use Prim.Native.Nat.{ℕ, zero, suc, ◌<◌}
use native.Mathlib.Nat.{not-suc-le-zero, le_of_suc-le-suc}
use lib.Dec.{eqb, ltb}
use lib.ListN.{length, get_or, set, length-map, get_or-map}
use lib.Seq.{get_or-set_same, set-get_or, set-set}
use Rattle.meaning.specs.Stations as meaning
use Rattle.meaning.specs.Stations.{blank, has_work, Standing, station_at, station_count, next_set, after_stop, turn_refusal, after_tick, turn, standing_at}
use Rattle.turns.specs.Sweeps.{turns_of}
use Rattle.turns.proofs.Turns.{turn_step, step_number}
use Rattle.stations.specs.declared.Station.{Station}
use Rattle.stations.specs.Stations.{station_of, stations_of, unlisted}

-- ---- the stations of the code as those of the meaning
pub map-set : {A B : Type 0} (f : A → B) (l : List A) (i : ℕ) (x : A) → map f (set l i x) ≡ set (map f l) i (f x)
map-set f [] i x = refl
map-set f (y ∷ l) zero x = refl
map-set f (y ∷ l) (suc i) x = ap (λ (r : List _). f y ∷ r) (map-set f l i x)

-- what a place past the end reads as does not matter before it
get_d_any : {A : Type 0} (l : List A) (i : ℕ) (d e : A) → i < length l → get_or l i d ≡ get_or l i e
get_d_any [] i d e l = absurd (not-suc-le-zero l)
get_d_any (x ∷ xs) zero d e l = refl
get_d_any (x ∷ xs) (suc i) d e l = get_d_any xs i d e (le_of_suc-le-suc l)

pub stations_count : (ss : List Station) → length (stations_of ss) ≡ length ss
stations_count ss = length-map ss station_of

pub stations_at : (ss : List Station) (m : ℕ) → m < length ss → get_or (stations_of ss) m blank ≡ station_of (get_or ss m unlisted)
stations_at ss m l =
    get_d_any (stations_of ss) m blank (station_of unlisted) (subst (λ (n : ℕ). m < n) (sym (stations_count ss)) l)
    ∙ get_or-map station_of ss m unlisted

-- ---- station m of a by itself, and a with the one station of b in its place
abbrev pub alone : ℕ → Standing → Standing
alone m a = standing_at (station_at a m ∷ []) a.out a.left

abbrev pub back : ℕ → Standing → Standing → Standing
back m a b = standing_at (set a.stations m (station_at b 0)) b.out b.left

-- w: the table; inputs: the input list
module _ (w inputs : List ℕ) where
  turn_back : (m : ℕ) (a : Standing) → turn w inputs m a ≡ back m a (turn w inputs 0 (alone m a))
  unfolding turn
  turn_back m a = go (ltb 0 a.left && has_work (station_at a m)) (eqb e 0)
    where
      e : ℕ
      e = turn_refusal w (station_at a m).state (next_set inputs (station_at a m))

      go : (x y : Bool)
          → cond x (cond y (after_tick w inputs m a) (after_stop e m a)) a
          ≡ back m a (cond x (cond y (after_tick w inputs 0 (alone m a)) (after_stop e 0 (alone m a))) (alone m a))
      go true true = refl
      go true false = refl
      go false y = ap (λ (l : List meaning.Station). standing_at l a.out a.left) (sym (set-get_or a.stations m blank))

  turn_alone : (m : ℕ) (a : Standing) → m < station_count a → alone m (turn w inputs m a) ≡ turn w inputs 0 (alone m a)
  unfolding turn
  turn_alone m a l = go (ltb 0 a.left && has_work (station_at a m)) (eqb e 0)
    where
      e : ℕ
      e = turn_refusal w (station_at a m).state (next_set inputs (station_at a m))

      go : (x y : Bool)
          → alone m (cond x (cond y (after_tick w inputs m a) (after_stop e m a)) a)
          ≡ cond x (cond y (after_tick w inputs 0 (alone m a)) (after_stop e 0 (alone m a))) (alone m a)
      go true true =
          let b = after_tick w inputs m a in
          ap (λ (s : meaning.Station). standing_at (s ∷ []) b.out b.left) (get_or-set_same a.stations m _ blank l)
      go true false =
          ap (λ (s : meaning.Station). standing_at (s ∷ []) a.out a.left) (get_or-set_same a.stations m _ blank l)
      go false y = refl

  back_turn : (m : ℕ) (a b : Standing) → back m (turn w inputs m a) b ≡ back m a b
  back_turn m a b =
      ap (λ (c : Standing). back m c b) (turn_back m a)
      ∙ ap (λ (l : List meaning.Station). standing_at l b.out b.left) (set-set a.stations m _ (station_at b 0))

  -- p turns of station m are those of it by itself, put back
  pub turns_alone : (p m : ℕ) (a : Standing) → m < station_count a
      → turns_of w inputs p m a ≡ back m a (turns_of w inputs p 0 (alone m a))
  unfolding turns_of
  turns_alone zero m a l = ap (λ (s : List meaning.Station). standing_at s a.out a.left) (sym (set-get_or a.stations m blank))
  turns_alone (suc p) m a l =
      let b = turn w inputs m a in
      turns_alone p m b (subst (λ (n : ℕ). m < n) (sym (step_number w inputs m a b (turn_step w inputs m a))) l)
      ∙ back_turn m a (turns_of w inputs p 0 (alone m b))
      ∙ ap (λ (c : Standing). back m a (turns_of w inputs p 0 c)) (turn_alone m a l)

  -- the same of the stations of the code: the turns of station m, that leave t, out' and left
  pub given_turns : (p m : ℕ) (ss : List Station) (out : List ℕ) (left : ℕ) (t : Station) (out' : List ℕ) (left' : ℕ) → m < length ss
      → standing_at (station_of t ∷ []) out' left' ≡ turns_of w inputs p 0 (standing_at (station_of (get_or ss m unlisted) ∷ []) out left)
      → standing_at (stations_of (set ss m t)) out' left' ≡ turns_of w inputs p m (standing_at (stations_of ss) out left)
  given_turns p m ss out left t out' left' l e =
      let a = standing_at (stations_of ss) out left in
      ap (λ (s : List meaning.Station). standing_at s out' left') (map-set station_of ss m t)
      ∙ ap (back m a) e
      ∙ ap (λ (s : meaning.Station). back m a (turns_of w inputs p 0 (standing_at (s ∷ []) out left))) (sym (stations_at ss m l))
      ∙ sym (turns_alone p m a (subst (λ (n : ℕ). m < n) (sym (stations_count ss)) l))
