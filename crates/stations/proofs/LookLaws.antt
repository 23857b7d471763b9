-- The parts of the stations, looked at one station after the other. Assumes nothing.
use mathlib.Core.Path.{◌≡◌, refl, sym, ap, ap₂, ◌∙◌, subst}
use mathlib.Core.Logic.{◌⊎◌, inl, inr}
use mathlib.Core.Bool.{Bool, true, false, ◌&&◌}
use mathlib.Core.List.{List, [], ◌∷◌}
use Prim.Native.Nat.{ℕ, ◌+◌, ◌*◌, ◌≤◌, ◌<◌}
use native.Mathlib.Nat.{eq-or-lt_of_le}
use native.Mathlib.Omega.{arith}
use lib.Dec.{T, eqb, leb, ltb}
use lib.ListN.{length, get_or}
use borrow.Author.Tests.{eq-eqb, ne_eqb}
use Rattle.sets.specs.Sets.{every}
use Rattle.sets.proofs.Tests.{is_true, of_true, and_l, and_r, and_i, or_l, bool_ext, eqb-sym, below_or_not}
use Rattle.sets.proofs.Facts.{every_e, every_i}
use Rattle.sets.proofs.Quantifiers.{every_same}
use Rattle.sets.proofs.Loops.{every_fails}
use Rattle.meaning.specs.Lists.{all_of}
use Rattle.meaning.specs.Stations as meaning
use Rattle.meaning.specs.Stations.{blank, shares, parts_fit, parts_apart, parts_ok}
use Rattle.meaning.proofs.ListLaws.{all_of_e, all_of_i, ◌▹◌}
use Rattle.stations.specs.declared.Station.{Station}
use Rattle.stations.specs.Stations.{stations_of, unlisted}
use Rattle.stations.specs.Serving.{PartsAt, apart_from, parts_within}
use Rattle.stations.proofs.AloneTurns.{stations_at}

shares-sym : (a l b m : ℕ) → shares a l b m ≡ shares b m a l
shares-sym a l b m = bool_ext (shares a l b m) (shares b m a l) (turned a l b m) (turned b m a l)
  where
    turned : (a l b m : ℕ) → T (shares a l b m) → T (shares b m a l)
    turned a l b m h =
        unfold shares in
        (let k = all_of_e (ltb 0 l ∷ ltb 0 m ∷ ltb a (b + m) ∷ ltb b (a + l) ∷ []) h in
        all_of_i (ltb 0 m ∷ ltb 0 l ∷ ltb b (a + l) ∷ ltb a (b + m) ∷ []) (k.1.0 ▹ k.0 ▹ k.1.1.1.0 ▹ k.1.1.0 ▹ tt))

module _ (stations : List meaning.Station) (inputs out : List ℕ) where
  abbrev fit : ℕ → Bool
  fit = parts_fit stations inputs out

  abbrev off : ℕ → ℕ → Bool
  off = parts_apart stations inputs out

  off_sym : (m n : ℕ) → off m n ≡ off n m
  unfolding parts_apart
  off_sym m n =
      let s = get_or stations m blank in
      let t = get_or stations n blank in
      let e = shares-sym s.in_start s.in_length t.in_start t.in_length in
      let f = shares-sym s.out_start s.out_length t.out_start t.out_length in
      rw (eqb-sym m n, e, f) refl

  off_same : (m : ℕ) → T (off m m)
  unfolding parts_apart
  off_same m = or_l (eqb m m) _ (of_true (eq-eqb m m refl))

  -- every two are apart
  abbrev all_off : Bool
  all_off = every (length stations) (λ m. every (length stations) (off m))

  -- a look at station m: its parts fit, and are apart from those before it
  unfoldable pub look_ok : ℕ → Bool
  look_ok m = fit m && every m (λ k. off k m)

  -- all looks are the definition's test
  pub looks_parts : every (length stations) look_ok ≡ parts_ok stations inputs out
  unfolding look_ok parts_ok
  looks_parts = bool_ext (every n look_ok) (every n fit && all_off) there here
    where
      n : ℕ
      n = length stations

      there : T (every n look_ok) → T (every n fit && all_off)
      there h =
          and_i (every n fit) all_off (every_i n fit (λ m l. and_l (fit m) (every m (λ k. off k m)) (look m l)))
          (every_i n (λ m. every n (off m)) (λ m l. every_i n (off m) (λ k y. two m k l y)))
        where
          look : (m : ℕ) → m < n → T (look_ok m)
          look m l = every_e n look_ok h m l

          lower : (k m : ℕ) → k < m → m < n → T (off k m)
          lower k m y l = every_e m (λ k. off k m) (and_r (fit m) (every m (λ k. off k m)) (look m l)) k y

          two : (m k : ℕ) → m < n → k < n → T (off m k)
          two m k l y = go (below_or_not m k)
            where
              at : (k ≡ m) ⊎ (k < m) → T (off m k)
              at (inl e) = subst (λ (x : ℕ). T (off m x)) (sym e) (off_same m)
              at (inr z) = subst T (off_sym k m) (lower k m z l)

              go : (m < k) ⊎ (k ≤ m) → T (off m k)
              go (inl z) = lower m k z y
              go (inr z) = at (eq-or-lt_of_le z)

      here : T (every n fit && all_off) → T (every n look_ok)
      here h =
          every_i n look_ok
          (λ m l. and_i (fit m) (every m (λ k. off k m)) (every_e n fit (and_l (every n fit) all_off h) m l)
          (every_i m (λ k. off k m) (λ k y. every_e n (off k) (row k (omega arith)) m l)))
        where
          row : (k : ℕ) → k < n → T (every n (off k))
          row k l = every_e n (λ m. every n (off m)) (and_r (every n fit) all_off h) k l

  -- one that fails is enough
  pub look_fails : (m : ℕ) → m < length stations → look_ok m ≡ false → parts_ok stations inputs out ≡ false
  look_fails m l e = sym looks_parts ∙ every_fails look_ok (length stations) m l e

  -- the parts of each fit
  pub parts_fit_lem : (m : ℕ) → m < length stations → parts_ok stations inputs out ≡ true → parts_fit stations inputs out m ≡ true
  unfolding parts_ok
  parts_fit_lem m l e =
      let n = length stations in
      is_true (fit m) (every_e n fit (and_l (every n fit) all_off (of_true e)) m l)

-- ---- the same from the stations of the code, and from the parts in the work words
module _ (ss : List Station) (inputs out : List ℕ) where
  pub within_is : (m : ℕ) → m < length ss
      → parts_within (length inputs) (length out) (get_or ss m unlisted) ≡ parts_fit (stations_of ss) inputs out m
  unfolding parts_within parts_fit
  within_is m l =
      ap
      (λ (s : meaning.Station). all_of
      (leb (s.in_start + s.in_length) (length inputs)
      ∷ leb (s.out_start + s.out_length) (length out)
      ∷ leb (5 * s.in_length) s.out_length
      ∷ []))
      (sym (stations_at ss m l))

  apart_is : (work : List ℕ) (m k : ℕ) → m < length ss → k < m → PartsAt work k (get_or ss k unlisted)
      → apart_from work (get_or ss m unlisted) k ≡ parts_apart (stations_of ss) inputs out k m
  unfolding apart_from parts_apart
  apart_is work m k l y (p, q, r, s) =
      rw (stations_at ss k (omega arith), stations_at ss m l, ne_eqb k m (λ e. omega arith), p, q, r, s) refl

  -- a look of the code
  pub look_is : (work : List ℕ) (m : ℕ) → m < length ss → ((k : ℕ) → k < m → PartsAt work k (get_or ss k unlisted))
      → (parts_within (length inputs) (length out) (get_or ss m unlisted) && every m (apart_from work (get_or ss m unlisted)))
      ≡ look_ok (stations_of ss) inputs out m
  unfolding look_ok
  look_is work m l h =
      ap₂ (λ (x y : Bool). x && y) (within_is m l)
      (every_same m (apart_from work (get_or ss m unlisted)) (λ k. parts_apart (stations_of ss) inputs out k m)
      (λ k y. apart_is work m k l y (h k y)))
