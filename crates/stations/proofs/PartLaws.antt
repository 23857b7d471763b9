-- Parts of stations: how they are tested, and how they are noted. Assumes nothing.
use mathlib.Core.Path.{◌≡◌, refl, sym, ◌∙◌}
use mathlib.Core.Logic.{inl}
use mathlib.Core.Bool.{Bool, true, false, not, and-true}
use mathlib.Core.List.{List, [], ◌∷◌}
use Prim.Native.Nat.{ℕ, ◌+◌, ◌*◌, ◌≤◌, ◌<◌}
use native.Mathlib.Nat.{add-zero}
use native.Mathlib.Numerals.{towards_suc}
use native.Mathlib.Omega.{arith}
use lib.Dec.{leb, ltb}
use lib.ListN.{length, get_or, set, drop}
use lib.Seq.{drop-set-lt}
use borrow.Author.Tests.{lt-ltb, le-ltb, le-leb, lt-leb}
use Rattle.sets.specs.Sets.{every}
use Rattle.sets.proofs.Tests.{bool_ext}
use Rattle.sets.proofs.Facts.{every_e, every_i}
use Rattle.rows.specs.Over.{over}
use Rattle.rows.proofs.OverLaws.{over_sets, over_in, over_out}
use Rattle.meaning.specs.Lists.{all_of}
use Rattle.meaning.specs.Stations.{shares}
use Rattle.stations.specs.declared.Station.{Station}
use Rattle.stations.specs.Serving.{PartsAt, apart_from, parts_within}

-- ---- two parts share a word

module _ (start len start' len' : ℕ) where
  pub shares_empty : len ≡ 0 → shares start len start' len' ≡ false
  unfolding shares all_of
  shares_empty e = rw (le-ltb 0 len (omega arith)) refl

  pub shares-nothing : (len ≡ 0 → ⊥) → len' ≡ 0 → shares start len start' len' ≡ false
  unfolding shares all_of
  shares-nothing n e = rw (lt-ltb 0 len (omega arith), le-ltb 0 len' (omega arith)) refl

  module _ (n : len ≡ 0 → ⊥) (n' : len' ≡ 0 → ⊥) where
    pub shares_after : ltb start (start' + len') ≡ false → shares start len start' len' ≡ false
    unfolding shares all_of
    shares_after e = rw (lt-ltb 0 len (omega arith), lt-ltb 0 len' (omega arith), e) refl

    pub shares_both : ltb start (start' + len') ≡ true → ltb start' (start + len) ≡ shares start len start' len'
    unfolding shares all_of
    shares_both e = sym (rw (lt-ltb 0 len (omega arith), lt-ltb 0 len' (omega arith), e) (and-true (ltb start' (start + len))))

-- ---- they fit their lists

module _ (sets words : ℕ) (s : Station) where
  pub within_not_in : sets < s.in_start + s.in_length → parts_within sets words s ≡ false
  unfolding parts_within all_of
  within_not_in h = rw (lt-leb (s.in_start + s.in_length) sets h) refl

  pub within_not_out : s.in_start + s.in_length ≤ sets → words < s.out_start + s.out_length
      → parts_within sets words s ≡ false
  unfolding parts_within all_of
  within_not_out h k =
      rw (le-leb (s.in_start + s.in_length) sets h, lt-leb (s.out_start + s.out_length) words k) refl

  pub within_five : s.in_start + s.in_length ≤ sets → s.out_start + s.out_length ≤ words
      → leb (5 * s.in_length) s.out_length ≡ parts_within sets words s
  unfolding parts_within all_of
  within_five h k =
      sym (rw (le-leb (s.in_start + s.in_length) sets h, le-leb (s.out_start + s.out_length) words k) (and-true _))

-- ---- they are noted in the four words from 4m on

module _ (work : List ℕ) (m : ℕ) (s : Station) where
  abbrev four : List ℕ
  four = s.in_start ∷ s.in_length ∷ s.out_start ∷ s.out_length ∷ []

  -- as they are stored one by one
  abbrev stored : List ℕ
  stored =
      set (set (set (set work (4 * m) s.in_start) (4 * m + 1) s.in_length) (4 * m + 2) s.out_start) (4 * m + 3)
      s.out_length

  stored_is : 4 * m + 4 ≤ length work → stored ≡ over work (4 * m) four
  stored_is h = simp towards_suc (over_sets work (4 * m) four h)

  put_parts_lem : 4 * m + 4 ≤ length work → PartsAt (over work (4 * m) four) m s
  put_parts_lem h =
      let at : (i : ℕ) → i < 4 → get_or (over work (4 * m) four) (4 * m + i) 0 ≡ get_or four i 0 = over_in work (4 * m) four h in
      (rw add-zero at (at 0 (omega arith)), at 1 (omega arith), at 2 (omega arith), at 3 (omega arith))

  -- what stands from a later place on stays
  drop_stored : (n : ℕ) → 4 * m + 4 ≤ n → drop n stored ≡ drop n work
  drop_stored n h =
      drop-set-lt n _ (4 * m + 3) s.out_length (omega arith) ∙ drop-set-lt n _ (4 * m + 2) s.out_start (omega arith)
      ∙ drop-set-lt n _ (4 * m + 1) s.in_length (omega arith) ∙ drop-set-lt n work (4 * m) s.in_start (omega arith)

  pub parts_stored : m < 64 → 256 ≤ length work
      → PartsAt stored m s × ((i : ℕ) → i < 4 * m → get_or stored i 0 ≡ get_or work i 0) × (drop 256 stored ≡ drop 256 work)
  parts_stored l h = (
    rw (stored_is (omega arith)) (put_parts_lem (omega arith)),
    (λ i k. rw (stored_is (omega arith)) (over_out work (4 * m) four (omega arith) i (inl k))),
    drop_stored 256 (omega arith),
  )

-- ---- they are apart from those noted

module _ (work : List ℕ) (s : Station) (m : ℕ) where
  abbrev shares_in : Bool
  shares_in = shares (get_or work (4 * m) 0) (get_or work (4 * m + 1) 0) s.in_start s.in_length

  abbrev shares_out : Bool
  shares_out = shares (get_or work (4 * m + 2) 0) (get_or work (4 * m + 3) 0) s.out_start s.out_length

  pub apart_not_in : shares_in ≡ true → apart_from work s m ≡ false
  unfolding apart_from
  apart_not_in e = rw e refl

  pub apart_out : shares_in ≡ false → not shares_out ≡ apart_from work s m
  unfolding apart_from
  apart_out e = sym (rw e refl)

-- this hangs on the words before 4n alone
pub apart_same : (work work' : List ℕ) (s : Station) (n : ℕ) → ((i : ℕ) → i < 4 * n → get_or work' i 0 ≡ get_or work i 0)
    → (m : ℕ) → m < n → apart_from work' s m ≡ apart_from work s m
unfolding apart_from
apart_same work work' s n h m k =
    rw (h (4 * m) (omega arith), h (4 * m + 1) (omega arith), h (4 * m + 2) (omega arith), h (4 * m + 3) (omega arith)) refl

pub every_apart_same : (work work' : List ℕ) (s : Station) (n : ℕ) → ((i : ℕ) → i < 4 * n → get_or work' i 0 ≡ get_or work i 0)
    → every n (apart_from work' s) ≡ every n (apart_from work s)
every_apart_same work work' s n h =
    let e = apart_same work work' s n h in
    bool_ext (every n (apart_from work' s)) (every n (apart_from work s))
    (λ t. every_i n (apart_from work s) (λ m k. rw (e m k) at (every_e n (apart_from work' s) t m k)))
    (λ t. every_i n (apart_from work' s) (λ m k. rw (e m k) (every_e n (apart_from work s) t m k)))
