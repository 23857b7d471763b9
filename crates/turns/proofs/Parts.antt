-- The parts of the stations as plain facts, and what keeps them. Assumes nothing.
use mathlib.Core.Path.{◌≡◌, refl, ap, ap₂, ◌∙◌}
use mathlib.Core.Logic.{◌⊎◌, inl, inr}
use mathlib.Core.Bool.{Bool, false, not, ◌&&◌}
use mathlib.Core.List.{List, [], ◌∷◌}
use Prim.Native.Nat.{ℕ, ◌+◌, ◌*◌, ◌≤◌, ◌<◌}
use native.Mathlib.Omega.{arith}
use lib.Dec.{T, eqb, leb, ltb, leb→le, lt→ltb, eqb→eq}
use lib.ListN.{length}
use borrow.Author.Tests.{not-true}
use Rattle.sets.specs.Sets.{every}
use Rattle.sets.proofs.Tests.{is_true, of_false, and_l, and_r, or_e}
use Rattle.sets.proofs.Facts.{every_e}
use Rattle.sets.proofs.Quantifiers.{every_same}
use Rattle.meaning.specs.Stations.{Station, Standing, station_at, station_count, shares, parts_fit, parts_apart, parts_ok}
use Rattle.meaning.proofs.ListLaws.{Holds, all_of_e, all_of_i, ◌▹◌}

-- the parts of the stations of a: within their lists, five words for each set, output parts apart
pub record Parts (inputs : List ℕ) (a : Standing) : Type 0 where
  pub in_fits : (i : ℕ) → i < station_count a → (station_at a i).in_start + (station_at a i).in_length ≤ length inputs
  pub out_fits : (i : ℕ) → i < station_count a → (station_at a i).out_start + (station_at a i).out_length ≤ length a.out
  pub five : (i : ℕ) → i < station_count a → 5 * (station_at a i).in_length ≤ (station_at a i).out_length
  pub apart : (i m : ℕ) → i < station_count a → m < station_count a → (i ≡ m → ⊥) → (k : ℕ)
      → (station_at a i).out_start ≤ k → k < (station_at a i).out_start + (station_at a i).out_length
      → (station_at a m).out_start ≤ k → k < (station_at a m).out_start + (station_at a m).out_length → ⊥

-- ---- from the test
shares_none : (a l b m : ℕ) → shares a l b m ≡ false → (k : ℕ) → a ≤ k → k < a + l → b ≤ k → k < b + m → ⊥
unfolding shares
shares_none a l b m e k h₁ h₂ h₃ h₄ =
    of_false e
    (all_of_i (ltb 0 l ∷ ltb 0 m ∷ ltb a (b + m) ∷ ltb b (a + l) ∷ [])
    (lt→ltb 0 l (omega arith) ▹ lt→ltb 0 m (omega arith) ▹ lt→ltb a (b + m) (omega arith) ▹ lt→ltb b (a + l) (omega arith) ▹ tt))

pub parts_of : (inputs : List ℕ) (a : Standing) → T (parts_ok a.stations inputs a.out) → Parts inputs a
unfolding parts_ok parts_fit parts_apart
parts_of inputs a h =
    record {
      in_fits = λ i l. leb→le ((s i).in_start + (s i).in_length) (length inputs) (one i l).0;
      out_fits = λ i l. leb→le ((s i).out_start + (s i).out_length) (length a.out) (one i l).1.0;
      five = λ i l. leb→le (5 * (s i).in_length) (s i).out_length (one i l).1.1.0;
      apart = two;
    }
  where
    n : ℕ
    n = station_count a

    s : ℕ → Station
    s i = station_at a i

    fit : ℕ → Bool
    fit = parts_fit a.stations inputs a.out

    off : ℕ → ℕ → Bool
    off = parts_apart a.stations inputs a.out

    one : (i : ℕ) → i < n
        → Holds
        (leb ((s i).in_start + (s i).in_length) (length inputs)
        ∷ leb ((s i).out_start + (s i).out_length) (length a.out)
        ∷ leb (5 * (s i).in_length) (s i).out_length
        ∷ [])
    one i l = all_of_e _ (every_e n fit (and_l (every n fit) (every n (λ m. every n (off m))) h) i l)

    each : (i m : ℕ) → i < n → m < n → T (off i m)
    each i m l y =
        every_e n (off i) (every_e n (λ x. every n (off x)) (and_r (every n fit) (every n (λ m. every n (off m))) h) i l) m y

    words : (i m : ℕ) → (i ≡ m → ⊥) → T (off i m) → shares (s i).out_start (s i).out_length (s m).out_start (s m).out_length ≡ false
    words i m d t = go (or_e (eqb i m) (not x && not y) t)
      where
        x : Bool
        x = shares (s i).in_start (s i).in_length (s m).in_start (s m).in_length

        y : Bool
        y = shares (s i).out_start (s i).out_length (s m).out_start (s m).out_length

        go : T (eqb i m) ⊎ T (not x && not y) → y ≡ false
        go (inl e) = absurd (d (eqb→eq i m e))
        go (inr e) = not-true y (is_true (not y) (and_r (not x) (not y) e))

    two : (i m : ℕ) → i < n → m < n → (i ≡ m → ⊥) → (k : ℕ)
        → (s i).out_start ≤ k → k < (s i).out_start + (s i).out_length → (s m).out_start ≤ k → k < (s m).out_start + (s m).out_length → ⊥
    two i m l y d =
        shares_none (s i).out_start (s i).out_length (s m).out_start (s m).out_length (words i m d (each i m l y))

-- ---- the test looks only at part numbers and at the length of the lists
pub record SameParts (s s' : Station) : Type 0 where
  pub in_start : s'.in_start ≡ s.in_start
  pub in_length_lem : s'.in_length ≡ s.in_length
  pub out_start_lem : s'.out_start ≡ s.out_start
  pub out_length_lem : s'.out_length ≡ s.out_length

pub same_parts : {s s' : Station} → s' ≡ s → SameParts s s'
same_parts e =
    record {
      in_start = ap (λ (x : Station). x.in_start) e;
      in_length_lem = ap (λ (x : Station). x.in_length) e;
      out_start_lem = ap (λ (x : Station). x.out_start) e;
      out_length_lem = ap (λ (x : Station). x.out_length) e;
    }

pub parts_same : (inputs : List ℕ) (a b : Standing) → station_count b ≡ station_count a → length b.out ≡ length a.out
    → ((i : ℕ) → SameParts (station_at a i) (station_at b i))
    → parts_ok b.stations inputs b.out ≡ parts_ok a.stations inputs a.out
unfolding parts_ok
parts_same inputs a b k r h =
    ap (λ (n : ℕ). every n (fit b) && every n (λ m. every n (off b m))) k
    ∙ ap₂ (λ (x y : Bool). x && y) (every_same n (fit b) (fit a) (λ i l. fits i (h i)))
    (every_same n (λ m. every n (off b m)) (λ m. every n (off a m))
    (λ i l. every_same n (off b i) (off a i) (λ m y. aparts i m (h i) (h m))))
  where
    n : ℕ
    n = station_count a

    fit : Standing → ℕ → Bool
    fit c = parts_fit c.stations inputs c.out

    off : Standing → ℕ → ℕ → Bool
    off c = parts_apart c.stations inputs c.out

    fits : (i : ℕ) → SameParts (station_at a i) (station_at b i) → fit b i ≡ fit a i
    fits i e = unfold parts_fit in rw (e.in_start, e.in_length_lem, e.out_start_lem, e.out_length_lem, r) refl

    aparts : (i m : ℕ) → SameParts (station_at a i) (station_at b i) → SameParts (station_at a m) (station_at b m) → off b i m ≡ off a i m
    aparts i m e f =
        unfold parts_apart in
        rw (e.in_start, e.in_length_lem, e.out_start_lem, e.out_length_lem, f.in_start, f.in_length_lem, f.out_start_lem, f.out_length_lem) refl
