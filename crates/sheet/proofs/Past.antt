-- A sheet past 1 to 6 has the words that a reader of it asks for. Assumes nothing.
use mathlib.Core.Path.{◌≡◌}
use mathlib.Core.List.{List}
use Prim.Native.Nat.{ℕ, ◌<◌}
use native.Mathlib.Omega.{arith}
use lib.Dec.{T, eqb}
use lib.ListN.{length}
use borrow.Author.Tests.{eq-eqb}
use Rattle.sets.specs.Sets.{every}
use Rattle.sets.proofs.Tests.{of_true, and_i}
use Rattle.sets.proofs.Facts.{every_i}
use Rattle.meaning.specs.Sheet.{n_of, t_of, end_before, term_count}
use Rattle.meaning.specs.Check.{head_ok, mode_ok, modes_ok, pair_ok, pairs_ok, sheet_refusal}
use Rattle.meaning.proofs.SheetLaws.{sound, n_le}
use Rattle.sheet.specs.Reading.{Row, Pair, Record, Term, Tree}
use Rattle.sheet.proofs.SheetTestLaws.{placed}

module _ (s : List ℕ) (h : sheet_refusal s ≡ 0) where
  pub head_read : T (head_ok s)
  head_read = (sound s h).head

  pub mode_small : (m : ℕ) → m < n_of s → m < 32
  mode_small m l = omega (arith, n_le s (sound s h))

  pub row_read : (m : ℕ) → m < n_of s → Row s m
  row_read m l = record { head = head_read; mode = l }

  pub tree_read : Tree s
  unfolding modes_ok
  tree_read = record { head = head_read; modes = every_i (n_of s) (mode_ok s) (sound s h).modes }

  pairs_read : T (pairs_ok s)
  unfolding pairs_ok
  pairs_read =
      and_i (every (t_of s) (pair_ok s)) (eqb (end_before s (t_of s)) (length s)) (every_i (t_of s) (pair_ok s) (sound s h).pairs)
      (of_true (eq-eqb (end_before s (t_of s)) (length s) (sound s h).whole))

  pub pair_read : (t : ℕ) → t < t_of s → Pair s t
  pair_read t l = record { head = head_read; transition = l }

  pub record_read : (t : ℕ) → t < t_of s → Record s t
  record_read t l = record { head = head_read; pairs = pairs_read; transition = l }

  pub term_read : (t j : ℕ) → t < t_of s → j < term_count s t → Term s t j
  term_read t j l k = record { head = head_read; pairs = pairs_read; transition = l; term = k }

  -- every transition has a first term
  pub first_read : (t : ℕ) → t < t_of s → Term s t 0
  unfolding term_count
  first_read t l = term_read t 0 l (omega (arith, (placed (record_read t l)).least))
