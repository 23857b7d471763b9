-- What compile leaves, by its one refusal: nothing in the table, or a table that is accepted for the sheet. Assumes nothing.
use mathlib.Core.Path.{◌≡◌, refl, sym, ◌∙◌, subst}
use mathlib.Core.Logic.{◌⊎◌}
use mathlib.Core.Bool.{Bool, true, false, cond}
use mathlib.Core.List.{List, [], ◌∷◌}
use Prim.Native.Nat.{ℕ, ◌≤◌, zero-le}
use native.Mathlib.Nat.{le_trans, min-le_right}
use native.Mathlib.Omega.{arith}
use lib.Dec.{T, eqb, ltb}
use lib.ListN.{length, take, drop}
use lib.Seq.{take-append_seam}
use borrow.Author.Tests.{eqb-true, eq-eqb, ltb-false}
use Rattle.meaning.specs.Lists.{overwritten, refused_if, first_refusal}
use Rattle.meaning.specs.Check.{sheet_refusal}
use Rattle.meaning.specs.Hierarchy.{consistent}
use Rattle.meaning.specs.Tick.{tick}
use Rattle.meaning.specs.Walk.{Walk, walk}
use Rattle.meaning.specs.Idle.{leaves_idle}
use Rattle.meaning.specs.Compile.{table_words, compile_refusal, compile}
use Rattle.meaning.specs.Acceptance.{Accepted, CompiledAccepted}
use Rattle.meaning.proofs.RefusalLaws.{none_met, other_met, first_alone, unmet}
use Rattle.meaning.proofs.SheetLaws.{Sound, sound, sheet_refusal_lem}
use Rattle.meaning.proofs.WalkFuel.{walk_few}
use Rattle.meaning.proofs.WalkLaws.{walk-closed}
use Rattle.meaning.proofs.AcceptanceLaws.{accepted_i}
use Rattle.meaning.proofs.TableFaithful.{table_faithful}
use Rattle.meaning.proofs.TableSound.{table_ok_lem}

-- where nothing is refused, neither the sheet nor the walk is, no arrow is idle, and the table slice is long enough
pub record CompileAccepts (s : List ℕ) (o : Walk) (m : ℕ) : Type 0 where
  pub passes : sheet_refusal s ≡ 0
  pub walked : o.refusal ≡ 0
  pub no_idle : leaves_idle s o.listed ≡ false
  pub room : length (table_words s o.listed) ≤ m

pub compile_accepts : (s : List ℕ) (o : Walk) (m : ℕ) → compile_refusal s o m ≡ 0 → CompileAccepts s o m
unfolding compile_refusal
compile_accepts s o m h =
    let short = ltb m (length (table_words s o.listed)) in
    let idle = leaves_idle s o.listed in
    let a = none_met (sheet_refusal s) (o.refusal ∷ refused_if idle 21 ∷ refused_if short 10 ∷ []) h in
    let b = none_met o.refusal (refused_if idle 21 ∷ refused_if short 10 ∷ []) a.1 in
    let c = none_met (refused_if idle 21) (refused_if short 10 ∷ []) b.1 in
    record {
      passes = a.0;
      walked = b.0;
      no_idle = unmet idle 21 (λ z. omega arith) c.0;
      room = ltb-false m (length (table_words s o.listed)) (unmet short 10 (λ z. omega arith) (sym (first_alone (refused_if short 10)) ∙ c.1));
    }

-- where 21 is given, the sheet is not refused, nor the walk, and an arrow is idle; and the other way round
pub record CompileIdle (s : List ℕ) (o : Walk) : Type 0 where
  pub passes : sheet_refusal s ≡ 0
  pub walked : o.refusal ≡ 0
  pub some_idle : leaves_idle s o.listed ≡ true

pub compile_idle_i : (s : List ℕ) (o : Walk) (m : ℕ) → CompileIdle s o → compile_refusal s o m ≡ 21
unfolding compile_refusal first_refusal refused_if
compile_idle_i s o m h = rw (h.passes, h.walked, h.some_idle)

pub compile_idle_e : (s : List ℕ) (o : Walk) (m : ℕ) → o.refusal ≤ 11 → compile_refusal s o m ≡ 21 → CompileIdle s o
unfolding compile_refusal first_refusal refused_if
compile_idle_e s o m low h =
    let short = ltb m (length (table_words s o.listed)) in
    let idle = leaves_idle s o.listed in
    let a = other_met (sheet_refusal s) 21 (o.refusal ∷ refused_if idle 21 ∷ refused_if short 10 ∷ []) (λ e. omega (arith, sheet_refusal_lem s)) h in
    let b = other_met o.refusal 21 (refused_if idle 21 ∷ refused_if short 10 ∷ []) (λ e. omega arith) a.1 in
    record { passes = a.0; walked = b.0; some_idle = go idle short b.1 }
  where
    go : (i j : Bool) → first_refusal (refused_if i 21 ∷ refused_if j 10 ∷ []) ≡ 21 → i ≡ true
    go true j k = refl
    go false true k = absurd (omega arith)
    go false false k = absurd (omega arith)

module _ (s table work : List ℕ) where
  -- the table's length is at most that of the lent slice
  pub compile-length : (compile s table work).table_length ≤ length table
  unfolding compile
  compile-length = go (eqb (compile_refusal s o (length table)) 0) refl
    where
      o : Walk
      o = walk s (length work)

      listed : List ℕ
      listed = cond (eqb (sheet_refusal s) 0) o.listed []

      go : (b : Bool) → eqb (compile_refusal s o (length table)) 0 ≡ b → length (cond b (table_words s listed) []) ≤ length table
      go false e = zero-le
      go true e =
          let a = compile_accepts s o (length table) (eqb-true (compile_refusal s o (length table)) 0 e) in
          subst (λ (c : Bool). length (table_words s (cond c o.listed [])) ≤ length table) (sym (eq-eqb (sheet_refusal s) 0 a.passes)) a.room

  -- the words that it leaves are the table of the walk
  pub compiled_words : (compile s table work).refusal ≡ 0
      → take (compile s table work).table_length (compile s table work).table ≡ table_words s (walk s (length work)).listed
  unfolding compile overwritten
  compiled_words h =
      let o = walk s (length work) in
      let words = table_words s o.listed in
      rw (eq-eqb (compile_refusal s o (length table)) 0 h, eq-eqb (sheet_refusal s) 0 (compile_accepts s o (length table) h).passes)
      (take-append_seam words (drop (length words) table))

-- by the one fact that a tick leaves a consistent set
pub compiled_accepted_from : ((s : List ℕ) → Sound s → (y d i : ℕ) → (y ≡ 0) ⊎ T (consistent s y) → T (consistent s (tick s y d i).sets.modes))
    → CompiledAccepted
unfolding CompiledAccepted
compiled_accepted_from keeps s table work h =
    subst (Accepted s) (sym (compiled_words s table work h)) (go (compile_accepts s o (length table) (unfold compile in h)))
  where
    o : Walk
    o = walk s (length work)

    go : CompileAccepts s o (length table) → Accepted s (table_words s o.listed)
    go a =
        let sd = sound s a.passes in
        let r = walk-closed s (keeps s sd) (length work) a.walked in
        let short = le_trans (walk_few s (length work)) (min-le_right (length work) 4095) in
        accepted_i s (table_words s o.listed) a.passes (table_ok_lem s sd o.listed short r.0 r.1) (table_faithful s o.listed r.0 r.1)
