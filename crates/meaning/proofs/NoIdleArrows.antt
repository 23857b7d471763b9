-- Document 02, Ask 8: a sheet with an arrow that no cell takes is refused 21, no other sheet is, and every arrow of an accepted
-- sheet stands in its table. Assumes nothing.
use mathlib.Core.Path.{◌≡◌, sym, subst}
use mathlib.Core.List.{List}
use Prim.Native.Nat.{ℕ}
use native.Mathlib.Omega.{arith}
use lib.ListN.{length}
use Rattle.meaning.specs.Lists.{overwritten}
use Rattle.meaning.specs.Walk.{walk}
use Rattle.meaning.specs.Compile.{table_words, compile}
use Rattle.meaning.specs.NoIdleArrows.{TakenByCell, TakenInTable, IdleRefused, RefusedIdle, IdleLeaves, EveryArrowTaken}
use Rattle.meaning.proofs.WalkFuel.{walk_refusal}
use Rattle.meaning.proofs.TableLaws.{b_in_lem, cells_in_lem, taken_in}
use Rattle.meaning.proofs.CompiledLaws.{CompileIdle, compile_accepts, compile_idle_e, compile_idle_i, compiled_words}
use Rattle.meaning.proofs.IdleLaws.{leaves_idle_e, leaves_idle_i, none_idle_e}

-- ---- 21 is given where the walk is finished and leaves an idle arrow

pub idle_refused_lem : IdleRefused
unfolding IdleRefused compile
idle_refused_lem s table work p w t h =
    let o = walk s (length work) in
    compile_idle_i s o (length table) (record { passes = p; walked = w; some_idle = leaves_idle_i s o.listed t h })

refused_21 : (s table work : List ℕ) → (compile s table work).refusal ≡ 21 → CompileIdle s (walk s (length work))
unfolding compile
refused_21 s table work h = compile_idle_e s (walk s (length work)) (length table) (walk_refusal s (length work)) h

pub refused_idle_lem : RefusedIdle
unfolding RefusedIdle
refused_idle_lem s table work h =
    let a = refused_21 s table work h in
    let r = leaves_idle_e s (walk s (length work)).listed a.some_idle in
    record { passes = a.passes; finished = a.walked; arrow = r.0; idle = r.1 }

pub idle_leaves_lem : IdleLeaves
unfolding IdleLeaves compile overwritten
idle_leaves_lem s table work h = rw (h, (refused_21 s table work h).passes)

-- ---- every arrow of an accepted sheet stands in its table

-- a cell of the listed sets that takes t has t in its taken words
in_table : (s listed : List ℕ) (t : ℕ) → TakenByCell s listed t → TakenInTable (table_words s listed) t
in_table s listed t h =
    record {
      block = h.block;
      cell = h.cell;
      block_small = omega (arith, b_in_lem s listed, h.block_listed);
      cell_small = rw (cells_in_lem s listed h.block h.block_listed) h.cell_small;
      taken = rw (taken_in s listed h.block h.cell h.block_listed h.cell_small) h.taken;
    }

pub every_arrow_taken_lem : EveryArrowTaken
unfolding EveryArrowTaken
every_arrow_taken_lem s table work h t l =
    let o = walk s (length work) in
    let a = compile_accepts s o (length table) (unfold compile in h) in
    subst (λ (w : List ℕ). TakenInTable w t) (sym (compiled_words s table work h))
    (in_table s o.listed t (none_idle_e s o.listed a.no_idle t l))
