-- `table::blocks::delayed` meets its contract. Assumes nothing.
use Rattle.std.proofs.Common.{refl, arith}
use borrow.Author.Tests.{lt-ltb, le-ltb}
use Rattle.sets.proofs.Loops.{set_of_none, set_of_added, set_of_passed, set_of_width}
use Rattle.table.specs.Parts.{delayed_in}
use Rattle.table.proofs.Places.{head_of}
use Rattle.table.proofs.blocks.delayed.Goals as goal
use Rattle.table.proofs.blocks.delayed.Goals.{then-timer_delay-ne0, else-timer_delay-ne0}

pub loop-t-init : goal.loop-t-init
loop-t-init c = set_of_none _

pub single-r-requires : goal.single-r-requires
single-r-requires c = omega (arith, head_of _ c.requires)

pub loop-t-preserved : goal.loop-t-preserved
loop-t-preserved c =
    let l = c.loop-t in
    elim c.if-timer_delay-ne0.branch [
      | then-timer_delay-ne0 v ↦ set_of_added _ l.t l.invariant v.single-r.ensures refl (lt-ltb 0 _ (omega arith)) v.r-is
      | else-timer_delay-ne0 v ↦ set_of_passed _ l.t l.invariant refl (le-ltb 0 _ (omega arith)) v.r-is
    ]

pub returns : goal.returns
unfolding delayed_in
returns c = set_of_width _ c.loop-t.invariant (omega arith)
