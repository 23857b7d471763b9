-- `recorder::timers::put_block_timers` meets its contract. Assumes nothing.
use Rattle.std.proofs.Common.{◌≡◌, ◌<◌, ◌+◌, ℕ, get_or, slice_set, sym, subst, arith}
use Rattle.sets.proofs.Tests.{of_true}
use Rattle.meaning.specs.Table.{timers_in}
use Rattle.run.proofs.ArrayLaws.{words_turn}
use Rattle.table.proofs.Places.{timers_read}
use Rattle.recorder.proofs.BlockPlaceLaws.{head_ok, header_inside}
use Rattle.recorder.proofs.timers.put_block_timers.Goals as goal

pub block_count-b-end-requires : goal.block_count-b-end-requires
block_count-b-end-requires c = head_ok _ c.requires.0

pub offset-requires : goal.offset-requires
offset-requires c = (head_ok _ c.requires.0, omega arith)

pub timers_at-requires : goal.timers_at-requires
timers_at-requires c = omega (arith, header_inside _ (of_true c.requires.0) c.loop-b.b (omega arith))

pub loop-b-preserved : goal.loop-b-preserved
loop-b-preserved c =
    let l = c.loop-b in
    let w = c.args.table.now in
    subst (λ (x : ℕ). (j : ℕ) → j < l.b + 1 → get_or (slice_set l.timers l.b x) j 0 ≡ timers_in w j) (sym (timers_read w l.b c.offset.ensures c.timers_at.ensures))
    (words_turn l.timers (timers_in w) l.b (omega arith) l.invariant)
