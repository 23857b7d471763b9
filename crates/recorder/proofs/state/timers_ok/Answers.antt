-- `recorder::state::timers_ok` meets its contract: no block stands at B or above, and below it the readings decide. Assumes nothing.
use Rattle.std.proofs.Common.{List, ℕ, get_or, ap₂, ◌∙◌, arith}
use Rattle.sets.proofs.Tests.{of_true}
use Rattle.meaning.specs.Run.{readings_ok}
use Rattle.run.specs.States.{state_of}
use Rattle.table.proofs.Places.{timers_read}
use Rattle.recorder.proofs.BlockPlaceLaws.{head_ok, header_inside}
use Rattle.recorder.proofs.TableStateLaws.{state_outside, state_inside}
use Rattle.recorder.proofs.state.timers_ok.Goals as goal

pub block_count-requires : goal.block_count-requires
block_count-requires c = head_ok _ c.requires.0

pub returns-then-block_count-b : goal.returns-then-block_count-b
returns-then-block_count-b c =
    state_outside c.args.table.now (of_true c.requires.0) (state_of c.args.state) (omega (arith, c.block_count.ensures))

pub offset-at-requires : goal.offset-at-requires
offset-at-requires c = (head_ok _ c.requires.0, omega (arith, c.block_count.ensures))

pub timers_at-requires : goal.timers_at-requires
timers_at-requires c =
    omega (arith, c.offset-at.ensures, header_inside c.args.table.now (of_true c.requires.0) c.args.state.at (omega (arith, c.block_count.ensures)))

pub returns : goal.returns
returns c =
    let w = c.args.table.now in
    let q = state_of c.args.state in
    c.readings_ok.ensures
    ∙ ap₂ (λ (y : ℕ) (d : List ℕ). readings_ok y (λ t. get_or d t 0) q.readings)
    (timers_read w q.at c.offset-at.ensures c.timers_at.ensures) c.requires.1
    ∙ state_inside w (of_true c.requires.0) q (omega (arith, c.block_count.ensures))
