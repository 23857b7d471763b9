-- `recorder::state::state_ok` meets its contract: the timers decide first, then the ages by the block's mask. Assumes nothing.
use Rattle.std.proofs.Common.{◌≡◌, List, ℕ, Bool, true, ◌&&◌, ◌+◌, ◌≤◌, length, sym, ap, ◌∙◌, arith}
use Rattle.sets.proofs.Tests.{of_true}
use Rattle.meaning.specs.Ages.{ages_ok}
use Rattle.meaning.specs.Run.{State}
use Rattle.meaning.specs.Table.{mask_in, offset_in, table_ok}
use Rattle.meaning.specs.TableRun.{table_timers_ok, table_state_ok}
use Rattle.run.specs.States.{state_of}
use Rattle.table.proofs.Places.{mask_read}
use Rattle.recorder.proofs.BlockPlaceLaws.{head_ok, header_inside}
use Rattle.recorder.proofs.TableStateLaws.{block_there}
use Rattle.recorder.proofs.state.state_ok.Goals as goal

-- the mask of the block of a state with sound timers lies in the table
inside : (w : List ℕ) → table_ok w ≡ true → (q : State) {r : Bool} → r ≡ table_timers_ok w q → r ≡ true → offset_in w q.at + 3 ≤ length w
inside w h q e r = header_inside w (of_true h) q.at (block_there w (of_true h) q (sym e ∙ r))

pub returns-then-not-timers_ok : goal.returns-then-not-timers_ok
unfolding table_state_ok
returns-then-not-timers_ok c = sym (rw (← c.timers_ok.ensures, c.if-not-timers_ok.true))

pub offset-at-requires : goal.offset-at-requires
offset-at-requires c =
    (head_ok _ c.requires.0, block_there c.args.table.now (of_true c.requires.0) (state_of c.args.state) (sym c.timers_ok.ensures ∙ c.if-not-timers_ok.false))

pub offset_bounds-table-at : goal.offset_bounds-table-at
offset_bounds-table-at c =
    omega (arith, c.offset-at.ensures, inside c.args.table.now c.requires.0 (state_of c.args.state) c.timers_ok.ensures c.if-not-timers_ok.false)

pub bounds-table-at : goal.bounds-table-at
bounds-table-at c =
    omega (arith, c.offset-at.ensures, inside c.args.table.now c.requires.0 (state_of c.args.state) c.timers_ok.ensures c.if-not-timers_ok.false)

pub returns : goal.returns
unfolding table_state_ok
returns c =
    let a = c.args in
    c.ages_ok.ensures ∙ ap (λ (m : ℕ). ages_ok m a.state.ages) (mask_read a.table.now a.state.at c.offset-at.ensures)
    ∙ ap (λ (b : Bool). b && ages_ok (mask_in a.table.now a.state.at) a.state.ages) (sym (sym c.timers_ok.ensures ∙ c.if-not-timers_ok.false))
