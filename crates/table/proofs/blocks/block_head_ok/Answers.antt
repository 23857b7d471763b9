-- `table::blocks::block_head_ok` meets its contract: each way out knows which tests passed. Assumes nothing.
use Rattle.std.proofs.Common.{◌≡◌, sym, ap, ap₂, ◌∙◌, ℕ, ◌+◌, ◌*◌, ◌^◌, ◌≤◌, eqb, length, arith}
use borrow.Author.Tests.{eq-eqb, ne_eqb}
use Rattle.sets.specs.Sets.{minus, size}
use Rattle.sets.proofs.Tests.{is_false, of_false}
use Rattle.meaning.specs.Table.{mask_in, timers_in, cells_in}
use Rattle.meaning.proofs.Bounds.{cells-le}
use Rattle.table.proofs.Places.{head_of, block_room, timers_read}
use Rattle.table.proofs.BlockTests.{mask_test, timers_test, block_head_of, block_head_is, timers_test_lem}
use Rattle.table.proofs.blocks.block_head_ok.Goals as goal
use Rattle.table.proofs.blocks.block_head_ok.Goals.{After-block_length-size, After-timers_at-timers, After-mask_ok, After-cell_count, then-not-mask_ok-via-then-not-mask_ok, then-not-mask_ok-via-else-not-mask_ok+then-a-gt6, then-not-mask_ok-via-else-not-mask_ok+else-a-gt6+then-minus-ne0}

-- ---- what holds at several places

room : (c : After-block_length-size) → c.offset-at.result + c.block_length-size.result ≤ length c.args.table.now
room c = omega (arith, block_room c.args.table.now c.requires.1 c.args.b c.requires.3)

timers-are : (c : After-timers_at-timers) → c.timers_at-timers.result ≡ timers_in c.args.table.now c.args.b
timers-are c = timers_read _ _ c.offset-at.ensures c.timers_at-timers.ensures

size_is : (c : After-mask_ok) → c.size-a.result ≡ size 64 (timers_in c.args.table.now c.args.b)
size_is c = c.size-a.ensures ∙ ap (size 64) (timers-are (goal.at.After-mask_ok c).After-timers_at-timers)

mask_is : (c : After-mask_ok) → c.mask_ok.result ≡ mask_test c.args.table.now c.args.b
unfolding mask_in
mask_is c = rw (c.offset-at.ensures, timers-are (goal.at.After-mask_ok c).After-timers_at-timers) at c.mask_ok.ensures

-- no timer is left once those with a delay are taken away
rest_is : (c : After-mask_ok) (m : ℕ) → m ≡ minus c.timers_at-timers.result c.args.with_delay → eqb m 0 ≡ timers_test c.args.table.now c.args.b
rest_is c m e =
    timers_test_lem _ _ c.timers_at-timers.result _ m (omega arith) (timers-are (goal.at.After-mask_ok c).After-timers_at-timers) c.requires.2 e

count_is : (c : After-cell_count) → c.cell_count.result ≡ cells_in c.args.table.now c.args.b
unfolding cells_in
count_is c =
    c.cell_count.ensures ∙ ap₂ (λ (x k : ℕ). 2 ^ (x + k)) (size_is (goal.at.After-cell_count c).After-mask_ok) c.event_count.ensures

count_small : (c : After-cell_count) → c.cell_count.result ≤ 4096
count_small c = rw c.cell_count.ensures (cells-le _ _ (omega arith) (omega (arith, head_of _ c.requires.0)))

-- ---- the answers

pub returns-then-size-lt3 : goal.returns-then-size-lt3
returns-then-size-lt3 c = sym (is_false _ (λ h. omega (arith, (block_head_of _ _ h).length_is, c.block_length-size.ensures)))

pub timers_at-timers-requires : goal.timers_at-timers-requires
timers_at-timers-requires c = omega (arith, room (goal.at.timers_at-timers-requires c).After-block_length-size)

pub mask_ok-requires : goal.mask_ok-requires
mask_ok-requires c = omega (arith, room (goal.at.mask_ok-requires c).After-block_length-size)

pub returns-then-not-mask_ok : goal.returns-then-not-mask_ok
returns-then-not-mask_ok c =
    let at = (goal.at.returns-then-not-mask_ok c).After-mask_ok in
    sym (is_false _ (λ h.
    let r = block_head_of _ _ h in
    elim c.then-not-mask_ok.branch [
      | then-not-mask_ok-via-then-not-mask_ok w ↦ of_false (sym (mask_is at) ∙ w.if-not-mask_ok.true) r.mask
      | then-not-mask_ok-via-else-not-mask_ok+then-a-gt6 w ↦ omega (arith, r.few, size_is at)
      | then-not-mask_ok-via-else-not-mask_ok+else-a-gt6+then-minus-ne0 w ↦ of_false (sym (rest_is at _ w.minus.ensures) ∙ ne_eqb _ _ w.if-minus-ne0.true) r.timers
    ]))

pub cell_count-requires : goal.cell_count-requires
cell_count-requires c = (omega arith, omega (arith, head_of _ c.requires.0))

pub overflow_mul-result : goal.overflow_mul-result
overflow_mul-result c = omega (arith, count_small (goal.at.overflow_mul-result c).After-cell_count)

pub overflow_add-result : goal.overflow_add-result
overflow_add-result c = omega (arith, count_small (goal.at.overflow_add-result c).After-cell_count)

pub returns : goal.returns
returns c =
    let at = goal.at.returns c in
    ap₂ eqb c.block_length-size.ensures (ap (λ (i : ℕ). 3 + 6 * i) (count_is at.After-cell_count))
    ∙ sym
    (block_head_is c.args.table.now c.args.b
    (sym (mask_is at.After-mask_ok) ∙ c.if-not-mask_ok.false)
    (omega (arith, size_is at.After-mask_ok))
    (sym (rest_is at.After-mask_ok _ c.minus.ensures) ∙ eq-eqb _ _ c.if-minus-ne0.false))
