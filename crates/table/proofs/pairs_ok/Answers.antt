-- `table::pairs_ok` meets its contract. Assumes nothing.
use Rattle.std.proofs.Common.{◌≡◌, ◌+◌, ◌*◌, arith, sym, ◌∙◌}
use borrow.Author.Tests.{eq-eqb, ne_eqb}
use Rattle.sets.proofs.Loops.{every_start, every_next, every_fails, every_done}
use Rattle.meaning.specs.Table.{word_in, t_in, b_in, offset_in, length_in}
use Rattle.table.specs.Parts.{table_pairs_ok}
use Rattle.table.proofs.Places.{begins, head_of, end_first, end_after}
use Rattle.table.proofs.pairs_ok.Goals as goal

pub overflow_add-end : goal.overflow_add-end
overflow_add-end c = omega (arith, head_of _ c.requires)

pub overflow_mul-end : goal.overflow_mul-end
overflow_mul-end c = omega (arith, head_of _ c.requires)

pub overflow_add-end-2 : goal.overflow_add-end-2
overflow_add-end-2 c = omega (arith, head_of _ c.requires)

-- the table's words fit 32 bits, and so do an offset and a length
pub overflow_add-end-in-loop-b : goal.overflow_add-end-in-loop-b
unfolding offset_in length_in word_in
overflow_add-end-in-loop-b c =
    let w = c.args.table.now in
    omega (arith, c.type_inv.table (4 + t_in w + 2 * c.loop-b.b), c.type_inv.table (5 + t_in w + 2 * c.loop-b.b))

pub loop-b-init : goal.loop-b-init
loop-b-init c = (omega (arith, end_first c.args.table.now), every_start _)

pub returns-then-offset-end : goal.returns-then-offset-end
unfolding table_pairs_ok
returns-then-offset-end c =
    let l = c.loop-b in
    let w = c.args.table.now in
    rw (every_fails (begins w) (b_in w) l.b (omega arith) (ne_eqb _ _ (λ e. c.if-offset-end.true (c.offset.ensures ∙ e ∙ sym l.invariant.0))))

pub loop-b-preserved : goal.loop-b-preserved
loop-b-preserved c =
    let l = c.loop-b in
    let w = c.args.table.now in
    (omega (arith, end_after w l.b), every_next (begins w) l.b l.invariant.1 (eq-eqb _ _ (sym c.offset.ensures ∙ c.if-offset-end.false ∙ l.invariant.0)))

pub returns : goal.returns
unfolding table_pairs_ok
returns c =
    let l = c.loop-b in
    let w = c.args.table.now in
    let e : l.b ≡ b_in w = omega arith in
    rw (every_done (begins w) (b_in w) l.b (omega arith) (omega arith) l.invariant.1, l.invariant.0, e)
