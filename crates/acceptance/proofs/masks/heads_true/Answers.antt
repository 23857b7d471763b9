-- `acceptance::masks::heads_true` meets its contract. Assumes nothing.
use Rattle.std.proofs.Common.{◌<◌, sym, ◌∙◌, arith}
use Rattle.sets.proofs.Tests.{is_true, of_true}
use Rattle.sets.proofs.Loops.{every_fails, every_done}
use Rattle.meaning.specs.Table.{b_in}
use Rattle.meaning.specs.Faithful.{head_faithful}
use Rattle.acceptance.proofs.MaskLaws.{masks_length, noted_first}
use Rattle.acceptance.proofs.masks.heads_true.Goals as goal

pub loop-b-init : goal.loop-b-init
loop-b-init c = noted_first _ c.requires.0 c.requires.1 c.requires.2 c.requires.3

pub head_true-requires : goal.head_true-requires
head_true-requires c = (c.loop-b.invariant, omega (arith, masks_length c.loop-b.invariant))

pub returns-then-not-head_true : goal.returns-then-not-head_true
returns-then-not-head_true c =
    let p = head_faithful c.args.sheet.now c.args.table.now in
    let below : c.loop-b.b < b_in c.args.table.now = omega (arith, masks_length c.loop-b.invariant) in
    sym (every_fails p _ c.loop-b.b below (sym c.head_true.ensures.0 ∙ c.if-not-head_true.true))

pub loop-b-preserved : goal.loop-b-preserved
loop-b-preserved c = c.head_true.ensures.1 (of_true c.if-not-head_true.false)

pub returns : goal.returns
returns c =
    let n = c.loop-b.invariant in
    sym (every_done _ _ _ n.within (omega (arith, masks_length n)) (is_true _ n.heads))
