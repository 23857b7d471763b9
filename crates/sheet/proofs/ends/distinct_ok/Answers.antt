-- `sheet::ends::distinct_ok` meets its contract. Assumes nothing.
use Rattle.std.proofs.Common.{arith, refl, sym, ap, ◌∙◌, replicate}
use mathlib.Core.Bool.{not}
use lib.ListN.{length-set}
use Rattle.sets.proofs.Loops.{get_or_zeros, some_start, some_next, some_found, some_done}
use Rattle.meaning.specs.Check.{distinct_ok}
use Rattle.sheet.proofs.EndsLaws.{source_small, target_small, targets_start, targets_turn, targets_met}
use Rattle.sheet.proofs.ends.distinct_ok.Goals as goal

pub loop-t-init : goal.loop-t-init
loop-t-init c = (refl, some_start _, targets_start _ (replicate 32 0) (get_or_zeros 32))

pub offset_bounds-targets-a : goal.offset_bounds-targets-a
offset_bounds-targets-a c = omega (arith, source_small _ c.requires c.transition_count-t-end.ensures c.loop-t-test.true c.source-a.ensures)

pub bounds-targets-a : goal.bounds-targets-a
bounds-targets-a c = source_small _ c.requires c.transition_count-t-end.ensures c.loop-t-test.true c.source-a.ensures

pub has-requires : goal.has-requires
has-requires c = target_small _ c.requires c.transition_count-t-end.ensures c.loop-t-test.true c.target-b.ensures

pub returns-then-has : goal.returns-then-has
unfolding distinct_ok
returns-then-has c =
    let l = c.loop-t in
    let met = targets_met _ l.targets l.t _ _ c.source-a.ensures c.target-b.ensures l.invariant.2 in
    sym (ap not (some_found _ _ _ (omega arith) (sym (c.has.ensures ∙ met) ∙ c.if-has.true)))

pub single-requires : goal.single-requires
single-requires c = target_small _ c.requires c.transition_count-t-end.ensures c.loop-t-test.true c.target-b.ensures

pub offset_bounds-targets-a-in-loop-t : goal.offset_bounds-targets-a-in-loop-t
offset_bounds-targets-a-in-loop-t c = omega (arith, source_small _ c.requires c.transition_count-t-end.ensures c.loop-t-test.true c.source-a.ensures)

pub bounds-targets-a-in-loop-t : goal.bounds-targets-a-in-loop-t
bounds-targets-a-in-loop-t c = source_small _ c.requires c.transition_count-t-end.ensures c.loop-t-test.true c.source-a.ensures

pub bounds-targets-a-in-loop-t-2 : goal.bounds-targets-a-in-loop-t-2
bounds-targets-a-in-loop-t-2 c = source_small _ c.requires c.transition_count-t-end.ensures c.loop-t-test.true c.source-a.ensures

pub loop-t-preserved : goal.loop-t-preserved
loop-t-preserved c =
    let l = c.loop-t in
    let met = targets_met _ l.targets l.t _ _ c.source-a.ensures c.target-b.ensures l.invariant.2 in
    let room = source_small _ c.requires c.transition_count-t-end.ensures c.loop-t-test.true c.source-a.ensures in (
      simp length-set l.invariant.0,
      some_next _ l.t l.invariant.1 (sym (c.has.ensures ∙ met) ∙ c.if-has.false),
      targets_turn _ l.targets l.t _ _ _ c.source-a.ensures c.target-b.ensures (omega arith) c.single.ensures l.invariant.2,
    )

pub returns : goal.returns
unfolding distinct_ok
returns c = sym (ap not (some_done _ _ _ (omega arith) (omega arith) c.loop-t.invariant.1))
