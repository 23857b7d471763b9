-- `planner::hits::put_hits` meets its contract. Assumes nothing.
use Rattle.std.proofs.Common.{◌≡◌, ◌≤◌, ◌∙◌, arith}
use Rattle.sets.specs.Sets.{has}
use Rattle.sets.proofs.Tests.{is_true, of_true}
use Rattle.sets.proofs.Members.{step}
use Rattle.sets.proofs.Those.{subset_turn}
use Rattle.meaning.proofs.SheetLaws.{sound, k_le}
use Rattle.sheet.proofs.Past.{head_read}
use Rattle.planner.proofs.HitLaws.{sure_e, inputs_le, inputs_count, hits_start, hits_turn, hits_done}
use Rattle.planner.proofs.hits.put_hits.Goals as goal

pub event_count-requires : goal.event_count-requires
event_count-requires c = head_read _ c.requires.0

pub overflow_shl-event_count : goal.overflow_shl-event_count
overflow_shl-event_count c = omega (arith, k_le _ (sound _ c.requires.0))

pub loop-t-init : goal.loop-t-init
loop-t-init c =
    let s = c.args.sheet.now in
    let n = c.wide-count.ensures ∙ inputs_count s c.requires.0 c.event_count.ensures in
    let few : c.wide-count.result ≤ 64 = omega (arith, n, inputs_le s c.requires.0) in
    let e : c.into_iter-t-iterator.result.rest ≡ c.args.certain = cc in
    rw e (c.ranges.certain.fits, λ i h. h, n, few, hits_start s c.wide-count.result c.args.certain few c.requires.2)

pub inputs_of-requires : goal.inputs_of-requires
inputs_of-requires c =
    let l = c.loop-t in
    let t = c.in-Some.t in
    let u = step l.invariant.0 c.in-Some.ensures.steps in
    let e = sure_e c.args.sheet.now t c.requires.1 (is_true (has c.args.certain t) (l.invariant.1 t (of_true u.lowest.member))) in
    (c.requires.0, e.0, e.1)

pub put_hit-requires : goal.put_hit-requires
put_hit-requires c = (c.loop-t.invariant.3, (step c.loop-t.invariant.0 c.in-Some.ensures.steps).lowest.small)

pub loop-t-preserved : goal.loop-t-preserved
loop-t-preserved c =
    let l = c.loop-t in
    let u = step l.invariant.0 c.in-Some.ensures.steps in (
      u.fits,
      subset_turn _ u l.invariant.1,
      l.invariant.2,
      l.invariant.3,
      hits_turn c.args.sheet.now l.hits _ _ c.args.certain l.invariant.3 u l.invariant.1 l.invariant.4 c.inputs_of.ensures c.put_hit.ensures,
    )

pub returns : goal.returns
returns c =
    let l = c.loop-t in
    hits_done c.args.sheet.now c.requires.0 l.hits l.invariant.2 c.requires.1 c.in-None.ensures.steps.0 l.invariant.4
