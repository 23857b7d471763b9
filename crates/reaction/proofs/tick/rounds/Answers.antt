-- `reaction::tick::rounds` meets its contract. Assumes nothing.
use Rattle.std.proofs.Common.{sym, ◌∙◌, arith}
use Rattle.sets.proofs.Tests.{is_true, of_true}
use Rattle.sets.proofs.Facts.{meet_e}
use Rattle.meaning.proofs.SheetLaws.{sound, t_le}
use Rattle.reaction.specs.Rounds.{sets_of}
use Rattle.reaction.proofs.RoundLaws.{triggered_small}
use Rattle.reaction.proofs.TriggerLaws.{mixed_asks}
use Rattle.reaction.proofs.RoundLoop.{left_start, left_none, round_still, round_ambiguous, round_restless, round_by}
use Rattle.reaction.proofs.tick.rounds.Goals as goal

pub transition_count-most-requires : goal.transition_count-most-requires
transition_count-most-requires c = (sound _ c.requires.0.passes).head

pub loop-z-init : goal.loop-z-init
loop-z-init c =
    let a = c.args in
    left_start a.sheet.now a.begun a.entered a.first a.input c.ranges.entered.fits c.requires.1

pub returns-then-ts-eq0 : goal.returns-then-ts-eq0
returns-then-ts-eq0 c = round_still c.loop-z.invariant (omega arith) c.if-ts-eq0.true c.ended.ensures

pub round_of-round-requires : goal.round_of-round-requires
round_of-round-requires c =
    let a = c.args in
    let l = c.loop-z in
    (c.requires.0, rw l.invariant.triggers (triggered_small a.sheet.now l.invariant.due a.input (sets_of a.begun l.z)))

pub returns-then-meets : goal.returns-then-meets
returns-then-meets c =
    round_ambiguous c.loop-z.invariant (omega arith) c.requires.0.passes c.if-ts-eq0.false c.round_of-round.ensures (sym c.meets.ensures ∙ c.if-meets.true)
    c.ended-then-meets.ensures

pub returns-then-meets-2 : goal.returns-then-meets-2
returns-then-meets-2 c =
    round_restless c.loop-z.invariant (omega arith) c.requires.0.passes c.if-ts-eq0.false c.round_of-round.ensures (sym c.meets.ensures ∙ c.if-meets.false)
    (sym c.meets-in-loop-z.ensures ∙ c.if-meets-2.true) c.ended-then-meets-2.ensures

pub triggered-ts-requires : goal.triggered-ts-requires
triggered-ts-requires c =
    (c.requires.0.passes, λ t m. mixed_asks c.args.sheet.now t c.requires.0.judged_at (is_true _ (meet_e c.round_of-round.result.moves.next _ t (of_true m)).1))

pub overflow_add-r : goal.overflow_add-r
overflow_add-r c = omega (arith, c.wide.ensures, t_le _ (sound _ c.requires.0.passes))

pub loop-z-preserved : goal.loop-z-preserved
loop-z-preserved c =
    round_by c.loop-z.invariant (omega arith) c.requires.0.passes c.if-ts-eq0.false c.round_of-round.ensures (sym c.meets.ensures ∙ c.if-meets.false)
    (sym c.meets-in-loop-z.ensures ∙ c.if-meets-2.false) c.requires.2 c.hits-hits.ensures c.requires.0.judged_at c.after_round-z.ensures c.triggered-ts.ensures

pub returns : goal.returns
returns c =
    let a = c.args in
    left_none a.sheet.now a.begun a.entered a.first a.input c.loop-z.invariant (omega (arith, c.wide.ensures)) c.ended-2.ensures
