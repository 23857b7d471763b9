-- `reaction::alternatives::put_numbers` meets its contract. Assumes nothing.
use Rattle.std.proofs.Common.{◌≡◌, ◌+◌, ◌-◌, ap, ◌∙◌, rules, arith}
use Rattle.sets.specs.Sets.{minus}
use Rattle.sets.proofs.Tests.{is_true, of_true}
use Rattle.sets.proofs.Facts.{meet_e}
use Rattle.meaning.specs.Tick.{Tick}
use Rattle.reaction.proofs.RowLaws.{row-length}
use Rattle.reaction.proofs.TriggerLaws.{mixed_asks}
use Rattle.reaction.proofs.RoundsLeft.{left_small}
use Rattle.reaction.proofs.FiredLoop.{numbered_start, numbered_none, round_asks, round_laid, round_next, last_asks, last_laid}
use Rattle.reaction.proofs.alternatives.put_numbers.Goals as goal

pub loop-init : goal.loop-init
loop-init c =
    let a = c.args in (
      numbered_start a.sheet.now a.b.begun a.b.entered a.first a.input (search rules) c.requires.1,
      numbered_none a.sheet.now a.b.begun a.b.entered a.first a.input a.numbers.now a.at c.put_zeros.ensures,
    )

pub round_of-round-requires : goal.round_of-round-requires
round_of-round-requires c = (c.requires.0, left_small c.loop.invariant.0.left)

pub put_causes-requires : goal.put_causes-requires
put_causes-requires c =
    let a = c.args in (
      c.requires.0.passes,
      round_asks c.loop.invariant.0 (omega (arith, ap (λ (t : Tick). t.rounds) c.requires.3)) c.round_of-round.ensures,
      omega (arith, c.requires.4, row-length a.numbers.now a.at 64 _ c.requires.4 c.loop.invariant.1),
    )

pub triggered-ts-requires : goal.triggered-ts-requires
triggered-ts-requires c =
    (c.requires.0.passes, λ t m. mixed_asks c.args.sheet.now t c.requires.0.judged_at (is_true _ (meet_e c.round_of-round.result.moves.next _ t (of_true m)).1))

pub loop-preserved : goal.loop-preserved
loop-preserved c =
    let a = c.args in
    let l = c.loop in
    let i : l.counter - 1 + 1 ≡ l.counter + 1 - 1 = omega arith in (
      rw i at
          (round_next l.invariant.0 (omega (arith, ap (λ (t : Tick). t.rounds) c.requires.3)) c.round_of-round.ensures c.requires.0.passes c.requires.2
          c.hits-hits.ensures c.requires.0.judged_at c.after_round-z.ensures c.triggered-ts.ensures),
      round_laid l.invariant.0 (omega (arith, ap (λ (t : Tick). t.rounds) c.requires.3)) c.round_of-round.ensures c.after_round-z.ensures a.numbers.now a.at
          c.requires.4 l.invariant.1 c.put_causes.ensures,
    )

pub put_causes-requires-2 : goal.put_causes-requires-2
put_causes-requires-2 c =
    let a = c.args in
    let l = c.loop in (
      c.requires.0.passes,
      last_asks l.invariant.0 (omega (arith, ap (λ (t : Tick). t.rounds) c.requires.3))
          (c.minus-last.ensures ∙ ap (λ (t : Tick). minus t.sets.taken l.z.taken) c.requires.3),
      omega (arith, c.requires.4, row-length a.numbers.now a.at 64 _ c.requires.4 l.invariant.1),
    )

pub returns : goal.returns
returns c =
    let a = c.args in
    let l = c.loop in
    last_laid l.invariant.0 (omega (arith, ap (λ (t : Tick). t.rounds) c.requires.3))
    (c.minus-last.ensures ∙ ap (λ (t : Tick). minus t.sets.taken l.z.taken) c.requires.3) a.numbers.now a.at c.requires.4 l.invariant.1 c.put_causes-2.ensures
