-- `reaction::tick::round_of` meets its contract: where no two are in conflict all are eligible. Assumes nothing.
use Rattle.std.proofs.Common.{ℕ, sym, ap, ◌∙◌}
use Rattle.sets.specs.Sets.{meets}
use Rattle.reaction.proofs.RoundLaws.{eligible_small}
use Rattle.reaction.proofs.NextLaws.{clear_eligible}
use Rattle.reaction.proofs.tick.round_of.Goals as goal

pub returns-then-not-meets : goal.returns-then-not-meets
returns-then-not-meets c =
    let a = c.args in
    let m = c.moves_of-all.ensures in
    let clear = ap (λ (x : ℕ). meets x a.ts) (sym m.clashes) ∙ sym c.meets.ensures ∙ c.if-not-meets.true in
    record {
      chosen = sym (clear_eligible a.sheet.now c.requires.0.passes a.ts c.requires.1 clear).0;
      moves = m;
    }

pub moves_of-moves-requires : goal.moves_of-moves-requires
moves_of-moves-requires c = (c.requires.0, rw c.eligible-es.ensures (eligible_small c.args.sheet.now c.args.ts))
