-- `reaction::why::reason` meets its contract. Assumes nothing.
use Rattle.std.proofs.Common.{ℕ, sym, ap₂, ◌∙◌, arith}
use Rattle.sets.specs.Sets.{has, union}
use Rattle.meaning.proofs.SheetLaws.{sound, n_le, source-lt}
use Rattle.sheet.proofs.Past.{record_read}
use Rattle.reaction.specs.Rounds.{tick_of}
use Rattle.reaction.proofs.ReasonLaws.{reason_off, reason_on}
use Rattle.reaction.proofs.why.reason.Goals as goal

pub source-requires : goal.source-requires
source-requires c = record_read _ c.requires.0.passes _ c.requires.4

pub has-requires : goal.has-requires
has-requires c =
    let s = c.args.sheet.now in
    omega (arith, c.source.ensures, source-lt s (sound s c.requires.0.passes) c.args.t c.requires.4, n_le s (sound s c.requires.0.passes))

pub returns-then-not-has : goal.returns-then-not-has
returns-then-not-has c =
    let a = c.args in
    let on = sym (c.has.ensures ∙ ap₂ (λ (x m : ℕ). has (union a.b.begun x) m) c.low.ensures c.source.ensures) in
    reason_off a.sheet.now (tick_of a.b.begun a.o) _ _ _ a.t (on ∙ c.if-not-has.true)

pub returns : goal.returns
returns c =
    let a = c.args in
    let on = sym (c.has.ensures ∙ ap₂ (λ (x m : ℕ). has (union a.b.begun x) m) c.low.ensures c.source.ensures) in
    reason_on a.sheet.now (tick_of a.b.begun a.o) _ _ _ a.t (on ∙ c.if-not-has.false) c.rounds_report.ensures
