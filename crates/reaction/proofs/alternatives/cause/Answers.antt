-- `reaction::alternatives::cause` meets its contract. Assumes nothing.
use Rattle.std.proofs.Common.{sym, ◌∙◌, arith}
use Rattle.sheet.proofs.Past.{record_read}
use Rattle.reaction.proofs.CauseLaws.{cause_by-delay, cause_by_terms, cause_by_one, alternative_by_byte}
use Rattle.reaction.proofs.alternatives.cause.Goals as goal

pub returns-then-is_delay : goal.returns-then-is_delay
returns-then-is_delay c = sym (cause_by-delay _ _ _ (sym c.is_delay.ensures ∙ c.if-is_delay.true))

pub term_count-requires : goal.term_count-requires
term_count-requires c = record_read _ c.requires.0 _ c.requires.1

pub returns-then-term_count-eq1 : goal.returns-then-term_count-eq1
returns-then-term_count-eq1 c =
    let p = c.requires in
    sym (cause_by_one _ p.0 _ p.1 _ (sym c.is_delay.ensures ∙ c.if-is_delay.false) (sym c.term_count.ensures ∙ c.if-term_count-eq1.true) p.2)

pub overflow_cast-result : goal.overflow_cast-result
overflow_cast-result c = omega (arith, c.alternative.ensures, alternative_by_byte _ c.requires.0 _ c.requires.1 c.args.f.now)

pub returns : goal.returns
returns c = c.alternative.ensures ∙ sym (cause_by_terms _ _ _ (sym c.is_delay.ensures ∙ c.if-is_delay.false))
