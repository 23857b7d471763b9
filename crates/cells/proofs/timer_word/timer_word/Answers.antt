-- `cells::timer_word::timer_word` meets its contract. Assumes nothing.
use Rattle.std.proofs.Common.{ℕ, ◌+◌, ◌*◌, ap, ◌∙◌, arith}
use Rattle.sheet.proofs.Past.{record_read}
use Rattle.cells.proofs.TimerWordLaws.{transitions_few, timer_none, timer_some, delay_word_small, source_small}
use Rattle.cells.proofs.timer_word.timer_word.Goals as goal

pub offset_bounds-plan-t : goal.offset_bounds-plan-t
offset_bounds-plan-t c = omega (arith, c.requires.1, transitions_few c.requires.0)

pub bounds-plan-t : goal.bounds-plan-t
bounds-plan-t c = omega (arith, c.requires.1, transitions_few c.requires.0)

pub returns-then-d-eq0 : goal.returns-then-d-eq0
returns-then-d-eq0 c = timer_none c.requires.0 c.args.t c.requires.1 c.low-d.ensures c.if-d-eq0.true

pub source-requires : goal.source-requires
source-requires c = record_read c.args.sheet.now c.requires.0.passes c.args.t c.requires.1

pub overflow_cast-result : goal.overflow_cast-result
overflow_cast-result c = record { fits = omega (arith, c.source.ensures, source_small c.requires.0 c.args.t c.requires.1) }

pub overflow_mul-result : goal.overflow_mul-result
overflow_mul-result c = record { fits = omega (arith, c.source.ensures, source_small c.requires.0 c.args.t c.requires.1) }

pub overflow_add-result : goal.overflow_add-result
overflow_add-result c =
    record {
      fits = omega (
        arith,
        c.source.ensures,
        source_small c.requires.0 c.args.t c.requires.1,
        delay_word_small c.requires.0 c.args.t c.requires.1 c.low-d.ensures,
      );
    }

pub returns : goal.returns
returns c =
    ap (λ (y : ℕ). y * 65536 + c.low-d.result) c.source.ensures
    ∙ timer_some c.requires.0 c.args.t c.requires.1 c.low-d.ensures c.if-d-eq0.false
