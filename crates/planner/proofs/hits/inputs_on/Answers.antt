-- `planner::hits::inputs_on` meets its contract. Assumes nothing.
use Rattle.std.proofs.Common.{◌≡◌, ◌+◌, ◌*◌, ◌<◌, get_or, sym, ◌∙◌, arith}
use Rattle.meaning.specs.Sheet.{term_count, term_kind, term_value}
use Rattle.sheet.proofs.Past.{pair_read, record_read}
use Rattle.reaction.proofs.TermLaws.{kind_word, value_word, terms_room, event_asks}
use Rattle.planner.proofs.HitLaws.{judged_start, judged_or, judged_term, judged_end}
use Rattle.planner.proofs.hits.inputs_on.Goals as goal
use Rattle.planner.proofs.hits.inputs_on.Goals.{then-kind, else-kind}

pub offset-at-requires : goal.offset-at-requires
offset-at-requires c = pair_read _ c.requires.0 _ c.requires.1

pub overflow_add-at : goal.overflow_add-at
overflow_add-at c = omega (arith, c.offset-at.ensures, terms_room (record_read _ c.requires.0 _ c.requires.1))

pub term_count-j-end-requires : goal.term_count-j-end-requires
term_count-j-end-requires c = record_read _ c.requires.0 _ c.requires.1

pub loop-j-init : goal.loop-j-init
loop-j-init c =
    (omega (arith, c.offset-at.ensures, terms_room (record_read _ c.requires.0 _ c.requires.1)), judged_start c.args.sheet.now c.args.t c.requires.0 c.requires.1)

pub on_term-held-requires : goal.on_term-held-requires
on_term-held-requires c =
    let s = c.args.sheet.now in
    let t = c.args.t in
    let j = c.loop-j.j in
    event_asks s c.requires.0 t j c.requires.1 (omega arith) c.requires.2 _ _ (kind_word s t _ j c.offset-at.ensures)
    (c.wide.ensures ∙ value_word s t _ j c.offset-at.ensures) c.if-kind.false

pub loop-j-preserved : goal.loop-j-preserved
loop-j-preserved c =
    let s = c.args.sheet.now in
    let t = c.args.t in
    let l = c.loop-j in
    let small : l.j < term_count s t = omega arith in
    let kind : get_or s (c.offset-at.result + 2 + 2 * l.j) 0 ≡ term_kind s t l.j = kind_word s t _ l.j c.offset-at.ensures in
    let value : get_or s (c.offset-at.result + 2 + 2 * l.j + 1) 0 ≡ term_value s t l.j = value_word s t _ l.j c.offset-at.ensures in (
      l.invariant.0,
      elim c.if-kind.branch [
        | then-kind w ↦ judged_or s t l.invariant.1 small (sym kind ∙ w.if-kind.true) w.found-is w.held-is
        | else-kind w ↦ judged_term s t l.invariant.1 small kind (w.wide.ensures ∙ value) w.if-kind.false w.on_term-held.ensures w.found-is w.held-is
      ],
    )

pub returns : goal.returns
returns c = judged_end c.args.sheet.now c.args.t c.loop-j.invariant.1 (omega arith)
