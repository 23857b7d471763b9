-- `reaction::terms::alternative` meets its contract. Assumes nothing.
use Rattle.std.proofs.Common.{◌≡◌, sym, ap₂, ◌∙◌, arith}
use native.Mathlib.Nat.{sub-zero}
use Rattle.meaning.specs.Sheet.{term_kind}
use Rattle.sheet.proofs.Past.{pair_read, record_read}
use Rattle.reaction.specs.Facts.{holds_by, alternative_by}
use Rattle.reaction.proofs.TermLaws.{kind_word, value_word, count_le, terms_room, term_asks, or_found, or_next, term_next, terms_end}
use Rattle.reaction.proofs.terms.alternative.Goals as goal
use Rattle.reaction.proofs.terms.alternative.Goals.{then-kind+else-ok, else-kind}

pub offset-at-requires : goal.offset-at-requires
offset-at-requires c = pair_read _ c.requires.0 _ c.requires.1

pub overflow_add-at : goal.overflow_add-at
overflow_add-at c = omega (arith, c.offset-at.ensures, terms_room (record_read _ c.requires.0 _ c.requires.1))

pub term_count-j-end-requires : goal.term_count-j-end-requires
term_count-j-end-requires c = record_read _ c.requires.0 _ c.requires.1

pub loop-j-init : goal.loop-j-init
unfolding alternative_by
loop-j-init c =
    let r = record_read _ c.requires.0 _ c.requires.1 in
    (omega (arith, c.offset-at.ensures, terms_room r), omega (arith, count_le r), omega arith, rw (sub-zero, c.term_count-j-end.ensures))

pub returns-then-ok : goal.returns-then-ok
returns-then-ok c =
    let a = c.args in
    let l = c.loop-j in
    sym (or_found a.sheet.now a.f.now a.t _ l.j l.a l.ok c.loop-j-test.true
    (sym (c.wide-kind.ensures ∙ kind_word a.sheet.now a.t _ l.j c.offset-at.ensures) ∙ c.if-kind.true) c.if-ok.true)
    ∙ l.invariant.3

pub holds-ok-requires : goal.holds-ok-requires
holds-ok-requires c =
    let a = c.args in
    let j = c.loop-j.j in
    term_asks a.sheet.now c.requires.0 a.t j c.requires.1 (omega arith) c.requires.2 _ _
    (c.wide-kind.ensures ∙ kind_word a.sheet.now a.t _ j c.offset-at.ensures) (value_word a.sheet.now a.t _ j c.offset-at.ensures) c.if-kind.false

pub loop-j-preserved : goal.loop-j-preserved
loop-j-preserved c =
    let s = c.args.sheet.now in
    let f = c.args.f.now in
    let t = c.args.t in
    let l = c.loop-j in
    let k : c.wide-kind.result ≡ term_kind s t l.j = c.wide-kind.ensures ∙ kind_word s t _ l.j c.offset-at.ensures in
    let v = value_word s t _ l.j c.offset-at.ensures in
    elim c.if-kind.branch [
      | then-kind+else-ok w ↦ (
        l.invariant.0,
        l.invariant.1,
        omega arith,
        rw (w.a-is, w.ok-is) (or_next s f t _ l.j l.a l.ok c.loop-j-test.true (sym k ∙ w.if-kind.true) w.if-ok.false ∙ l.invariant.3),
      )
      | else-kind w ↦ (
        l.invariant.0,
        l.invariant.1,
        omega arith,
        rw (w.a-is, w.ok-is)
            (term_next s f t _ l.j l.a l.ok w.holds-ok.result c.loop-j-test.true (λ e. w.if-kind.false (k ∙ e)) (w.holds-ok.ensures ∙ ap₂ (holds_by f) k v)
            ∙ l.invariant.3),
      )
    ]

pub returns-then-ok-2 : goal.returns-then-ok-2
returns-then-ok-2 c =
    let l = c.loop-j in
    sym (terms_end _ _ _ _ l.j l.a l.ok c.loop-j-test.false ∙ rw c.if-ok-2.true) ∙ l.invariant.3

pub returns-else-ok-2 : goal.returns-else-ok-2
returns-else-ok-2 c =
    let l = c.loop-j in
    sym (terms_end _ _ _ _ l.j l.a l.ok c.loop-j-test.false ∙ rw c.if-ok-2.false) ∙ l.invariant.3
