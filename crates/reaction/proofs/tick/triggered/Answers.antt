-- `reaction::tick::triggered` meets its contract. Assumes nothing.
use Rattle.std.proofs.Common.{ℕ, ◌&&◌, List, ltb, sym, ap, ◌∙◌}
use lib.Bits.{or_zero_r}
use Rattle.sets.specs.Sets.{has, union, those}
use Rattle.sets.proofs.Membership.{those_same}
use Rattle.sets.proofs.Those.{those_none}
use Rattle.meaning.specs.Sheet.{source}
use Rattle.meaning.specs.Reaction.{alternative}
use Rattle.reaction.specs.Facts.{alternative_by}
use Rattle.reaction.specs.Rounds.{sets_of}
use Rattle.reaction.proofs.TermLaws.{alternative_by_lem}
use Rattle.reaction.proofs.tick.triggered.Goals as goal

pub returns-then-unsure-eq0 : goal.returns-then-unsure-eq0
returns-then-unsure-eq0 c =
    let a = c.args in
    sym (ap (union a.sure) (those_none 64 a.unsure _ c.if-unsure-eq0.true) ∙ or_zero_r a.sure)

pub returns : goal.returns
returns c =
    let a = c.args in
    let s = a.sheet.now in
    let z = sets_of a.begun a.z in
    ap (union a.sure)
    (c.judged.ensures
    ∙ ap (λ (f : List ℕ). those 64 a.unsure (λ t. has a.z.modes (source s t) && ltb 0 (alternative_by s f t))) c.facts-f.ensures
    ∙ those_same 64 a.unsure _ (λ t. has a.z.modes (source s t) && ltb 0 (alternative s a.input z t)) (λ t l m.
    ap (λ (n : ℕ). has a.z.modes (source s t) && ltb 0 n) (alternative_by_lem s a.input z c.ranges.input.fits t c.requires.0 (c.requires.1 t m).0)))
