-- `reaction::terms::is_judged` meets its contract. Assumes nothing.
use mathlib.Core.Path.{◌≡◌, refl, sym, ap, ◌∙◌}
use mathlib.Core.Bool.{Bool, not, ◌&&◌}
use Prim.Native.Nat.{ℕ, zero, suc}
use native.Mathlib.Omega.{arith}
use lib.Dec.{eqb, ltb}
use borrow.Author.Rules.{rules}
use borrow.Author.Tests.{lt-ltb, ne_eqb}
use Rattle.sets.specs.Sets.{has}
use Rattle.meaning.specs.Sheet.{source}
use Rattle.meaning.proofs.SheetLaws.{sound, n_le, source-lt}
use Rattle.sheet.proofs.Past.{record_read}
use Rattle.reaction.specs.Facts.{alternative_by}
use Rattle.reaction.proofs.terms.is_judged.Statement.{statement}
use Rattle.reaction.proofs.terms.is_judged.Tie as tie

source-requires : tie.Need-source-requires
source-requires c κs = record_read c.args.sheet.now c.requires.0 c.args.t c.requires.1

has-requires : tie.Need-has-requires
has-requires c κs =
    let b = c.before.before in
    let s = b.args.sheet.now in
    omega (arith, c.source.ensures, source-lt s (sound s b.requires.0) b.args.t b.requires.1, n_le s (sound s b.requires.0))

alternative-requires : tie.Need-alternative-requires
alternative-requires c κs = search rules

-- the source is in the mode set, as it was tested
on : (c : tie.After-has) → let b = c.before.before.before in c.has.result ≡ has b.args.modes (source b.args.sheet.now b.args.t)
on c = c.has.ensures ∙ ap (has c.args.modes) c.source.ensures

filled : (n : ℕ) → not (eqb n 0) ≡ ltb 0 n
filled zero = refl
filled (suc n) = ap not (ne_eqb (suc n) 0 (λ e. omega (arith, e))) ∙ sym (lt-ltb 0 (suc n) (omega arith))

returns : tie.Need-returns-then-has
returns c =
    let b = c.before.before.before.before.before in
    filled c.alternative.result
    ∙ ap (ltb 0) c.alternative.ensures
    ∙ ap (λ (o : Bool). o && ltb 0 (alternative_by b.args.sheet.now b.args.f.now b.args.t)) (sym c.if-has.true ∙ on c.before.before)

returns-2 : tie.Need-returns-else-has
returns-2 c =
    let b = c.before.before.before.before in
    c.if-has.false
    ∙ ap (λ (o : Bool). o && ltb 0 (alternative_by b.args.sheet.now b.args.f.now b.args.t)) (sym c.if-has.false ∙ on c.before)

pub is_judged_spec : {M : Type 1} → statement M
is_judged_spec =
    tie.close (tie.spec source-requires has-requires alternative-requires returns returns-2)
