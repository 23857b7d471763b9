-- `native::modechart_within` meets its contract: too few words, masks put, a refused sheet. Assumes nothing.
use Rattle.std.proofs.Common.{◌≡◌, length, refl, sym, ◌∙◌, arith, rules}
use lib.Seq.{length-take-le}
use Rattle.meaning.proofs.RefusalLaws.{number_not_0}
use Rattle.native.proofs.CallLaws.{within_nothing, within_answered, front_put}
use Rattle.native.proofs.modechart_within.Goals as goal

pub returns-then-masks-lt32 : goal.returns-then-masks-lt32
returns-then-masks-lt32 c = within_nothing c.args.sheet.now c.args.masks.now c.if-masks-lt32.true

pub copy_from_slice-requires : goal.copy_from_slice-requires
copy_from_slice-requires c =
    let e : length c.in-Ok.given ≡ 32 = search rules in
    length-take-le 32 c.args.masks.now (omega arith) ∙ sym e

pub returns-in-Ok : goal.returns-in-Ok
returns-in-Ok c =
    let e : length c.in-Ok.given ≡ 32 = search rules in
    within_answered c.args.sheet.now c.args.masks.now (omega arith) _ 0 _ c.in-Ok.ensures refl
    (λ _. front_put c.args.masks.now _ 32 e c.copy_from_slice.ensures.after) (λ z. absurd (z refl))

pub returns-in-Err : goal.returns-in-Err
returns-in-Err c =
    within_answered c.args.sheet.now c.args.masks.now (omega arith) _ c.from.result c.args.masks.now c.in-Err.ensures
    c.from.ensures (λ z. absurd (number_not_0 _ (sym c.from.ensures ∙ z))) (λ _. refl)
