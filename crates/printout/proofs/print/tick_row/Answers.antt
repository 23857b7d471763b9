-- `printout::print::tick_row` meets its contract. Assumes nothing.
use Rattle.std.proofs.Common.{◌≡◌, ◌∷◌, ◌+◌, ◌-◌, ◌*◌, ℕ, List, ap, ◌∙◌, arith}
use mathlib.Core.List.{append-nil}
use Rattle.printout.specs.Answers.{tick_row}
use Rattle.printout.proofs.print.tick_row.Goals as goal

pub returns : goal.returns
unfolding tick_row
returns c =
    let i = c.args.i in
    let five : 5 * i + 5 - 5 * i ≡ 5 = omega arith in
    ap (λ (words : List ℕ). i ∷ words) (append-nil _ ∙ rw five at c.copy_from_slice.ensures.after)
