-- `rows::put_zeros` meets its contract. Assumes nothing.
use Rattle.std.proofs.Common.{◌≡◌, ℕ, ◌+◌, ◌-◌, ◌∙◌, ap, arith, List}
use borrow.Rule.Slice.PartMut.{put_mid}
use Rattle.rows.specs.Over.{zeros}
use Rattle.rows.proofs.OverLaws.{over_mid, part_length, zeros_length}
use Rattle.rows.proofs.put_zeros.Goals as goal

pub returns : goal.returns
unfolding zeros
returns c =
    let a = c.args in
    let row : c.fill.new.self ≡ zeros 64 = c.fill.ensures.after (λ y e. e) ∙ ap (λ (n : ℕ). zeros n) (part_length a.out.now a.at 64 c.requires) in
    ap (λ (v : List ℕ). put_mid a.at (a.at + 64 - a.at) a.out.now v) row ∙ over_mid a.out.now a.at _ (zeros 64) (omega (arith, zeros_length 64))
