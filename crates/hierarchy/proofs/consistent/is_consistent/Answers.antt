-- `hierarchy::consistent::is_consistent` meets its contract. Assumes nothing.
use Rattle.std.proofs.Common.{◌≡◌, sym, ap, ◌∙◌, ℕ, Bool, arith}
use Rattle.sets.specs.Sets.{has, below, every_in}
use Rattle.meaning.proofs.SheetLaws.{sound, n_le}
use Rattle.sheet.proofs.Past.{head_read}
use Rattle.hierarchy.proofs.ConsistentLaws.{consistent_not_below, consistent_rootless, below_lt_n, consistent-members}
use Rattle.hierarchy.proofs.consistent.is_consistent.Goals as goal
use Rattle.hierarchy.proofs.consistent.is_consistent.Goals.{then-not-within-via-then-not-within, then-not-within-via-else-not-within+then-not-has}

-- whether all modes of the set are below n
within_n : (n x : ℕ) (k y : ℕ) {r b : Bool} → r ≡ every_in 32 x (has y) → y ≡ below k → k ≡ n → r ≡ b → every_in 32 x (has (below n)) ≡ b
within_n n x k y e f g h = ap (λ (z : ℕ). every_in 32 x (has z)) (sym (f ∙ ap below g)) ∙ sym e ∙ h

pub mode_count-requires : goal.mode_count-requires
mode_count-requires c = head_read _ c.requires

pub below-requires : goal.below-requires
below-requires c = omega (arith, n_le _ (sound _ c.requires))

pub returns-then-not-within : goal.returns-then-not-within
returns-then-not-within c =
    elim c.then-not-within.branch [
      | then-not-within-via-then-not-within w ↦ consistent_not_below c.args.sheet.now c.requires c.args.x c.ranges.x.fits (within_n _ _ _ _ c.within.ensures c.below.ensures c.mode_count.ensures w.if-not-within.true)
      | then-not-within-via-else-not-within+then-not-has w ↦ consistent_rootless c.args.sheet.now c.requires c.args.x c.ranges.x.fits (sym w.has.ensures ∙ w.if-not-has.true)
    ]

pub children-children-requires : goal.children-children-requires
children-children-requires c = head_read _ c.requires

pub members_ok-requires : goal.members_ok-requires
members_ok-requires c =
    let all = within_n _ _ _ _ c.within.ensures c.below.ensures c.mode_count.ensures c.if-not-within.false in
    (c.requires, below_lt_n c.args.sheet.now c.requires c.args.x c.ranges.x.fits all, c.children-children.ensures)

pub returns : goal.returns
returns c =
    let all = within_n _ _ _ _ c.within.ensures c.below.ensures c.mode_count.ensures c.if-not-within.false in
    c.members_ok.ensures ∙ consistent-members c.args.sheet.now c.requires c.args.x c.ranges.x.fits all (sym c.has.ensures ∙ c.if-not-has.false)
