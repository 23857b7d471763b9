-- `run::deadlines::soon_with` meets its contract: where the set is empty, no timer starts. Assumes nothing.
use mathlib.Core.Path.{◌≡◌, ap, ◌∙◌}
use Prim.Native.Nat.{ℕ}
use native.Mathlib.Omega.{arith}
use Rattle.sets.specs.Sets.{has}
use Rattle.sets.proofs.Tests.{of_true, of_false}
use Rattle.sets.proofs.Membership.{has_none}
use Rattle.run.proofs.deadlines.soon_with.Goals as goal

pub returns : goal.returns
returns c =
    let none : c.args.started ≡ 0 = omega arith in
    (omega arith, λ t h. absurd (of_false (ap (λ (x : ℕ). has x t) none ∙ has_none t) (of_true h)))
