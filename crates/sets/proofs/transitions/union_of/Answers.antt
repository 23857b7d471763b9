-- `sets::transitions::union_of` meets its contract. Assumes nothing.
use Rattle.std.proofs.Common.{◌≡◌, sym, refl, ap, ◌∙◌, ℕ, get_or, arith}
use mathlib.Core.Bool.{◌||◌}
use Rattle.sets.specs.Sets.{has, some_in}
use Rattle.sets.proofs.Members.{step, fold_turn, fold_done}
use Rattle.sets.proofs.Membership.{has_none}
use Rattle.sets.proofs.Quantifiers.{has-union_over}
use Rattle.sets.proofs.transitions.union_of.Goals as goal

pub loop-m-init : goal.loop-m-init
loop-m-init c = let e : c.into_iter-m-iterator.result.rest ≡ c.args.set = cc in rw e (c.ranges.set.fits, refl)

pub offset_bounds-words-m : goal.offset_bounds-words-m
offset_bounds-words-m c = omega (arith, (step c.loop-m.invariant.0 c.in-Some.ensures.steps).lowest.small, c.requires)

pub bounds-words-m : goal.bounds-words-m
bounds-words-m c = omega (arith, (step c.loop-m.invariant.0 c.in-Some.ensures.steps).lowest.small, c.requires)

pub loop-m-preserved : goal.loop-m-preserved
loop-m-preserved c =
    let u = step c.loop-m.invariant.0 c.in-Some.ensures.steps in
    (u.fits, fold_turn _ _ u ∙ c.loop-m.invariant.1)

pub returns : goal.returns
returns c i =
    ap (λ (r : ℕ). has r i) (sym (fold_done _ _ 32 _ c.in-None.ensures.steps.0) ∙ c.loop-m.invariant.1)
    ∙ has-union_over (λ m. get_or c.args.words.now m 0) i 32 c.args.set 0
    ∙ ap (λ b. b || some_in 32 c.args.set (λ m. has (get_or c.args.words.now m 0) i)) (has_none i)
