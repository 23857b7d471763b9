-- `simulator::sheet_run::run` meets its contract: each way out is a case of `sheet_run`, in its order. Assumes nothing.
use mathlib.Core.Path.{◌≡◌, refl, sym, ◌∙◌}
use mathlib.Core.Bool.{true, ◌||◌}
use mathlib.Core.List.{List}
use Prim.Native.Nat.{ℕ, ◌*◌, ◌≤◌}
use native.Mathlib.Omega.{arith}
use native.Mathlib.Decide.{dec_le}
use lib.ListN.{length}
use Rattle.meaning.proofs.RefusalLaws.{number_not_0}
use Rattle.meaning.specs.Alternatives.{numbers_short}
use Rattle.meaning.specs.Run.{output_short}
use Rattle.meaning.specs.SheetRun.{sheet_run}
use Rattle.run.proofs.LoopLaws.{stopped_refused, stopped_state, stopped_short}
use Rattle.simulator.proofs.NumbersLoop.{written_none, short_output, short_numbers}
use Rattle.simulator.proofs.SheetRunLaws.{runs_on, answered}
use Rattle.simulator.proofs.sheet_run.run.Goals as goal

-- one of the lent lists is too short if not both are long enough
short_either : (inputs out numbers : List ℕ) → (5 * length inputs ≤ length out → 64 * length inputs ≤ length numbers → ⊥)
    → (output_short inputs out || numbers_short inputs numbers) ≡ true
short_either inputs out numbers none = by_cases (dec_le (5 * length inputs) (length out)) (dec_le (64 * length inputs) (length numbers))
  where
    by_cases : Dec (5 * length inputs ≤ length out) → Dec (64 * length inputs ≤ length numbers)
        → (output_short inputs out || numbers_short inputs numbers) ≡ true
    by_cases (no a) b = short_output inputs out numbers (omega arith)
    by_cases (yes a) (no b) = short_numbers inputs out numbers (omega arith)
    by_cases (yes a) (yes b) = absurd (none a b)

-- 1 to 6
pub returns-in-Err : goal.returns-in-Err
unfolding sheet_run
returns-in-Err c =
    answered _ _ _ _ _
    (written_none _ _ _ _ (c.stops.ensures.0 _) refl
    (stopped_refused _ _ _ _ _ _ _ _ c.in-Err.ensures (number_not_0 _)))
    (omega (arith, c.stops.ensures.1))

-- 14
pub returns-then-not-state_ok : goal.returns-then-not-state_ok
unfolding sheet_run
returns-then-not-state_ok c =
    let end = c.stops-then-not-state_ok in
    answered _ _ _ _ _
    (written_none _ _ _ _ (end.ensures.0 _) refl
    (stopped_state _ _ _ _ _ _ _ _ c.put_plan.ensures.passes (sym c.state_ok.ensures ∙ c.if-not-state_ok.true)))
    (omega (arith, end.ensures.1))

-- 12, of the words or of the numbers
pub returns-then-out-inputs : goal.returns-then-out-inputs
unfolding sheet_run
returns-then-out-inputs c =
    let end = c.stops-then-out-inputs in
    answered _ _ _ _ _
    (written_none _ _ _ _ (end.ensures.0 _) refl
    (stopped_short _ _ _ _ _ _ _ _ c.put_plan.ensures.passes (sym c.state_ok.ensures ∙ c.if-not-state_ok.false)
    (short_either _ _ _ (λ a b. omega arith))))
    (omega (arith, end.ensures.1))

-- tick by tick: the lent lists are long enough
pub returns : goal.returns
returns c =
    let n = length c.args.inputs.now in
    let words : 5 * n ≤ length c.args.out.now = omega arith in
    let numbers : 64 * n ≤ length c.args.numbers.now = omega arith in
    answered _ _ _ _ _
    (runs_on _ _ _ _ _ c.put_plan.ensures.passes (sym c.state_ok.ensures ∙ c.if-not-state_ok.false) words numbers c.ticks.ensures.0)
    c.ticks.ensures.1
