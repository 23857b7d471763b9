-- `milliseconds::in_ticks` meets its contract. Assumes nothing.
use mathlib.Core.Path.{◌≡◌, sym, ap, ◌∙◌}
use mathlib.Core.Bool.{true}
use mathlib.Core.List.{List}
use Prim.Native.Nat.{ℕ}
use native.Mathlib.Omega.{arith}
use borrow.Author.Tests.{lt-ltb, le-ltb}
use Rattle.meaning.specs.Milliseconds.{ticks_out_of_range}
use Rattle.milliseconds.proofs.ConversionLaws.{no_tick, longest_decides, answer_12, answer_20, answer_0}
use Rattle.milliseconds.proofs.in_ticks.Goals as goal

pub returns-then-results-delays : goal.returns-then-results-delays
returns-then-results-delays c = let a = c.args in sym (answer_12 a.tick a.delays.now a.results.now c.if-results-delays.true)

pub returns-then-tick-eq0 : goal.returns-then-tick-eq0
returns-then-tick-eq0 c =
    let a = c.args in
    let out : ticks_out_of_range a.tick a.delays.now ≡ true = grind (arith, no_tick, longest_decides, lt-ltb) in
    sym (answer_20 a.tick a.delays.now a.results.now c.if-results-delays.false out)

pub returns : goal.returns
returns c =
    let a = c.args in
    ap (λ (l : List ℕ). record { refusal = 0; results = l }) c.put_all.ensures
    ∙ sym (answer_0 a.tick a.delays.now a.results.now c.if-results-delays.false
    (longest_decides a.tick a.delays.now a.results.now c.longest.result (omega arith) c.longest.ensures ∙ le-ltb _ _ (omega arith)))
