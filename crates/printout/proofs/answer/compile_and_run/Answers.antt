-- `printout::answer::compile_and_run` meets its contract: compile refuses, or its table is run. Assumes nothing.
use Rattle.std.proofs.Common.{◌≡◌, ◌≤◌, length, [], sym, ap, ◌∙◌, arith}
use lib.Seq.{length-take-le}
use Rattle.meaning.specs.Refusal.{number_of, err_or_0}
use Rattle.meaning.proofs.RefusalLaws.{number_not_0}
use Rattle.compiler.specs.Outcome.{compiled_of, length_in}
use Rattle.printout.specs.Answers.{only_refused, compiled_sheet}
use Rattle.printout.proofs.AnswerLaws.{table_fits, answer_refused, answer_ran}
use Rattle.printout.proofs.answer.compile_and_run.Goals as goal

pub returns-in-Err : goal.returns-in-Err
unfolding only_refused compiled_sheet
returns-in-Err c =
    let k = c.compile-compiled in
    let left = compiled_of k.result k.new.table k.new.work in
    let e : left.refusal ≡ number_of c.in-Err.why = ap err_or_0 c.in-Err.is in
    rw (c.from.ensures, ← e) (answer_refused _ _ _ left k.ensures (λ z. number_not_0 _ (sym e ∙ z)))

pub slice_bounds-table-end : goal.slice_bounds-table-end
unfolding compiled_sheet
slice_bounds-table-end c =
    let k = c.compile-compiled in
    let e : length_in k.result.table_length ≡ c.in-Ok.length = ap length_in c.in-Ok.is in
    omega (arith, e, table_fits _ [] [] (compiled_of k.result k.new.table k.new.work) k.ensures)

pub slice_bounds-run_table-end : goal.slice_bounds-run_table-end
unfolding compiled_sheet
slice_bounds-run_table-end c =
    let k = c.compile-compiled in
    let e : length_in k.result.table_length ≡ c.in-Ok.length = ap length_in c.in-Ok.is in
    let fits : c.in-Ok.length ≤ length k.new.table = omega (arith, e, table_fits _ [] [] (compiled_of k.result k.new.table k.new.work) k.ensures) in
    sym (length-take-le _ _ fits)

pub returns-in-Ok : goal.returns-in-Ok
unfolding compiled_sheet
returns-in-Ok c =
    let k = c.compile-compiled in
    let e : length_in k.result.table_length ≡ c.in-Ok.length = ap length_in c.in-Ok.is in
    c.run_table.ensures ∙ rw (← e) (answer_ran _ _ _ (compiled_of k.result k.new.table k.new.work) k.ensures (ap err_or_0 c.in-Ok.is))
