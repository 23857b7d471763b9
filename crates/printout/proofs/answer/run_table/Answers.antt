-- `printout::answer::run_table` meets its contract. Assumes nothing.
use Rattle.std.proofs.Common.{ap, ◌∙◌}
use Rattle.meaning.specs.Run.{State}
use Rattle.meaning.specs.TableRun.{table_run}
use Rattle.recorder.specs.Runs.{ran_of}
use Rattle.printout.proofs.AnswerLaws.{answer_ran_is}
use Rattle.printout.proofs.answer.run_table.Goals as goal

pub returns : goal.returns
returns c =
    let r = c.run-ran in
    let a = c.args in
    answer_ran_is {r = ran_of r.result r.new.out} c.number.ensures
    (r.ensures ∙ ap (λ (q : State). table_run a.table.now q a.inputs.now a.out.now) c.fresh.ensures)
