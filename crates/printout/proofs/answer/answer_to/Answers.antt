-- `printout::answer::answer_to` meets its contract: it is refused 0, or its two parts are served. Assumes nothing.
use Rattle.std.proofs.Common.{sym, ◌∙◌, inl, inr, arith}
use Rattle.decimals.proofs.Requests.{asked_some, asked_none}
use Rattle.printout.specs.Answers.{only_refused}
use Rattle.printout.proofs.AnswerLaws.{answer_not, answer_served, sheet_part, inputs_part}
use Rattle.printout.proofs.answer.answer_to.Goals as goal

pub overflow_add-words : goal.overflow_add-words
overflow_add-words c = let q = asked_some _ _ c.in-Some.ensures in omega arith

pub slice_bounds-compile_and_run-end : goal.slice_bounds-compile_and_run-end
slice_bounds-compile_and_run-end c = let q = asked_some _ _ c.in-Some.ensures in omega arith

pub overflow_add-words-in-Some-3 : goal.overflow_add-words-in-Some-3
overflow_add-words-in-Some-3 c = let q = asked_some _ _ c.in-Some.ensures in omega arith

pub slice_bounds-compile_and_run-end-in-Some : goal.slice_bounds-compile_and_run-end-in-Some
slice_bounds-compile_and_run-end-in-Some c = let q = asked_some _ _ c.in-Some.ensures in omega arith

pub returns-in-Some : goal.returns-in-Some
returns-in-Some c =
    let q = asked_some _ _ c.in-Some.ensures in
    c.compile_and_run.ensures
    ∙ rw (sheet_part _ _ q.words, inputs_part _ _ q.words _ q.ticks) (answer_served _ _ _ c.if-good.true q.ok)

pub returns-in_default : goal.returns-in_default
unfolding only_refused
returns-in_default c = answer_not _ _ _ (inl c.if-good.false)

pub returns-in_default-2 : goal.returns-in_default-2
unfolding only_refused
returns-in_default-2 c = answer_not _ _ _ (inr (asked_none _ (sym c.in_default.is ∙ c.asked.ensures)))
