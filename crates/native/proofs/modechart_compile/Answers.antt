-- `native::modechart_compile` meets its contract: too few words in info, or what compile returns. Assumes nothing.
use Rattle.std.proofs.Common.{◌≡◌, ℕ, Result, Ok, Err, refl, ap, ◌∙◌, arith}
use Rattle.std.specs.Result.{result_unwrap_or}
use Rattle.meaning.specs.declared.refusal.Refusal.{Refusal}
use Rattle.meaning.specs.Refusal.{number_or_0}
use Rattle.meaning.proofs.RefusalLaws.{err_number}
use Rattle.compiler.specs.Outcome.{compiled_of, length_in}
use Rattle.native.proofs.CallLaws.{compile-nothing, compile_answered}
use Rattle.native.proofs.modechart_compile.Goals as goal

pub returns-then-info-lt2 : goal.returns-then-info-lt2
returns-then-info-lt2 c = compile-nothing c.args.sheet.now c.args.table.now c.args.work.now c.args.info.now c.if-info-lt2.true

-- the table's length as the code has it, 0 where refused
length_is : (r : Result ℕ Refusal) → result_unwrap_or r 0 ≡ length_in r
length_is (Ok n) = refl
length_is (Err why) = refl

pub returns : goal.returns
returns c =
    let a = c.args in
    let o = c.compile-c in
    let answer = c.number.ensures ∙ ap number_or_0 c.err.ensures.value ∙ err_number o.result.table_length in
    rw (c.unwrap_or.ensures, length_is o.result.table_length)
    (compile_answered a.sheet.now a.table.now a.work.now a.info.now (omega arith) (compiled_of o.result o.new.table o.new.work) c.number.result
    o.ensures answer)
