-- What a call under a C name answers, and its lent words at exit. Assumes nothing.
use Rattle.std.specs.Prelude.{Bool, ◌||◌, cond, List, [], ◌∷◌, ℕ, ◌/◌, ◌%◌, ◌^◌, eqb, ltb, length}
use Rattle.meaning.specs.Lists.{overwritten}
use Rattle.meaning.specs.Run.{Run}
use Rattle.meaning.specs.SheetRun.{sheet_run}
use Rattle.meaning.specs.Why.{refusal_of, reason_words, why}
use Rattle.meaning.specs.TableRun.{table_run}
use Rattle.meaning.specs.Compile.{compile}
use Rattle.meaning.specs.Within.{masks_of}
use Rattle.run.specs.States.{state_words, words_of, state_in}

pub record CompileCall : Type 0 where
  pub answer : ℕ
  pub table : List ℕ
  pub work : List ℕ
  pub info : List ℕ

unfoldable pub compile_call : List ℕ → List ℕ → List ℕ → List ℕ → CompileCall
compile_call sheet table work info =
    let o = compile sheet table work in
    let nothing : CompileCall = record { answer = 4294967295; table = table; work = work; info = info } in
    let done : CompileCall =
    record { answer = o.refusal; table = o.table; work = o.work; info = overwritten (o.f ∷ o.table_length ∷ []) info } in
    cond (ltb (length info) 2) nothing done

pub record WithinCall : Type 0 where
  pub answer : ℕ
  pub masks : List ℕ

-- the masks go into the first 32 words; of a refused sheet none do
unfoldable pub within_call : List ℕ → List ℕ → WithinCall
within_call sheet masks =
    let o = masks_of sheet in
    let nothing : WithinCall = record { answer = 4294967295; masks = masks } in
    let done : WithinCall =
    record { answer = o.refusal; masks = cond (eqb o.refusal 0) (overwritten o.masks masks) masks } in
    cond (ltb (length masks) 32) nothing done

pub record RunCall : Type 0 where
  pub answer : ℕ
  pub state : List ℕ
  pub out : List ℕ
  pub info : List ℕ

-- fewer words lent than asked for: n in info, a state's in the state
unfoldable pub call_short : ℕ → List ℕ → List ℕ → Bool
call_short n state info = ltb (length info) n || ltb (length state) state_words

-- a call that ran, puts its state into the state's words and its counts into info
unfoldable pub run_call : Run → List ℕ → List ℕ → List ℕ → List ℕ → RunCall
run_call o counts state out info =
    let nothing : RunCall = record { answer = 4294967295; state = state; out = out; info = info } in
    let done : RunCall =
    record { answer = o.refusal; state = overwritten (words_of o.state) state; out = o.out; info = overwritten counts info } in
    cond (call_short (length counts) state info) nothing done

-- the counts of a sheet run: ticks done, the total of rounds as whole times 2^32 and the rest; of a table run: ticks done
unfoldable pub sheet_counts : Run → List ℕ
sheet_counts o = o.done ∷ o.rounds / 2 ^ 32 ∷ o.rounds % 2 ^ 32 ∷ []

pub record SheetCall : Type 0 where
  pub call : RunCall
  pub numbers : List ℕ

unfoldable pub sheet_call : List ℕ → List ℕ → List ℕ → List ℕ → List ℕ → List ℕ → SheetCall
sheet_call sheet state inputs out numbers info =
    let o = sheet_run sheet (state_in state) inputs out numbers in
    let counts = sheet_counts o.run in
    record { call = run_call o.run counts state out info; numbers = cond (call_short (length counts) state info) numbers o.numbers }

unfoldable pub table_call : List ℕ → List ℕ → List ℕ → List ℕ → List ℕ → RunCall
table_call table state inputs out info =
    let o = table_run table (state_in state) inputs out in
    run_call o (o.done ∷ []) state out info

pub record WhyCall : Type 0 where
  pub answer : ℕ
  pub info : List ℕ

-- the reason's number and its values go into the first 3 words; of a refusal none do
unfoldable pub why_call : List ℕ → List ℕ → ℕ → ℕ → List ℕ → WhyCall
why_call sheet state input transition info =
    let o = why sheet (state_in state) input transition in
    let nothing : WhyCall = record { answer = 4294967295; info = info } in
    let done : WhyCall = record { answer = refusal_of o; info = overwritten (reason_words o) info } in
    cond (call_short 3 state info) nothing done
