-- What the bench program answers to the numbers of a text. Assumes nothing.
use Rattle.std.specs.Prelude.{Bool, ◌&&◌, cond, List, ◌∷◌, ℕ, ◌*◌, eqb, take, drop, replicate}
use Rattle.meaning.specs.Run.{power_on, Run}
use Rattle.meaning.specs.TableRun.{table_run}
use Rattle.meaning.specs.Compile.{Compiled, compile}
use Rattle.decimals.specs.Request.{most_ticks, request_ok, sheet_asked, inputs_asked}
use Rattle.printout.specs.declared.answer.Answer.{Answer}
use Rattle.printout.specs.declared.answer.Answer.TheVariants.{Refused, Ran}

-- the words lent: to compile for table and work list, to the run five for each tick
abbrev pub table_room : ℕ
table_room = 8192

abbrev pub work_room : ℕ
work_room = 1024

abbrev pub output_room : ℕ
output_room = 5 * most_ticks

-- the ticks whose lines an answer has
abbrev pub ticks_done : Answer → ℕ
ticks_done (Refused e) = 0
ticks_done (Ran done e) = done

-- an answer (only a refusal's number; or, under a header, the ticks done and the refusal's number) and the output words at its end
pub record Answered : Type 0 where
  pub answer : Answer
  pub out : List ℕ

-- "a refusal prints `refused` and the number", and nothing else is printed
unfoldable pub only_refused : ℕ → List ℕ → Answered
only_refused e out = record { answer = Refused e; out = out }

-- "a header line, then a line per tick ..; a refusal .. after the header and the done ticks if the run gave it"
unfoldable pub ran_answer : Run → Answered
ran_answer r = record { answer = Ran r.done r.refusal; out = r.out }

-- "It compiles into 8,192 words with a work list of 1,024"
unfoldable pub compiled_sheet : List ℕ → Compiled
compiled_sheet sheet = compile sheet (replicate table_room 0) (replicate work_room 0)

-- ".. runs the table": its first words, as many as it has, from power-on
unfoldable pub answer_to_sheet : List ℕ → List ℕ → List ℕ → Answered
answer_to_sheet sheet inputs out =
    let c = compiled_sheet sheet in
    let ran = ran_answer (table_run (take c.table_length c.table) power_on inputs out) in
    cond (eqb c.refusal 0) ran (only_refused c.refusal out)

-- the line of tick i: "its number and five words"
unfoldable pub tick_row : List ℕ → ℕ → List ℕ
tick_row out i = i ∷ take 5 (drop (5 * i) out)

-- the answer to the numbers of a text, good where it is a text of decimals: "text that is no such list prints only `refused 0`"
unfoldable pub answer_to : Bool → List ℕ → List ℕ → Answered
answer_to good numbers out =
    let served = answer_to_sheet (sheet_asked numbers) (inputs_asked numbers) out in
    cond (good && request_ok numbers) served (only_refused 0 out)
