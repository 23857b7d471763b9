-- How an answer goes: by the request, by compile, by the run. Assumes nothing.
use mathlib.Core.Path.{◌≡◌, refl, ap, ◌∙◌}
use mathlib.Core.Logic.{◌⊎◌, inl, inr}
use mathlib.Core.Bool.{Bool, true, false, ◌&&◌, cond, and-false}
use mathlib.Core.List.{List}
use Prim.Native.Nat.{ℕ, ◌+◌, ◌-◌, ◌*◌, ◌≤◌, zero-le}
use native.Mathlib.Omega.{arith}
use lib.Dec.{eqb}
use lib.ListN.{length, take, drop, replicate, length-take, length-replicate}
use borrow.Author.Tests.{le-ltb, eq-eqb, ne_eqb}
use Rattle.meaning.specs.Run.{power_on, output_short, Run}
use Rattle.meaning.specs.TableRun.{table_run}
use Rattle.meaning.specs.Compile.{Compiled}
use Rattle.meaning.proofs.CompiledLaws.{compile-length}
use Rattle.meaning.proofs.Bounds.{table_run_done}
use Rattle.decimals.specs.Request.{most_ticks, sheet_length, tick_count, request_ok, sheet_asked, inputs_asked}
use Rattle.decimals.proofs.Requests.{accepted}
use Rattle.printout.specs.Promises.{OutputEnough}
use Rattle.printout.specs.declared.answer.Answer.TheVariants.{Ran}
use Rattle.printout.specs.Answers.{table_room, work_room, ticks_done, Answered, only_refused, ran_answer, compiled_sheet, answer_to_sheet, answer_to}

-- ---- the run

ran_answer_lem : (r : Run) (n : ℕ) → n ≡ r.refusal
    → record { answer = Ran r.done n; out = r.out } ≡ ran_answer r
unfolding ran_answer
ran_answer_lem r n e = rw e

pub answer_ran_is : {r o : Run} {n : ℕ} → n ≡ r.refusal → r ≡ o
    → record { answer = Ran r.done n; out = r.out } ≡ ran_answer o
answer_ran_is {r} {o} {n} k e = ran_answer_lem r n k ∙ ap ran_answer e

-- ---- compile

module _ (sheet inputs out : List ℕ) (c : Compiled) (e : c ≡ compiled_sheet sheet) where
  pub table_fits : c.table_length ≤ table_room
  unfolding compiled_sheet
  table_fits =
      let k = compile-length sheet (replicate table_room 0) (replicate work_room 0) in
      omega (arith, k, ap (λ (o : Compiled). o.table_length) e, length-replicate {A = ℕ} table_room 0)

  pub answer_refused : (c.refusal ≡ 0 → ⊥) → only_refused c.refusal out ≡ answer_to_sheet sheet inputs out
  unfolding answer_to_sheet
  answer_refused h = rw (← e, ne_eqb c.refusal 0 h)

  pub answer_ran : c.refusal ≡ 0 → ran_answer (table_run (take c.table_length c.table) power_on inputs out) ≡ answer_to_sheet sheet inputs out
  unfolding answer_to_sheet
  answer_ran h = rw (← e, eq-eqb c.refusal 0 h)

-- ---- the request

module _ (good : Bool) (numbers out : List ℕ) where
  pub answer_not : (good ≡ false) ⊎ (request_ok numbers ≡ false) → only_refused 0 out ≡ answer_to good numbers out
  unfolding answer_to
  answer_not (inl h) = rw h
  answer_not (inr h) = rw (h, and-false)

  pub answer_served : good ≡ true → request_ok numbers ≡ true → answer_to_sheet (sheet_asked numbers) (inputs_asked numbers) out ≡ answer_to good numbers out
  unfolding answer_to
  answer_served h k = rw (h, k)

-- the two parts of the numbers
module _ (numbers : List ℕ) (w : ℕ) (e : w ≡ sheet_length numbers) where
  pub sheet_part : take (1 + w - 1) (drop 1 numbers) ≡ sheet_asked numbers
  unfolding sheet_asked
  sheet_part = let same : 1 + w - 1 ≡ sheet_length numbers = omega arith in rw same

  pub inputs_part : (t : ℕ) → t ≡ tick_count numbers → take (2 + w + t - (2 + w)) (drop (2 + w) numbers) ≡ inputs_asked numbers
  unfolding inputs_asked
  inputs_part t k = let same : 2 + w + t - (2 + w) ≡ tick_count numbers = omega arith in rw (same, e)

-- ---- no more ticks are done than a request may ask for

module _ (numbers out : List ℕ) where
  inputs_few : request_ok numbers ≡ true → length (inputs_asked numbers) ≤ most_ticks
  unfolding inputs_asked
  inputs_few e =
      let k = accepted numbers e in
      simp length-take (omega (arith, k.ticks))

  sheet_few : (sheet inputs : List ℕ) → length inputs ≤ most_ticks → ticks_done (answer_to_sheet sheet inputs out).answer ≤ most_ticks
  unfolding answer_to_sheet only_refused ran_answer
  sheet_few sheet inputs h = go (eqb (compiled_sheet sheet).refusal 0)
    where
      c : Compiled
      c = compiled_sheet sheet

      ran : Run
      ran = table_run (take c.table_length c.table) power_on inputs out

      go : (b : Bool) → ticks_done (cond b (ran_answer ran) (only_refused c.refusal out)).answer ≤ most_ticks
      go true = omega (arith, table_run_done (take c.table_length c.table) power_on inputs out)
      go false = zero-le

  pub answer_few : (good : Bool) → ticks_done (answer_to good numbers out).answer ≤ most_ticks
  unfolding answer_to only_refused
  answer_few good = go good (request_ok numbers) refl
    where
      served : Answered
      served = answer_to_sheet (sheet_asked numbers) (inputs_asked numbers) out

      go : (g r : Bool) → request_ok numbers ≡ r → ticks_done (cond (g && r) served (only_refused 0 out)).answer ≤ most_ticks
      go true true e = sheet_few (sheet_asked numbers) (inputs_asked numbers) (inputs_few e)
      go true false e = zero-le
      go false r e = zero-le

pub output_enough_lem : OutputEnough
unfolding OutputEnough output_short
output_enough_lem numbers out e h = le-ltb (length out) (5 * length (inputs_asked numbers)) (omega (arith, inputs_few numbers out e))
