-- Demand 3 of the operations: by their contracts, what the calls return and leave is what `compile`, `accept_refusal` and `runs_from` give.
-- A table that compile made is accepted for its sheet, and an accepted table runs as its sheet does. Assumes nothing.
use mathlib.Core.Path.{◌≡◌, refl, sym, ap, ap₂, ◌∙◌, subst}
use mathlib.Core.List.{List, [], ◌∷◌, map}
use Prim.Native.Nat.{ℕ, ◌<◌}
use lib.ListN.{take}
use Rattle.meaning.specs.Sheet.{t_of}
use Rattle.meaning.specs.Run.{State, power_on, Run}
use Rattle.meaning.specs.TableRun.{table_run}
use Rattle.meaning.specs.Compile.{Compiled, compile}
use Rattle.meaning.specs.Refusal.{err_or_0}
use Rattle.meaning.specs.WholeList.{runs_from, Served}
use Rattle.meaning.specs.Acceptance.{accept_refusal, Accepted, AcceptedServes, CompiledAccepted}
use Rattle.meaning.specs.NoIdleArrows.{TakenInTable, EveryArrowTaken}
use Rattle.meaning.proofs.NoIdleArrows.{every_arrow_taken_lem}
use Rattle.meaning.proofs.Theorem.{accepted_serves_lem, compiled_accepted_lem}
use Rattle.run.specs.States.{state_of}
use Rattle.compiler.proofs.ContractLaws.{compile_tells}
use Rattle.acceptance.proofs.ContractLaws.{accept_tells}
use Rattle.recorder.proofs.ContractLaws.{run_tells}
use Rattle.whole_list.specs.Demand3.{CompileCall, sheet_words, table_words, AcceptCall, sheet_checked, table_checked}
use Rattle.whole_list.specs.Demand3.{RunCall, table_got, state_got, call_of, run_of, OneAfterOther, Demand3, AcceptedDemand3, CompileIsAccepted, CompileTakesEvery}

-- one call of the table run
call_is : (c : RunCall) → run_of c ≡ table_run (table_got c) (state_got c) (call_of c).inputs (call_of c).out
unfolding run_of table_got state_got call_of
call_is c = run_tells c.lifetimes c.passed c.returned c.left c.contract

state_is : (c : RunCall) (r : Run) → run_of c ≡ r → state_of c.returned.state ≡ r.state
unfolding run_of
state_is c r e = ap (λ (x : Run). x.state) e

-- a list of them
calls_are : (t : List ℕ) (q : State) (cs : List RunCall) → OneAfterOther t q cs → map run_of cs ≡ runs_from t q (map call_of cs)
unfolding OneAfterOther runs_from
calls_are t q [] h = refl
calls_are t q (c ∷ cs) h =
    let first : run_of c ≡ table_run t q (call_of c).inputs (call_of c).out =
    call_is c ∙ ap₂ (λ (w : List ℕ) (p : State). table_run w p (call_of c).inputs (call_of c).out) h.0 h.1 in
    let state = state_is c (table_run t q (call_of c).inputs (call_of c).out) first in
    ap₂ (λ (r : Run) (rs : List Run). r ∷ rs) first
    (calls_are t (state_of c.returned.state) cs h.2 ∙ ap (λ (p : State). runs_from t p (map call_of cs)) state)

-- on an accepted table, from the fresh state
calls_served : (s t : List ℕ) → Accepted s t → (cs : List RunCall) → OneAfterOther t power_on cs → Served s t (map call_of cs) (map run_of cs)
unfolding AcceptedServes
calls_served s t accepted cs chained =
    subst (λ (rs : List Run). Served s t (map call_of cs) rs) (sym (calls_are t power_on cs chained)) (accepted_serves_lem s t accepted (map call_of cs))

-- one call of compile that refused nothing: what is true of the words that the definition leaves is true of the table
compile_leaves : (P : List ℕ → List ℕ → Type 0)
    → ((s table work : List ℕ) → (compile s table work).refusal ≡ 0 → P s (take (compile s table work).table_length (compile s table work).table))
    → (c : CompileCall) → err_or_0 c.returned.table_length ≡ 0 → P (sheet_words c) (table_words c)
unfolding sheet_words table_words
compile_leaves P h c passed =
    let sheet = c.lent.0.now in
    let told = compile_tells c.lifetimes c.lent c.returned c.left c.contract in
    subst (λ (x : Compiled). P sheet (take x.table_length x.table)) (sym told)
    (h sheet c.lent.1.0.now c.lent.1.1.0.now (ap (λ (x : Compiled). x.refusal) (sym told) ∙ passed))

pub compile_accepted : (c : CompileCall) → err_or_0 c.returned.table_length ≡ 0 → Accepted (sheet_words c) (table_words c)
unfolding CompiledAccepted
compile_accepted = compile_leaves Accepted compiled_accepted_lem

-- one check of a table
pub check_is : (c : AcceptCall) → err_or_0 c.returned ≡ accept_refusal (sheet_checked c) (table_checked c)
unfolding sheet_checked table_checked
check_is c = accept_tells c.lifetimes c.lent c.returned c.left c.contract

pub demand_3 : Demand3
unfolding Demand3
demand_3 c passed = calls_served (sheet_words c) (table_words c) (compile_accepted c passed)

pub accepted_demand_3 : AcceptedDemand3
unfolding AcceptedDemand3
accepted_demand_3 c passed = calls_served (sheet_checked c) (table_checked c) (sym (check_is c) ∙ passed)

pub compile_is_accepted : CompileIsAccepted
unfolding CompileIsAccepted
compile_is_accepted c passed a sheet table = check_is a ∙ ap₂ accept_refusal sheet table ∙ compile_accepted c passed

pub compile_takes_every : CompileTakesEvery
unfolding CompileTakesEvery EveryArrowTaken
compile_takes_every = compile_leaves (λ s w. (t : ℕ) → t < t_of s → TakenInTable w t) every_arrow_taken_lem
