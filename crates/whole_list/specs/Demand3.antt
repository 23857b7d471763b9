-- Demand 3 of the operations: the whole-list theorem, said of what `compiler::compile`, `acceptance::accept` and
-- `recorder::table_run::run` return and of the words that they leave. Of each call its contract is supposed, as the source states it
-- (`Learnt`: what a caller learns from a call's `ensures`), and nothing else, so that a contract that says less would not give the
-- theorem. Assumes nothing.
use Rattle.std.specs.Prelude.{Result, ◌≡◌, List, [], ◌∷◌, map, ℕ, ◌<◌, take}
use contract.Lifetimes.{Lfts}
use denote.Triple.Clauses.{AtExit}
use borrow.Fn.Kinds.{Dens, ended_of}
use Rattle.meaning.specs.Refusal.{err_or_0}
use Rattle.meaning.specs.declared.refusal.Refusal.{Refusal}
use Rattle.meaning.specs.Sheet.{t_of}
use Rattle.meaning.specs.Run.{State, power_on, Run}
use Rattle.meaning.specs.WholeList.{Call, Served}
use Rattle.meaning.specs.NoIdleArrows.{TakenInTable}
use Rattle.run.specs.States.{state_of}
use Rattle.compiler.specs.declared.Compiled.{Compiled}
use Rattle.compiler.specs.Outcome.{length_in}
use Rattle.compiler.proofs.compile.Kinds as compile_kinds
use Rattle.compiler.proofs.compile.Reads as compile_contract
use Rattle.acceptance.proofs.accept.Kinds as accept_kinds
use Rattle.acceptance.proofs.accept.Reads as accept_contract
use Rattle.recorder.specs.Runs.{ran_of}
use Rattle.recorder.specs.declared.table_run.Ran.{Ran}
use Rattle.recorder.proofs.table_run.run.Kinds as run_kinds
use Rattle.recorder.proofs.table_run.run.Reads as run_contract

-- A call is told by its lifetimes (`Lfts`, one for each slice), the values passed (`Dens`), the value returned, and the parameters as
-- they are at exit (`AtExit`); the words of a slice are `now` of it.

-- a call of `compile(sheet, table, work)`, whose contract holds
pub record CompileCall : Type 0 where
  pub lifetimes : Lfts 3
  pub lent : Dens lifetimes compile_kinds.ps
  pub returned : Compiled
  pub left : AtExit (ended_of 3 compile_kinds.ps compile_kinds.r) lifetimes
  pub contract : compile_contract.Learnt lifetimes lent returned left

module _ (c : CompileCall) where
  unfoldable pub sheet_words : List ℕ
  sheet_words = c.lent.0.now

  -- "the words left there, as many as the length returned"
  unfoldable pub table_words : List ℕ
  table_words = take (length_in c.returned.table_length) c.left.1.0.now

-- a call of `accept(sheet, table)`, whose contract holds
pub record AcceptCall : Type 0 where
  pub lifetimes : Lfts 2
  pub lent : Dens lifetimes accept_kinds.ps
  pub returned : Result (Unit {0}) Refusal
  pub left : AtExit (ended_of 2 accept_kinds.ps accept_kinds.r) lifetimes
  pub contract : accept_contract.Learnt lifetimes lent returned left

module _ (c : AcceptCall) where
  unfoldable pub sheet_checked : List ℕ
  sheet_checked = c.lent.0.now

  unfoldable pub table_checked : List ℕ
  table_checked = c.lent.1.0.now

-- a call of `run(table, state, inputs, out)`, whose contract holds
pub record RunCall : Type 0 where
  pub lifetimes : Lfts 3
  pub passed : Dens lifetimes run_kinds.ps
  pub returned : Ran
  pub left : AtExit (ended_of 3 run_kinds.ps run_kinds.r) lifetimes
  pub contract : run_contract.Learnt lifetimes passed returned left

module _ (c : RunCall) where
  -- the table and the state that it gets
  unfoldable pub table_got : List ℕ
  table_got = c.passed.0.now

  unfoldable pub state_got : State
  state_got = state_of c.passed.1.0

  -- "An input list counts as it stands at its call, output words as their run left them"
  unfoldable pub call_of : Call
  call_of = record { inputs = c.passed.1.1.0.now; out = c.passed.1.1.1.0.now }

  unfoldable pub run_of : Run
  run_of = ran_of c.returned c.left.1.1.1.0.now

-- the calls, each with the table t: the first gets the state q, each next what the call before returned
unfoldable pub OneAfterOther : List ℕ → State → List RunCall → Type 0
OneAfterOther t q [] = Unit {0}
OneAfterOther t q (c ∷ cs) = (table_got c ≡ t) × (state_got c ≡ q) × OneAfterOther t (state_of c.returned.state) cs

-- any compile that refused nothing, so of a sheet without an idle arrow, and any list of calls of the table run on its table, from the
-- fresh state: every conclusion of demand 3
unfoldable pub Demand3 : Type 0
Demand3 =
    (c : CompileCall) → err_or_0 c.returned.table_length ≡ 0
    → (cs : List RunCall) → OneAfterOther (table_words c) power_on cs
    → Served (sheet_words c) (table_words c) (map call_of cs) (map run_of cs)

-- any check of a table that refused nothing, and any list of calls of the table run on that table, from the fresh state: every
-- conclusion of demand 3
unfoldable pub AcceptedDemand3 : Type 0
AcceptedDemand3 =
    (c : AcceptCall) → err_or_0 c.returned ≡ 0
    → (cs : List RunCall) → OneAfterOther (table_checked c) power_on cs
    → Served (sheet_checked c) (table_checked c) (map call_of cs) (map run_of cs)

-- any compile that refused nothing, and any check of the table that it left against its sheet: nothing is refused
unfoldable pub CompileIsAccepted : Type 0
CompileIsAccepted =
    (c : CompileCall) → err_or_0 c.returned.table_length ≡ 0
    → (a : AcceptCall) → sheet_checked a ≡ sheet_words c → table_checked a ≡ table_words c
    → err_or_0 a.returned ≡ 0

-- any compile that refused nothing: each transition of its sheet stands in the taken words of some cell of the table that it left
unfoldable pub CompileTakesEvery : Type 0
CompileTakesEvery =
    (c : CompileCall) → err_or_0 c.returned.table_length ≡ 0
    → (t : ℕ) → t < t_of (sheet_words c) → TakenInTable (table_words c) t
