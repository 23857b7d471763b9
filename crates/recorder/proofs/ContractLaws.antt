-- What the contract of the table run asks of a caller, which is nothing, and what it tells: the equation that the whole-list theorem of
-- the operations rests on. Assumes nothing.
use mathlib.Core.Path.{◌≡◌}
use contract.Lifetimes.{Lfts}
use denote.Triple.Clauses.{AtExit}
use borrow.Fn.Kinds.{Dens, ended_of}
use Rattle.meaning.specs.TableRun.{table_run}
use Rattle.run.specs.States.{state_of}
use Rattle.recorder.specs.Runs.{ran_of}
use Rattle.recorder.specs.declared.table_run.Ran.{Ran}
use Rattle.recorder.proofs.table_run.run.Kinds.{ps, r}
use Rattle.recorder.proofs.table_run.run.Reads.{Asked, Learnt}

module _ (κs : Lfts 3) (passed : Dens κs ps) where
  pub run_asks : Asked κs passed
  run_asks = tt

  pub run_tells : (returned : Ran) (left : AtExit (ended_of 3 ps r) κs) → Learnt κs passed returned left
      → ran_of returned left.1.1.1.0.now ≡ table_run passed.0.now (state_of passed.1.0) passed.1.1.0.now passed.1.1.1.0.now
  run_tells returned left h = h
