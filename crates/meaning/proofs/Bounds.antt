-- What a table run and compile return stays within what was lent. Assumes nothing.
use mathlib.Core.Bool.{not}
use mathlib.Core.List.{List}
use Prim.Native.Nat.{ℕ, ◌+◌, ◌^◌, ◌≤◌, zero-le}
use native.Mathlib.Omega.{arith}
use lib.ListN.{length}
use lib.Pow.{pow_mono}
use Rattle.meaning.specs.Lists.{refused_if}
use Rattle.meaning.specs.Run.{State, stops, ran}
use Rattle.meaning.specs.Table.{k_in, table_ok}
use Rattle.meaning.specs.TableRun.{table_step, table_state_ok, table_run}
use Rattle.meaning.proofs.RunLaws.{done_le, run_all}

-- no more ticks are done than input sets given
pub table_run_done : (w : List ℕ) (q : State) (inputs out : List ℕ) → (table_run w q inputs out).done ≤ length inputs
unfolding table_run ran stops
table_run_done w q inputs out =
    run_all (k_in w) (table_step w) (refused_if (not (table_ok w)) 15) (table_state_ok w q) _ q inputs out (λ r. r.done ≤ length inputs)
    (λ _. zero-le) (done_le (k_in w) (table_step w) inputs q)

-- a block has at most 4,096 cells
pub cells-le : (a k : ℕ) → a ≤ 6 → k ≤ 6 → 2 ^ (a + k) ≤ 4096
cells-le a k h g = pow_mono {i = a + k} {j = 12} (omega arith)
