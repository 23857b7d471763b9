-- `planner::looks::exit_by` meets its contract. Assumes nothing.
use native.Mathlib.Omega.{arith}
use borrow.Author.Tests.{eq-eqb, ne_eqb}
use Rattle.planner.proofs.LookLaws.{one_where, none_where}
use Rattle.planner.proofs.looks.exit_by.Goals as goal

pub returns-then-kind : goal.returns-then-kind
returns-then-kind c i = one_where _ _ i (eq-eqb _ 5 c.if-kind.true) c.wide.ensures c.single.ensures

pub returns : goal.returns
returns c i = none_where _ _ i (ne_eqb _ 5 (λ k. omega arith))
