-- `case_text::line::Line::put_state` stays within its line: each reading and each age takes at most 42 bytes. Assumes nothing.
use Rattle.std.proofs.Common.{◌+◌, ◌*◌, ◌≤◌}
use Rattle.case_text.proofs.line.Line.put_state.Given as goal

abbrev pub invariant-loop-t : goal.invariant-loop-t
invariant-loop-t g l = l.self ≤ l.fn.self + 21 + 42 * l.t

abbrev pub invariant-loop-m : goal.invariant-loop-m
invariant-loop-m g l = l.self ≤ l.fn.self + 21 + 42 * 64 + 42 * l.m
