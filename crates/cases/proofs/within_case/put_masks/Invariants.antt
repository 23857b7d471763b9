-- `cases::within_case::put_masks` meets its contract: each mask takes at most 21 bytes. Assumes nothing.
use Rattle.std.proofs.Common.{◌+◌, ◌*◌, ◌≤◌}
use Rattle.cases.proofs.within_case.put_masks.Given as goal

abbrev pub invariant-loop-mask : goal.invariant-loop-mask
invariant-loop-mask l = l.line ≤ l.initial.line + 21 * l.mask-index
