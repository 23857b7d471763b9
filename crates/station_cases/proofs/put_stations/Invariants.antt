-- `station_cases::put_stations` meets its contract: each station takes at most 63 bytes. Assumes nothing.
use Rattle.std.proofs.Common.{◌+◌, ◌*◌, ◌≤◌}
use Rattle.station_cases.proofs.put_stations.Given as goal

abbrev pub invariant-loop-station : goal.invariant-loop-station
invariant-loop-station l = l.line ≤ l.initial.line + 63 * l.station-index
