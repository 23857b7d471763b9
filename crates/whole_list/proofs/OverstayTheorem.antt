-- Nobody overstays, of the operations: by demand 3 their calls report the sheet's ticks, and in these nobody does. Assumes nothing.
use mathlib.Core.Path.{◌≡◌, sym, ◌∙◌}
use Rattle.meaning.specs.Refusal.{err_or_0}
use Rattle.meaning.specs.Acceptance.{Accepted}
use Rattle.meaning.proofs.TimeoutRuns.{runs_keep_timeouts}
use Rattle.whole_list.specs.Demand3.{AcceptCall, sheet_checked, table_checked, Demand3, AcceptedDemand3}
use Rattle.whole_list.specs.StationsDemand.{StationDemand3, AcceptedStationDemand3}
use Rattle.whole_list.specs.NobodyOverstays.{NobodyOverstays}
use Rattle.whole_list.proofs.Theorem.{compile_accepted, check_is, demand_3, accepted_demand_3}
use Rattle.whole_list.proofs.StationsTheorem.{station_demand_3, accepted_station_demand_3}

check_accepted : (c : AcceptCall) → err_or_0 c.returned ≡ 0 → Accepted (sheet_checked c) (table_checked c)
check_accepted c passed = sym (check_is c) ∙ passed

pub nobody_overstays : NobodyOverstays
unfolding Demand3 AcceptedDemand3 StationDemand3 AcceptedStationDemand3
nobody_overstays =
    record {
      runs = λ c passed cs chained. runs_keep_timeouts _ _ (compile_accepted c passed) _ _ (demand_3 c passed cs chained);
      stations = λ c passed vs handed. runs_keep_timeouts _ _ (compile_accepted c passed) _ _ (station_demand_3 c passed vs handed);
      accepted_runs = λ c passed cs chained. runs_keep_timeouts _ _ (check_accepted c passed) _ _ (accepted_demand_3 c passed cs chained);
      accepted_stations = λ c passed vs handed. runs_keep_timeouts _ _ (check_accepted c passed) _ _ (accepted_station_demand_3 c passed vs handed);
    }
