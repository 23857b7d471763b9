-- Ask 11 of document 02, "Nobody overstays", said of what `recorder::table_run::run` and `stations::serve` return and of the words
-- that they leave. Of each call its contract is supposed, as the source states it, and nothing else. Assumes nothing.
use Rattle.std.specs.Prelude.{◌≡◌, List, map}
use Rattle.meaning.specs.Refusal.{err_or_0}
use Rattle.meaning.specs.Run.{power_on}
use Rattle.meaning.specs.Timeouts.{RunsKeepTimeouts}
use Rattle.whole_list.specs.Demand3.{CompileCall, sheet_words, table_words, AcceptCall, sheet_checked, table_checked}
use Rattle.whole_list.specs.Demand3.{RunCall, call_of, run_of, OneAfterOther}
use Rattle.whole_list.specs.StationsDemand.{StationIn, call_alone, run_alone, StateHandedOn}

-- "if a mode with a timer of delay d leaving it is active at the end of tick j and was last entered in tick j, and d further ticks are
-- done, some tick from j + 1 to j + d has it in its exited set. A mode with a delay-0 transition is never active at a tick's end."
-- (`RunsKeepTimeouts`)
pub record NobodyOverstays : Type 0 where
  -- "This holds for runs of its compiled table": any compile that refused nothing, and any list of calls of the table run on the table
  -- that it left, from power-on; "if nobody writes table or state in between": each call gets that table, and the state that the call
  -- before returned
  pub runs : (c : CompileCall) → err_or_0 c.returned.table_length ≡ 0
      → (cs : List RunCall) → OneAfterOther (table_words c) power_on cs
      → RunsKeepTimeouts (sheet_words c) (table_words c) (map call_of cs) (map run_of cs)
  -- "and for stations on it, counted in the station's own ticks": any list of calls of stations on that table, among whatever other
  -- stations, and a station of each, at power-on in the first and in each next in the state that the call before left it in
  pub stations : (c : CompileCall) → err_or_0 c.returned.table_length ≡ 0
      → (vs : List StationIn) → StateHandedOn (table_words c) power_on vs
      → RunsKeepTimeouts (sheet_words c) (table_words c) (map call_alone vs) (map run_alone vs)
  -- both of a table from elsewhere that a check accepted for its sheet
  pub accepted_runs : (c : AcceptCall) → err_or_0 c.returned ≡ 0
      → (cs : List RunCall) → OneAfterOther (table_checked c) power_on cs
      → RunsKeepTimeouts (sheet_checked c) (table_checked c) (map call_of cs) (map run_of cs)
  pub accepted_stations : (c : AcceptCall) → err_or_0 c.returned ≡ 0
      → (vs : List StationIn) → StateHandedOn (table_checked c) power_on vs
      → RunsKeepTimeouts (sheet_checked c) (table_checked c) (map call_alone vs) (map run_alone vs)
