-- Stations and what a call returns, as the meaning has them. Assumes nothing.
use Rattle.std.specs.Prelude.{List, map, ℕ, replicate}
use Rattle.meaning.specs.Refusal.{number_or_0}
use Rattle.meaning.specs.Stations as meaning
use Rattle.run.specs.States.{state_of}
use Rattle.stations.specs.declared.Station.{Station}
use Rattle.stations.specs.declared.Served.{Served}

abbrev pub station_of : Station → meaning.Station
station_of s =
    record {
      state = state_of s.state;
      position = s.position;
      mark = s.mark;
      in_start = s.in_start;
      in_length = s.in_length;
      out_start = s.out_start;
      out_length = s.out_length;
    }

abbrev pub stations_of : List Station → List meaning.Station
stations_of ss = map station_of ss

-- what a place past the end of a list of stations reads as
pub unlisted : Station
unlisted =
    record {
      state = record { at = 0; readings = replicate 64 0; ages = replicate 32 0 };
      position = 0;
      mark = 0;
      in_start = 0;
      in_length = 0;
      out_start = 0;
      out_length = 0;
    }

-- what a call returns, and the stations and output words at exit
abbrev pub call_of : Served → List Station → List ℕ → meaning.StationsRun
call_of r ss out = record { refusal = number_or_0 r.refusal; spent = r.spent; stations = stations_of ss; out = out }
