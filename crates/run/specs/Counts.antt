-- A total of rounds. Assumes nothing.
use Rattle.std.specs.Prelude.{ℕ, ◌+◌, ◌*◌, ◌^◌}
use Rattle.run.specs.declared.counts.Rounds.{Rounds}

abbrev pub total_of : Rounds → ℕ
total_of r = r.0 * 2 ^ 32 + r.1
