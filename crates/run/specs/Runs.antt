-- What a run by deadlines returns. Assumes nothing.
use Rattle.std.specs.Prelude.{List, ℕ}
use Rattle.meaning.specs.Run.{Run}
use Rattle.run.specs.States.{state_by}

-- a run that ends after some ticks in a mode set (or block), by the deadlines of the timers that run and the ticks in which the
-- ages of the active modes reach their limit
abbrev pub ended_run : List ℕ → List ℕ → ℕ → ℕ → ℕ → ℕ → ℕ → ℕ → List ℕ → Run
ended_run ends limits at active timers done total refusal out =
    record { done = done; state = state_by ends limits at active timers done; refusal = refusal; rounds = total; out = out }
