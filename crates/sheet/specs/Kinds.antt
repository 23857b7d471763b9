-- The kinds of modes and of terms by the document's numbers. Assumes nothing.
use Rattle.std.specs.Prelude.{◌≡◌, ◌<◌, ℕ, Result, MatchResult}
use Rattle.sheet.specs.declared.kinds.ModeKind.{ModeKind}
use Rattle.sheet.specs.declared.kinds.ModeKind.TheVariants.{Atomic, Serial, Parallel}
use Rattle.sheet.specs.declared.kinds.TermKind.{TermKind}
use Rattle.sheet.specs.declared.kinds.TermKind.TheVariants.{Delay, Present, Absent, Active, Entered, Exited, Taken, Or}
use Rattle.sheet.specs.declared.kinds.UnknownKind.{UnknownKind}

-- "kind (0 atomic, 1 serial, 2 parallel)"
abbrev pub mode_kind : ModeKind → ℕ
mode_kind Atomic = 0
mode_kind Serial = 1
mode_kind Parallel = 2

abbrev pub term_kind : TermKind → ℕ
term_kind Delay = 0
term_kind Present = 1
term_kind Absent = 2
term_kind Active = 3
term_kind Entered = 4
term_kind Exited = 5
term_kind Taken = 6
term_kind Or = 7

-- the result is the kind with a number, or an error with a number that no kind has
abbrev pub IsModeKind : ℕ → Result ModeKind UnknownKind → Type 0
IsModeKind n r = MatchResult r (λ k. n ≡ mode_kind k) (λ e. (e.0 ≡ n) × (2 < n))

abbrev pub IsTermKind : ℕ → Result TermKind UnknownKind → Type 0
IsTermKind n r = MatchResult r (λ k. n ≡ term_kind k) (λ e. (e.0 ≡ n) × (7 < n))
