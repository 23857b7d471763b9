-- What the code answers for masks, as the definition of Ask 3 has it. Assumes nothing.
use Rattle.std.specs.Prelude.{List, ℕ, replicate, Result, Ok, Err}
use Rattle.meaning.specs.declared.refusal.Refusal.{Refusal}
use Rattle.meaning.specs.Refusal.{number_of}
use Rattle.meaning.specs.Within.{Masked}

-- no masks where the sheet is refused
abbrev pub masks_in : Result (List ℕ) Refusal → Masked
masks_in (Ok masks) = record { refusal = 0; masks = masks }
masks_in (Err why) = record { refusal = number_of why; masks = replicate 32 0 }
