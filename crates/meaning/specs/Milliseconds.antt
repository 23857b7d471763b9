-- Document 02, Ask 7: delays in milliseconds, as ticks and the milliseconds left over; and what is promised of them. Assumes nothing.
use Rattle.std.specs.Prelude.{◌≡◌, Bool, ◌||◌, cond, List, [], ◌∷◌, ℕ, ◌+◌, ◌*◌, ◌/◌, ◌%◌, ◌≤◌, ◌<◌, eqb, ltb, length, get_or}
use Rattle.sets.specs.Sets.{some}
use Rattle.meaning.specs.Lists.{overwritten, refused_if, first_refusal}

-- "each delay in ticks and the milliseconds left over": "delay i has its ticks at word 2i, its rest at 2i + 1"
unfoldable pub ticks_and_rests : ℕ → List ℕ → List ℕ
ticks_and_rests tick [] = []
ticks_and_rests tick (d ∷ ds) = let r = ticks_and_rests tick ds in d / tick ∷ d % tick ∷ r

-- 12: "Fewer than two result words per delay"
unfoldable pub results_short : List ℕ → List ℕ → Bool
results_short delays results = ltb (length results) (2 * length delays)

-- 20: "a tick length of 0, or a result over 65,535 ticks"
unfoldable pub ticks_out_of_range : ℕ → List ℕ → Bool
ticks_out_of_range tick delays = eqb tick 0 || some (length delays) (λ i. ltb 65535 (get_or delays i 0 / tick))

-- the refusal, and the result words at exit
pub record Converted : Type 0 where
  pub refusal : ℕ
  pub results : List ℕ

-- "Fewer .. is 12; then .. is 20; both leave the results unchanged"; words past those of the delays stay
unfoldable pub milliseconds : ℕ → List ℕ → List ℕ → Converted
milliseconds tick delays results =
    let e = first_refusal (refused_if (results_short delays results) 12 ∷ refused_if (ticks_out_of_range tick delays) 20 ∷ []) in
    record { refusal = e; results = cond (eqb e 0) (overwritten (ticks_and_rests tick delays) results) results }

-- ---- what is promised of a conversion that is not refused, of each delay

-- "ticks times tick length plus the rest is the delay"
unfoldable pub WholeDelay : Type 0
WholeDelay =
    (tick : ℕ) (delays results : List ℕ) → (milliseconds tick delays results).refusal ≡ 0 → (i : ℕ) → i < length delays
    → let w = (milliseconds tick delays results).results in get_or w (2 * i) 0 * tick + get_or w (2 * i + 1) 0 ≡ get_or delays i 0

-- "the rest is below the tick length"
unfoldable pub RestBelow : Type 0
RestBelow =
    (tick : ℕ) (delays results : List ℕ) → (milliseconds tick delays results).refusal ≡ 0 → (i : ℕ) → i < length delays
    → get_or (milliseconds tick delays results).results (2 * i + 1) 0 < tick

-- "The sheet takes the ticks": they are a delay that a sheet may have
unfoldable pub TicksFit : Type 0
TicksFit =
    (tick : ℕ) (delays results : List ℕ) → (milliseconds tick delays results).refusal ≡ 0 → (i : ℕ) → i < length delays
    → get_or (milliseconds tick delays results).results (2 * i) 0 ≤ 65535
