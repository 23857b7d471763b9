-- What the parts of the plan are made from. Assumes nothing.
use Rattle.std.specs.Prelude.{◌≡◌, Bool, ◌||◌, cond, List, ℕ, ◌+◌, ◌*◌, ◌^◌, ◌<◌, eqb, ltb, get_or}
use Rattle.sets.specs.Sets.{single, set_of}
use Rattle.meaning.specs.Sheet.{t_of, meeting}
use Rattle.meaning.specs.Hierarchy.{exits, enters}
use Rattle.meaning.specs.Reaction.{is_delay, delay, alternative}
use Rattle.reaction.specs.Plan.{sources_in, no_sets, events_only}

-- the first n words of a list are f 0, f 1, ..
abbrev pub Words : List ℕ → ℕ → (ℕ → ℕ) → Type 0
Words l n f = (t : ℕ) → t < n → get_or l t 0 ≡ f t

module _ (s : List ℕ) where
  -- the transitions with source m
  abbrev pub from_of : ℕ → ℕ
  from_of m = sources_in s (single m)

  -- what t exits and, from bit 32 on, what it enters
  abbrev pub ends_of : ℕ → ℕ
  ends_of t = enters s t * 2 ^ 32 + exits s t

  -- an input set can trigger t by itself: t has delay 0, or event terms alone
  unfoldable pub is_sure : ℕ → Bool
  is_sure t = cond (is_delay s t) (eqb (delay s t) 0) (events_only s t)

  unfoldable pub sure : ℕ
  sure = set_of (t_of s) is_sure

  -- the input set i triggers t, one of these, where its source is active: t has a delay, or its terms hold
  unfoldable pub is_hit : ℕ → ℕ → Bool
  is_hit t i = is_delay s t || ltb 0 (alternative s i no_sets t)

-- word t is the meeting mode of transition t
unfoldable pub Meetings : List ℕ → List ℕ → Type 0
Meetings s meets = (t : ℕ) → t < t_of s → get_or meets t 0 ≡ meeting s t

-- word m is the set of the transitions with meeting mode m
unfoldable pub ByMeeting : List ℕ → List ℕ → Type 0
ByMeeting s words = (m : ℕ) → m < 32 → get_or words m 0 ≡ set_of (t_of s) (λ t. eqb (meeting s t) m)
