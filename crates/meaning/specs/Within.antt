-- Document 02, Ask 3: for each mode the mask of the modes strictly within it; and what is promised of the masks. Assumes nothing.
use Rattle.std.specs.Prelude.{◌≡◌, ◌||◌, false, cond, ◌⊎◌, List, ℕ, ◌≤◌, ◌<◌, eqb, get_or, replicate}
use Rattle.sets.specs.Sets.{has, set_of}
use Rattle.meaning.specs.Lists.{row_from}
use Rattle.meaning.specs.Sheet.{n_of, t_of, strictly_contains, meeting}
use Rattle.meaning.specs.Check.{sheet_refusal}
use Rattle.meaning.specs.GivesWay.{gives_way}
use Rattle.meaning.specs.Reaction.{conflict}

module _ (s : List ℕ) where
  -- "the mask of modes strictly within each mode": of mode p
  unfoldable pub within : ℕ → ℕ
  within p = set_of (n_of s) (strictly_contains s p)

  -- one for each number that a mode can have
  unfoldable pub within_each : List ℕ
  within_each = row_from 0 32 within

-- the refusal, and the masks
pub record Masked : Type 0 where
  pub refusal : ℕ
  pub masks : List ℕ

-- "For every sheet past 1 to 6"; of any other sheet every mask is 0
unfoldable pub masks_of : List ℕ → Masked
masks_of s =
    let e = sheet_refusal s in
    record { refusal = e; masks = cond (eqb e 0) (within_each s) (replicate 32 0) }

-- ---- what is promised of the masks of a sheet past 1 to 6

-- "bit m of mode p's mask is set exactly when p strictly contains m"
unfoldable pub MaskExact : Type 0
MaskExact =
    (s : List ℕ) → sheet_refusal s ≡ 0 → (p m : ℕ) → p < n_of s → m < n_of s
    → has (get_or (masks_of s).masks p 0) m ≡ strictly_contains s p m

-- no other bit is set: masks at n and above are 0, and no mask has a bit at n or above
unfoldable pub MaskNoOther : Type 0
MaskNoOther =
    (s : List ℕ) → sheet_refusal s ≡ 0 → (p m : ℕ) → (n_of s ≤ p) ⊎ (n_of s ≤ m)
    → has (get_or (masks_of s).masks p 0) m ≡ false

-- "test conflict by mask": of two transitions, and which gives way, by the masks of their meeting modes
unfoldable pub ConflictByMask : Type 0
ConflictByMask =
    (s : List ℕ) → sheet_refusal s ≡ 0 → (t u : ℕ) → t < t_of s → u < t_of s
    → conflict s t u
    ≡ (eqb (meeting s t) (meeting s u)
    || has (get_or (masks_of s).masks (meeting s t) 0) (meeting s u)
    || has (get_or (masks_of s).masks (meeting s u) 0) (meeting s t))

unfoldable pub GivesWayByMask : Type 0
GivesWayByMask =
    (s : List ℕ) → sheet_refusal s ≡ 0 → (t u : ℕ) → t < t_of s → u < t_of s
    → gives_way s t u ≡ has (get_or (masks_of s).masks (meeting s u) 0) (meeting s t)
