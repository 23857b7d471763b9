-- Document 02, Ask 1: what is promised of the reasons. Assumes nothing.
use Rattle.std.specs.Prelude.{◌≡◌, true, false, not, List, [], ◌∷◌, ℕ, suc, ◌+◌, ◌*◌, ◌^◌, ◌≤◌, ◌<◌, T, eqb, length, get_or}
use Rattle.sets.specs.Sets.{has}
use Rattle.meaning.specs.Sheet.{t_of, source}
use Rattle.meaning.specs.Check.{sheet_refusal}
use Rattle.meaning.specs.GivesWay.{gives_way}
use Rattle.meaning.specs.Reaction.{TickSets, trigger, triggered}
use Rattle.meaning.specs.Tick.{chosen, tick}
use Rattle.meaning.specs.RoundList.{tick_rounds}
use Rattle.meaning.specs.Run.{State}
use Rattle.meaning.specs.SheetRun.{sheet_run}
use Rattle.meaning.specs.Why.{Report, refused, never_active, never_triggered, gave_way_to, taken_in, refusal_of, reason_words, reason, why}

module _ (s : List ℕ) (x d i : ℕ) where
  -- the sets as round j of the tick began, counted from 0; past the last round those that the tick left
  abbrev pub sets_at : ℕ → TickSets
  sets_at j = get_or (tick_rounds s x d i) j (tick s x d i).sets

  module _ (t : ℕ) where
    -- t is triggered in round j, and so is u, to which it gives way
    abbrev pub GivesWayTo : ℕ → ℕ → Type 0
    GivesWayTo j u = T (has (triggered s d i (sets_at j)) t) × T (has (triggered s d i (sets_at j)) u) × T (gives_way s t u)

    -- "triggered but gave way, with the lowest-numbered transition it gave way to in the first such round": u, in round j
    pub record GaveWay (u : ℕ) : Type 0 where
      pub not_taken : has (tick s x d i).sets.taken t ≡ false
      pub j : ℕ
      pub here : GivesWayTo j u
      pub first : (e v : ℕ) → GivesWayTo e v → j ≤ e
      pub lowest : (v : ℕ) → GivesWayTo j v → u ≤ v

    -- "taken, with its round counted from 1": round j takes t, by the alternative a
    pub record Taken (r a : ℕ) : Type 0 where
      pub j : ℕ
      pub counted : r ≡ suc j
      pub chosen : T (has (chosen s d i (sets_at j)) t)
      pub alternative : a ≡ trigger s d i (sets_at j) t

    -- what a report says of the tick, in the document's words
    abbrev pub Says : Report → Type 0
    Says (refused e) = ⊥
    Says never_active = has (tick s x d i).sets.active (source s t) ≡ false
    Says never_triggered =
        (has (tick s x d i).sets.active (source s t) ≡ true) × ((j : ℕ) → has (triggered s d i (sets_at j)) t ≡ false)
    Says (gave_way_to u) = GaveWay u
    Says (taken_in r a) = Taken r a

-- the four reasons cover every tick that is not refused: what is reported is so
unfoldable pub ReasonHolds : Type 0
ReasonHolds =
    (s : List ℕ) → sheet_refusal s ≡ 0 → (x d i t : ℕ) → (tick s x d i).refusal ≡ 0 → Says s x d i t (reason s x d i t)

-- they exclude each other, and so do their values: nothing else is so
unfoldable pub ReasonOnly : Type 0
ReasonOnly =
    (s : List ℕ) → sheet_refusal s ≡ 0 → (x d i t : ℕ) → (tick s x d i).refusal ≡ 0
    → (r : Report) → Says s x d i t r → r ≡ reason s x d i t

-- a report beside the sheet run of the one input set: the same refusal, for a transition of the sheet and with lists long enough
unfoldable pub SameRefusal : Type 0
SameRefusal =
    (s : List ℕ) (q : State) (i t : ℕ) (out numbers : List ℕ) → t < t_of s → 5 ≤ length out → 64 ≤ length numbers
    → refusal_of (why s q i t) ≡ (sheet_run s q (i ∷ []) out numbers).run.refusal

-- and where neither is refused: "taken", reason 3, exactly where the taken words have the bit, with the number that the sheet run has;
-- "never active", reason 0, exactly where the active word lacks the source
unfoldable pub SameTick : Type 0
SameTick =
    (s : List ℕ) (q : State) (i t : ℕ) (out numbers : List ℕ) → t < t_of s → 5 ≤ length out → 64 ≤ length numbers
    → refusal_of (why s q i t) ≡ 0
    → let w = reason_words (why s q i t) in
    let o = sheet_run s q (i ∷ []) out numbers in
    (eqb (get_or w 0 4) 3 ≡ has (get_or o.run.out 3 0 + 2 ^ 32 * get_or o.run.out 4 0) t)
    × (get_or w 2 0 ≡ get_or o.numbers t 0)
    × (eqb (get_or w 0 4) 0 ≡ not (has (get_or o.run.out 2 0) (source s t)))
