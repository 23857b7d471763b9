-- Meeting modes of the transitions, the transitions of each meeting mode, and conflict and giving way by the words of what is within a
-- mode and of what contains it. Assumes nothing.
use mathlib.Core.Path.{◌≡◌, sym, ap₂, ◌∙◌}
use mathlib.Core.Bool.{Bool, not, ◌&&◌, ◌||◌, and_comm}
use mathlib.Core.List.{List}
use Prim.Native.Nat.{ℕ, ◌+◌, ◌<◌}
use native.Mathlib.Nat.{lt_of_le_of_lt}
use lib.Dec.{eqb}
use lib.ListN.{length, get_or, set}
use borrow.Author.Tests.{eq-eqb, ne_eqb}
use Rattle.sets.specs.Sets.{union, minus, single, set_of}
use Rattle.sets.proofs.Tests.{eqb-sym}
use Rattle.sets.proofs.Membership.{has-union, has-minus, has-single, has-set_of, union-lt, minus-le, set_of-lt, set_of_ext}
use Rattle.meaning.specs.Sheet.{n_of, t_of, contains, strictly_contains, meeting}
use Rattle.meaning.specs.Check.{sheet_refusal}
use Rattle.meaning.specs.GivesWay.{gives_way}
use Rattle.meaning.specs.Reaction.{conflict}
use Rattle.meaning.proofs.SheetLaws.{sound}
use Rattle.meaning.proofs.Containment.{meeting-lt}
use Rattle.sheet.proofs.Past.{mode_small}
use Rattle.hierarchy.specs.Unions.{UnionWithin, UnionContainers}
use Rattle.hierarchy.proofs.UnionLaws.{within_by, containers_by}
use Rattle.reaction.specs.Plan.{conflicts_of, yielders_of}
use Rattle.planner.specs.Parts.{Words, Meetings, ByMeeting}
use Rattle.planner.proofs.WordLaws.{below_words, below_added}

-- ---- the meeting mode of each transition

module _ (s : List ℕ) (h : sheet_refusal s ≡ 0) where
  -- the word of a transition
  pub meetings_word : (meets : List ℕ) → Meetings s meets → (t : ℕ) → t < t_of s → get_or meets t 0 ≡ meeting s t
  unfolding Meetings
  meetings_word meets m t l = m t l

  -- it is a place in an array of words of the modes
  pub meetings_small : (meets : List ℕ) → Meetings s meets → (t : ℕ) → t < t_of s → get_or meets t 0 < 32
  meetings_small meets m t l = rw (meetings_word meets m t l) (mode_small s h _ (meeting-lt s (sound s h) t l))

-- ---- the transitions of each meeting mode

module _ (s : List ℕ) where
  -- p is the meeting mode of u
  abbrev pub by_meeting : ℕ → ℕ → Bool
  by_meeting p u = eqb (meeting s u) p

  -- the loop that adds each transition to the word of its meeting mode p: its turn at t and its end
  pub by_meeting-turn : (l : List ℕ) (t p : ℕ) {x : ℕ} → p < length l → p < 32 → p ≡ meeting s t → x ≡ single t → Words l 32 (below_words by_meeting t)
      → Words (set l p (union (get_or l p 0) x)) 32 (below_words by_meeting (t + 1))
  by_meeting-turn l t p room b e k w =
      below_added by_meeting l 32 t p room b k (eq-eqb (meeting s t) p (sym e)) (λ i q. ne_eqb (meeting s t) i (λ y. q (sym (e ∙ y)))) w

  pub by_meeting_end : (l : List ℕ) {t : ℕ} → t ≡ t_of s → Words l 32 (below_words by_meeting t) → ByMeeting s l
  unfolding ByMeeting
  by_meeting_end l e w = rw e at w

-- ---- conflict and giving way

module _ (s : List ℕ) (t : ℕ) where
  -- the transitions whose meeting mode is within that of t, contains it, is the same
  abbrev inside : ℕ
  inside = set_of (t_of s) (λ u. contains s (meeting s t) (meeting s u))

  abbrev above : ℕ
  above = set_of (t_of s) (λ u. contains s (meeting s u) (meeting s t))

  abbrev same : ℕ
  same = set_of (t_of s) (λ u. eqb (meeting s u) (meeting s t))

  -- in conflict with t are those within and those above, without t
  conflicts_sets : minus (union inside above) (single t) ≡ conflicts_of s t
  unfolding conflicts_of conflict
  conflicts_sets =
      set_of_ext (t_of s) (λ u. not (eqb t u) && conflict s t u)
      (lt_of_le_of_lt (minus-le (union inside above) (single t)) (union-lt (t_of s) (set_of-lt (t_of s) _) (set_of-lt (t_of s) _)))
      (λ u l.
      has-minus (union inside above) (single t) u
      ∙ ap₂ (λ (a b : Bool). a && not b) (has-union inside above u ∙ ap₂ ◌||◌ (has-set_of (t_of s) _ u l) (has-set_of (t_of s) _ u l)) (has-single t u ∙ eqb-sym u t)
      ∙ and_comm (conflict s t u) (not (eqb t u)))

  -- giving way to t are those within, without those of the same mode
  yielders_sets : minus inside same ≡ yielders_of s t
  unfolding yielders_of gives_way strictly_contains
  yielders_sets =
      set_of_ext (t_of s) (λ u. gives_way s u t) (lt_of_le_of_lt (minus-le inside same) (set_of-lt (t_of s) _))
      (λ u l.
      has-minus inside same u
      ∙ ap₂ (λ (a b : Bool). a && not b) (has-set_of (t_of s) _ u l) (has-set_of (t_of s) _ u l ∙ eqb-sym (meeting s u) (meeting s t))
      ∙ and_comm (contains s (meeting s t) (meeting s u)) (not (eqb (meeting s t) (meeting s u))))

-- the same, read from the words of the meeting mode of t
module _ (s meets by : List ℕ) (h : sheet_refusal s ≡ 0) (m : Meetings s meets) (b : ByMeeting s by) (t : ℕ) (l : t < t_of s) where
  mode : meeting s t < n_of s
  mode = meeting-lt s (sound s h) t l

  by_mode : (p : ℕ) → p < n_of s → get_or by p 0 ≡ set_of (t_of s) (λ u. eqb (meeting s u) p)
  unfolding ByMeeting
  by_mode p k = b p (mode_small s h p k)

  words_inside : (within : List ℕ) → UnionWithin s by within → get_or within (meeting s t) 0 ≡ inside s t
  words_inside within u = within_by s by (t_of s) (meeting s) (meeting-lt s (sound s h)) by_mode within u (meeting s t) mode

  pub conflicts_words : (within containers : List ℕ) → UnionWithin s by within → UnionContainers s by containers
      → let p = get_or meets t 0 in minus (union (get_or within p 0) (get_or containers p 0)) (single t) ≡ conflicts_of s t
  conflicts_words within containers u v =
      rw (meetings_word s h meets m t l)
      (ap₂ (λ (x y : ℕ). minus (union x y) (single t)) (words_inside within u) (containers_by s by (t_of s) (meeting s) (meeting-lt s (sound s h)) by_mode containers v (meeting s t) mode)
      ∙ conflicts_sets s t)

  pub yielders_words : (within : List ℕ) → UnionWithin s by within → let p = get_or meets t 0 in minus (get_or within p 0) (get_or by p 0) ≡ yielders_of s t
  yielders_words within u = rw (meetings_word s h meets m t l) (ap₂ minus (words_inside within u) (by_mode (meeting s t) mode) ∙ yielders_sets s t)
