-- A round by the words of the plan is the round of the meaning. Assumes nothing.
use mathlib.Core.Path.{◌≡◌, refl, sym, ap, ◌∙◌}
use mathlib.Core.Bool.{Bool, not, ◌&&◌, and_comm}
use mathlib.Core.List.{List}
use Prim.Native.Nat.{ℕ, ◌+◌, ◌*◌, ◌/◌, ◌%◌, ◌^◌, ◌<◌}
use native.Mathlib.Nat.{lt_of_lt_of_le, lt_of_le_of_lt, mod-lt}
use native.Mathlib.Omega.{arith}
use lib.Dec.{eqb}
use lib.Pow.{pow_mono, pow_pos}
use lib.ListN.{get_or}
use Rattle.sets.specs.Sets.{has, union, meet, minus, meets, set_of, members, some_in}
use Rattle.sets.proofs.Membership.{ext, same_members, union_assoc, has-minus, minus-meet, has-join_low, has_low, has_shr, has-join-high, has-set_of, set_of-lt, union-lt, minus-le, has-those, those-lt}
use Rattle.sets.proofs.Members.{fold, fold_part}
use Rattle.sets.proofs.Quantifiers.{some_same, some_in_same, some_in_swap, meets-some}
use Rattle.sets.proofs.Widths.{meet-set_of, has_over, union_over}
use Rattle.meaning.specs.Sheet.{n_of, t_of}
use Rattle.meaning.specs.Hierarchy.{complete, exits, enters}
use Rattle.meaning.specs.GivesWay.{gives_way}
use Rattle.meaning.specs.Reaction.{TickSets, triggered, conflict, eligible, ambiguous, restless, exiting, entering, after_round}
use Rattle.meaning.proofs.SheetLaws.{sound, n_le}
use Rattle.reaction.specs.declared.plan.Plan.{Plan}
use Rattle.reaction.specs.Plan.{conflicts_of, yielders_of, woken_by, next_of, Planned}
use Rattle.reaction.specs.Rounds.{sets_of, after_ends, add_move, exits_of, MovesOf}
use Rattle.reaction.specs.declared.tick.Sets.{Sets}
use Rattle.reaction.specs.declared.tick.Moves.{Moves}
use Rattle.reaction.proofs.PlanLaws.{sources_in-lt}

-- the moves of no transition
abbrev pub no_moves : Moves
no_moves = record { ends = 0; clashes = 0; next = 0 }

module _ (s : List ℕ) where
  -- ---- eligible: the triggered transitions without those that give way to one of them

  pub yielders_small : (t : ℕ) → yielders_of s t < 2 ^ t_of s
  unfolding yielders_of
  yielders_small t = set_of-lt (t_of s) (λ u. gives_way s u t)

  pub eligible_words : (ts : ℕ) → ts < 2 ^ t_of s
      → minus ts (set_of (t_of s) (λ u. some_in (t_of s) ts (λ t. has (yielders_of s t) u))) ≡ eligible s ts
  unfolding eligible yielders_of
  eligible_words ts h =
      ext (t_of s) (lt_of_le_of_lt (minus-le ts (set_of (t_of s) y)) h) (those-lt (t_of s) ts (λ t. not (some_in (t_of s) ts (gives_way s t))))
      (λ u l.
      has-minus ts (set_of (t_of s) y) u
      ∙ ap (λ (b : Bool). has ts u && not b)
      (has-set_of (t_of s) y u l
      ∙ some_in_same (t_of s) ts (λ t. has (yielders_of s t) u) (gives_way s u) (λ t k. has-set_of (t_of s) (λ v. gives_way s v t) u l))
      ∙ sym (has-those (t_of s) ts (λ t. not (some_in (t_of s) ts (gives_way s t))) u l))
    where
      y : ℕ → Bool
      y u = some_in (t_of s) ts (λ t. has (yielders_of s t) u)

  -- ---- the sets of modes and transitions are no wider than n and T

  pub triggered_small : (d i : ℕ) (z : TickSets) → triggered s d i z < 2 ^ t_of s
  unfolding triggered
  triggered_small d i z = set_of-lt (t_of s) _

  pub eligible_small : (ts : ℕ) → eligible s ts < 2 ^ t_of s
  unfolding eligible
  eligible_small ts = those-lt (t_of s) ts _

  exits_small : (t : ℕ) → exits s t < 2 ^ n_of s
  unfolding exits
  exits_small t = set_of-lt (n_of s) _

  enters_small : (t : ℕ) → enters s t < 2 ^ n_of s
  unfolding enters complete
  enters_small t = set_of-lt (n_of s) _

  -- ---- what transitions do together, by the words of the plan

  module _ (plan : Plan) (pl : Planned s plan) (es : ℕ) (h : es < 2 ^ 64) (l : es < 2 ^ t_of s) where
    -- the part of a loop's moves that is read at a place of the plan
    moved : (w : ℕ) (words : List ℕ) (part : Moves → ℕ) (g : ℕ → ℕ) → ((m : Moves) (t : ℕ) → part (add_move plan m t) ≡ union (part m) (get_or words t 0))
        → part no_moves ≡ 0 → ((t : ℕ) → t < t_of s → get_or words t 0 ≡ g t) → ((t : ℕ) → g t < 2 ^ w)
        → part (fold (add_move plan) no_moves (members 64 es)) ≡ set_of w (λ i. some_in (t_of s) es (λ t. has (g t) i))
    moved w words part g e z r b =
        fold_part (add_move plan) (λ x t. union x (get_or words t 0)) part e no_moves (members 64 es)
        ∙ ap (λ (x : ℕ). fold (λ y t. union y (get_or words t 0)) x (members 64 es)) z
        ∙ union_over 64 (t_of s) w es (λ t. get_or words t 0) g h l r b

    abbrev all : Moves
    all = fold (add_move plan) no_moves (members 64 es)

    -- what t exits and enters, in one word
    abbrev both : ℕ → ℕ
    both t = enters s t * 2 ^ 32 + exits s t

    narrow : {x : ℕ} → x < 2 ^ n_of s → x < 2 ^ 32
    narrow k = lt_of_lt_of_le k (pow_mono (n_le s (sound s pl.passes)))

    ends_word : all.ends ≡ set_of 64 (λ i. some_in (t_of s) es (λ t. has (both t) i))
    ends_word = moved 64 plan.ends (λ m. m.ends) both (λ m t. refl) refl pl.ends_at (λ t. omega (arith, narrow (exits_small t), narrow (enters_small t)))

    ends_at_lem : (i : ℕ) → i < 64 → has all.ends i ≡ some_in (t_of s) es (λ t. has (both t) i)
    ends_at_lem i k = ap (λ (x : ℕ). has x i) ends_word ∙ has-set_of 64 (λ j. some_in (t_of s) es (λ t. has (both t) j)) i k

    exits_word : all.ends % 2 ^ 32 ≡ exits_of s es
    unfolding exits_of
    exits_word =
        ext 32 (mod-lt all.ends (pow_pos 32)) (narrow (set_of-lt (n_of s) _))
        (λ i k.
        has_low 32 all.ends i k
        ∙ ends_at_lem i (omega arith)
        ∙ some_in_same (t_of s) es (λ t. has (both t) i) (λ t. has (exits s t) i) (λ t l. has-join_low 32 (enters s t) (exits s t) i k)
        ∙ sym (has_over (t_of s) (n_of s) es (exits s) exits_small i))

    enters_word : all.ends / 2 ^ 32 ≡ entering s es
    unfolding entering
    enters_word =
        same_members (λ i.
        has_shr 32 all.ends i
        ∙ ap (λ (x : ℕ). has x (32 + i)) ends_word
        ∙ has_over (t_of s) 64 es both (λ t. omega (arith, narrow (exits_small t), narrow (enters_small t))) (32 + i)
        ∙ some_in_same (t_of s) es (λ t. has (both t) (32 + i)) (λ t. has (enters s t) i) (λ t l. has-join-high 32 (enters s t) (exits s t) i (narrow (exits_small t)))
        ∙ sym (has_over (t_of s) (n_of s) es (enters s) enters_small i))

    next_small : (t : ℕ) → next_of s t < 2 ^ t_of s
    unfolding next_of woken_by
    next_small t = union-lt (t_of s) (sources_in-lt s (enters s t)) (set_of-lt (t_of s) _)

    pub moves_all : MovesOf s es all
    unfolding conflicts_of
    moves_all =
        record {
          exits = exits_word;
          enters = enters_word;
          clashes = moved (t_of s) plan.conflicts (λ m. m.clashes) (conflicts_of s) (λ m t. refl) refl pl.conflicts_at (λ t. set_of-lt (t_of s) _);
          next = moved (t_of s) plan.next (λ m. m.next) (next_of s) (λ m t. refl) refl pl.next_at next_small;
        }

  -- ---- 8 and 9

  -- some of es are in conflict with others of es
  pub clashes_ambiguous : (es : ℕ) → meets (set_of (t_of s) (λ u. some_in (t_of s) es (λ t. has (conflicts_of s t) u))) es ≡ ambiguous s es
  unfolding ambiguous conflicts_of some_in
  clashes_ambiguous es =
      meets-some (t_of s) (set_of (t_of s) c) es (set_of-lt (t_of s) c)
      ∙ some_same (t_of s) (λ u. has (set_of (t_of s) c) u && has es u) (λ u. has es u && c u)
      (λ u l. and_comm (has (set_of (t_of s) c) u) (has es u) ∙ ap (λ (b : Bool). has es u && b) (has-set_of (t_of s) c u l))
      ∙ some_in_swap (t_of s) (t_of s) es es (λ u t. has (conflicts_of s t) u)
      ∙ some_in_same (t_of s) es (λ t. some_in (t_of s) es (has (conflicts_of s t))) (λ t. some_in (t_of s) es (apart t))
      (λ t l. some_in_same (t_of s) es (has (conflicts_of s t)) (apart t) (λ u k. has-set_of (t_of s) (apart t) u k))
    where
      c : ℕ → Bool
      c u = some_in (t_of s) es (λ t. has (conflicts_of s t) u)

      apart : ℕ → ℕ → Bool
      apart t u = not (eqb t u) && conflict s t u

  pub clash : (es : ℕ) (m : Moves) → MovesOf s es m → meets m.clashes es ≡ ambiguous s es
  clash es m h = ap (λ (x : ℕ). meets x es) h.clashes ∙ clashes_ambiguous es

  pub taken_again : (z : TickSets) (es : ℕ) → es < 2 ^ t_of s → meets es z.taken ≡ restless s z es
  unfolding restless some_in
  taken_again z es h = meets-some (t_of s) es z.taken h

  -- ---- the sets after a round

  exits_active : (z : TickSets) (es : ℕ) → meet z.modes (exits_of s es) ≡ exiting s z es
  unfolding exits_of exiting
  exits_active z es = meet-set_of (n_of s) z.modes _

  pub after_ends_lem : (begun : ℕ) (z : Sets) (es : ℕ) (m : Moves) → MovesOf s es m → sets_of begun (after_ends z m.ends es) ≡ after_round s (sets_of begun z) es
  unfolding after_round
  after_ends_lem begun z es m h =
      simp (h.exits, h.enters, ← minus-meet z.modes (exits_of s es), exits_active (sets_of begun z) es, ← union_assoc begun z.entered (entering s es))
