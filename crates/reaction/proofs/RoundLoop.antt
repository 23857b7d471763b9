-- The loop over the rounds of a tick that began in the modes `begun`, those of them `entered`, with the triggered transitions `first`, on
-- the input i: what is left of the rounds gives what all give. Assumes nothing.
use mathlib.Core.Path.{◌≡◌, sym, ap, ap₂, ◌∙◌, subst}
use mathlib.Core.Bool.{true, false, ◌&&◌, cond}
use mathlib.Core.List.{List}
use Prim.Native.Nat.{ℕ, suc, ◌+◌, ◌-◌, ◌*◌, ◌/◌, ◌%◌, ◌^◌, ◌≤◌, ◌<◌}
use native.Mathlib.Nat.{sub-zero, lt_of_lt_of_le}
use native.Mathlib.Numerals.{add-one}
use native.Mathlib.Omega.{arith}
use Rattle.std.specs.Prelude.{Option, Some, None}
use lib.Dec.{T, eqb, ltb}
use lib.Pow.{pow_mono}
use borrow.Author.Tests.{ne_eqb}
use Rattle.sets.specs.Sets.{has, union, meet, meets, those}
use Rattle.sets.proofs.Tests.{is_false, of_false}
use Rattle.sets.proofs.Membership.{has_none, same_members, set_of-lt, union-lt}
use Rattle.meaning.specs.Sheet.{n_of, k_of, t_of, source}
use Rattle.meaning.specs.Check.{sheet_refusal}
use Rattle.meaning.specs.Refusal.{number_or_0}
use Rattle.meaning.specs.declared.refusal.Refusal.{Refusal}
use Rattle.meaning.specs.declared.refusal.Refusal.TheVariants.{Ambiguous, Restless}
use Rattle.meaning.specs.Hierarchy.{consistent}
use Rattle.meaning.specs.Reaction.{TickSets, alternative, triggered, eligible, ambiguous, restless, entering, after_round}
use Rattle.meaning.specs.Tick.{Tick, chosen}
use Rattle.meaning.proofs.SheetLaws.{sound, n_le}
use Rattle.meaning.proofs.GivesWayLaws.{eligible_among, eligible_exists}
use Rattle.meaning.proofs.TickLaws.{Taken, triggered-lt}
use Rattle.meaning.proofs.Consistency.{consistent_after}
use Rattle.reaction.specs.Plan.{hits_of, mixed}
use Rattle.reaction.specs.Rounds.{sets_of, tick_of, ended_so, first_sets, after_ends, next_in, RoundOf, rounds_by, Begun}
use Rattle.reaction.specs.declared.tick.Sets.{Sets}
use Rattle.reaction.specs.declared.tick.Ticked.{Ticked}
use Rattle.reaction.specs.declared.tick.Round.{Round}
use Rattle.reaction.proofs.RoundLaws.{eligible_small, clash, taken_again, after_ends_lem}
use Rattle.reaction.proofs.NextLaws.{next_triggered}

-- nothing is eligible of nothing
pub eligible_none : (s : List ℕ) → eligible s 0 ≡ 0
eligible_none s = same_members (λ t. is_false (has (eligible s 0) t) (λ k. of_false (has_none t) (eligible_among s 0 t k)) ∙ sym (has_none t))

module _ (s : List ℕ) (begun entered first i : ℕ) where
  abbrev pub all : Tick
  all = rounds_by s (suc (t_of s)) i (sets_of begun (first_sets begun entered)) first 0

  -- after r rounds, with the sets z and the triggered transitions ts
  pub record Left (z : Sets) (ts r : ℕ) : Type 0 where
    pub within : r ≤ suc (t_of s)
    pub narrow : z.entered < 2 ^ 32
    pub known : T (consistent s z.modes)
    pub due : ℕ
    pub triggers : ts ≡ triggered s due i (sets_of begun z)
    pub same : rounds_by s (suc (t_of s) - r) i (sets_of begun z) ts r ≡ all

  pub left_start : entered < 2 ^ 32 → Begun s begun entered first i → Left (first_sets begun entered) first 0
  left_start b h =
      record { within = omega arith; narrow = b; known = h.known; due = h.due; triggers = h.triggers; same = simp sub-zero }

  -- the tick ends with refusal `why`
  given : {z : Sets} {ts r : ℕ} (why : Option Refusal) → Left z ts r → record { refusal = number_or_0 why; sets = sets_of begun z; rounds = r } ≡ all
      → {t : Ticked} → t ≡ ended_so why z r → tick_of begun t ≡ all
  given {z} {ts} {r} why l p e =
      let low : (z.exited * 2 ^ 32 + z.entered) % 2 ^ 32 ≡ z.entered = omega (arith, l.narrow) in
      let high : (z.exited * 2 ^ 32 + z.entered) / 2 ^ 32 ≡ z.exited = omega (arith, l.narrow) in
      ap (tick_of begun) e ∙ simp (low, high) p

  -- nothing is left
  pub left_none : {z : Sets} {ts r : ℕ} → Left z ts r → t_of s < r → {t : Ticked} → t ≡ ended_so None z r → tick_of begun t ≡ all
  unfolding rounds_by
  left_none {z} {ts} {r} l h =
      let e : suc (t_of s) - r ≡ 0 = omega arith in
      given None l (ap (λ (f : ℕ). rounds_by s f i (sets_of begun z) ts r) (sym e) ∙ l.same)

-- one more round
module _ {s : List ℕ} {begun entered first i : ℕ} {z : Sets} {ts r : ℕ} (l : Left s begun entered first i z ts r) (w : r ≤ t_of s) where
  abbrev ended : ℕ → Tick
  ended why = record { refusal = why; sets = sets_of begun z; rounds = r }

  next : cond (eqb (eligible s ts) 0) (ended 0) (cond (ambiguous s (eligible s ts)) (ended 8) (cond (restless s (sets_of begun z) (eligible s ts)) (ended 9)
      (rounds_by s (t_of s - r) i (after_round s (sets_of begun z) (eligible s ts)) (triggered s 0 i (after_round s (sets_of begun z) (eligible s ts))) (suc r))))
      ≡ all s begun entered first i
  unfolding rounds_by
  next =
      let f : suc (t_of s) - r ≡ suc (t_of s - r) = omega arith in
      ap (λ (x : ℕ). rounds_by s x i (sets_of begun z) ts r) (sym f) ∙ l.same

  pub round_still : ts ≡ 0 → {t : Ticked} → t ≡ ended_so None z r → tick_of begun t ≡ all s begun entered first i
  round_still e = given s begun entered first i None l (rw (ap (eligible s) e ∙ eligible_none s) at next)

  module _ (h : sheet_refusal s ≡ 0) (filled : ts ≡ 0 → ⊥) {o : Round} (c : RoundOf s ts o) where
    abbrev es : ℕ
    es = o.chosen

    -- something is eligible
    some : eligible s ts ≡ 0 → ⊥
    some e = filled (same_members (λ t. is_false (has ts t) (none t) ∙ sym (has_none t)))
      where
        none : (t : ℕ) → T (has ts t) → ⊥
        none t m =
            let u = eligible_exists s (sound s h) ts lt t m in
            of_false (has_none u.0) (subst (λ (x : ℕ). T (has x u.0)) e u.1)
          where
            lt : (v : ℕ) → T (has ts v) → v < t_of s
            lt v k = triggered-lt s l.due i (sets_of begun z) v (subst (λ (x : ℕ). T (has x v)) l.triggers k)

    next_by : cond (ambiguous s es) (ended 8) (cond (restless s (sets_of begun z) es) (ended 9)
        (rounds_by s (t_of s - r) i (after_round s (sets_of begun z) es) (triggered s 0 i (after_round s (sets_of begun z) es)) (suc r)))
        ≡ all s begun entered first i
    next_by =
        ap (λ (x : ℕ).
        cond (ambiguous s x) (ended 8) (cond (restless s (sets_of begun z) x) (ended 9)
        (rounds_by s (t_of s - r) i (after_round s (sets_of begun z) x) (triggered s 0 i (after_round s (sets_of begun z) x)) (suc r)))) c.chosen
        ∙ (rw (ne_eqb (eligible s ts) 0 some) at next)

    pub round_ambiguous : meets o.moves.clashes es ≡ true → {t : Ticked} → t ≡ ended_so (Some Ambiguous) z r → tick_of begun t ≡ all s begun entered first i
    round_ambiguous b = given s begun entered first i (Some Ambiguous) l (rw (sym (clash s es o.moves c.moves) ∙ b) at next_by)

    module _ (b : meets o.moves.clashes es ≡ false) where
      small : es < 2 ^ t_of s
      small = rw c.chosen (eligible_small s ts)

      pub round_restless : meets es z.taken ≡ true → {t : Ticked} → t ≡ ended_so (Some Restless) z r → tick_of begun t ≡ all s begun entered first i
      round_restless q =
          given s begun entered first i (Some Restless) l
          (rw (sym (clash s es o.moves c.moves) ∙ b, sym (taken_again s (sets_of begun z) es small) ∙ q) at next_by)

      module _ (q : meets es z.taken ≡ false) (v : i < 2 ^ k_of s) where
        abbrev z' : Sets
        z' = after_ends z o.moves.ends es

        after : sets_of begun z' ≡ after_round s (sets_of begun z) es
        after = after_ends_lem s begun z es o.moves c.moves

        is_chosen : es ≡ chosen s l.due i (sets_of begun z)
        unfolding chosen
        is_chosen = c.chosen ∙ ap (eligible s) l.triggers

        taken : Taken s l.due i (sets_of begun z)
        taken =
            record {
              filled = ap (λ (x : ℕ). eqb x 0) (sym is_chosen) ∙ ne_eqb es 0 (λ e. some (sym c.chosen ∙ e));
              clear = ap (ambiguous s) (sym is_chosen) ∙ sym (clash s es o.moves c.moves) ∙ b;
              fresh = ap (restless s (sets_of begun z)) (sym is_chosen) ∙ sym (taken_again s (sets_of begun z) es small) ∙ q;
            }

        -- what is triggered next, by the transitions nx that can be and the sets y
        abbrev by : ℕ → TickSets → ℕ
        by nx y = union (meet nx (hits_of s i)) (those 64 (meet nx (mixed s)) (λ t. has y.modes (source s t) && ltb 0 (alternative s i y t)))

        after_chosen : sets_of begun z' ≡ after_round s (sets_of begun z) (chosen s l.due i (sets_of begun z))
        after_chosen = after ∙ ap (after_round s (sets_of begun z)) is_chosen

        triggers_next : by o.moves.next (sets_of begun z') ≡ triggered s 0 i (sets_of begun z')
        triggers_next =
            ap₂ by (c.moves.next ∙ ap (next_in s) is_chosen) after_chosen
            ∙ sym (next_triggered s h l.due 0 i (sets_of begun z) v l.known (λ t k. absurd (of_false (has_none t) k)))
            ∙ ap (triggered s 0 i) (sym after_chosen)

        round_taken : {ts' : ℕ}
            → ts' ≡ union (meet o.moves.next (hits_of s i)) (those 64 (meet o.moves.next (mixed s)) (λ t.
            has (after_ends z o.moves.ends es).modes (source s t) && ltb 0 (alternative s i (sets_of begun (after_ends z o.moves.ends es)) t)))
            → Left s begun entered first i (after_ends z o.moves.ends es) ts' (r + 1)
        round_taken {ts'} e =
            let f : t_of s - r ≡ suc (t_of s) - (r + 1) = omega arith in
            record {
              within = omega (arith, w);
              narrow = union-lt 32 l.narrow (rw c.moves.enters (lt_of_lt_of_le entering-lt (pow_mono (n_le s (sound s h)))));
              known = subst (λ (y : TickSets). T (consistent s y.modes)) (sym after_chosen)
                  (consistent_after s (sound s h) l.due i (sets_of begun z) l.known taken);
              due = 0;
              triggers = e ∙ triggers_next;
              same =
                  ap₂ (λ (y : TickSets) (x : ℕ). rounds_by s (suc (t_of s) - (r + 1)) i y x (r + 1)) after (e ∙ triggers_next ∙ ap (triggered s 0 i) after)
                  ∙ ap₂ (λ (x y : ℕ). rounds_by s x i (after_round s (sets_of begun z) es) (triggered s 0 i (after_round s (sets_of begun z) es)) y) (sym f) (add-one r)
                  ∙ (rw (sym (clash s es o.moves c.moves) ∙ b, sym (taken_again s (sets_of begun z) es small) ∙ q) at next_by);
            }
          where
            entering-lt : entering s es < 2 ^ n_of s
            entering-lt = unfold entering in (set_of-lt (n_of s) _)

        -- by the words of the plan, and the sets as they were computed
        module _ {ts' hits unsure : ℕ} {y : Sets} (a : hits ≡ hits_of s i) (m : unsure ≡ mixed s) (e : y ≡ z')
            (g : ts' ≡ union (meet o.moves.next hits) (those 64 (meet o.moves.next unsure) (λ t.
            has y.modes (source s t) && ltb 0 (alternative s i (sets_of begun y) t)))) where
          by_words : ts' ≡ by o.moves.next (sets_of begun z')
          by_words =
              g
              ∙ ap₂ (λ (p q : ℕ). union (meet o.moves.next p) (those 64 (meet o.moves.next q) (λ t.
              has y.modes (source s t) && ltb 0 (alternative s i (sets_of begun y) t)))) a m
              ∙ ap (λ (x : Sets). by o.moves.next (sets_of begun x)) e

          pub round_triggers : ts' ≡ triggered s 0 i (after_round s (sets_of begun z) es)
          round_triggers = by_words ∙ triggers_next ∙ ap (triggered s 0 i) after

          pub round_by : Left s begun entered first i y ts' (r + 1)
          round_by = subst (λ (x : Sets). Left s begun entered first i x ts' (r + 1)) (sym e) (round_taken by_words)
