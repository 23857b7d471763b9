-- States by deadlines: the reading of a timer that runs is its deadline less the ticks done; ages by the ticks of their limits. Assumes nothing.
use mathlib.Core.Path.{◌≡◌, sym, ap, ap₂, ◌∙◌, subst}
use mathlib.Core.Bool.{Bool, true, false, ◌&&◌, cond}
use mathlib.Core.List.{List}
use Prim.Native.Nat.{ℕ, ◌+◌, ◌-◌, ◌%◌, ◌^◌, ◌≤◌, ◌<◌}
use native.Mathlib.Nat.{sub-zero, mod-eq_of_lt}
use native.Mathlib.Omega.{arith}
use lib.Dec.{T, eqb, leb, eqb→eq, leb→le}
use lib.ListN.{length, get_or}
use borrow.Author.Tests.{eq-eqb}
use Rattle.sets.specs.Sets.{has, those}
use Rattle.sets.proofs.Tests.{is_true, of_true, and_l, and_r, bool_ext, cond_ext}
use Rattle.sets.proofs.Membership.{those_same}
use Rattle.meaning.specs.Lists.{row_from}
use Rattle.meaning.specs.Ages.{next_ages}
use Rattle.meaning.specs.Run.{State, reading, due_timers, next_readings, next_state}
use Rattle.meaning.proofs.ListLaws.{row_at, row_from_ext, row_from-get_or}
use Rattle.run.specs.Entries.{ages_by}
use Rattle.run.specs.States.{state_by}
use Rattle.run.proofs.ReadingTests.{reading_fits}

-- the readings after i ticks, of timers with these deadlines
abbrev pub readings_from : ℕ → List ℕ → ℕ → List ℕ
readings_from timers ends i = row_from 0 64 (λ t. cond (has timers t) (get_or ends t 0 - i) 0)

-- the state after i ticks in a mode set (or block), whose active modes have ages with these limits
abbrev pub state_from : ℕ → ℕ → ℕ → List ℕ → List ℕ → ℕ → State
state_from at active timers ends limits i = record { at = at; readings = readings_from timers ends i; ages = ages_by limits active i }

module _ (timers : ℕ) (ends : List ℕ) (i : ℕ) where
  pub reading_from : (t : ℕ) → t < 64 → T (has timers t) → get_or (readings_from timers ends i) t 0 ≡ get_or ends t 0 - i
  reading_from t l h = rw (row_at 64 (λ u. cond (has timers u) (get_or ends u 0 - i) 0) t l, is_true (has timers t) h)

  -- a timer is due in the tick of its deadline
  pub due_deadlines : ((t : ℕ) → t < 64 → T (has timers t) → i < get_or ends t 0)
      → those 64 timers (λ t. eqb (get_or ends t 0) (i + 1)) ≡ due_timers timers (readings_from timers ends i)
  unfolding due_timers reading
  due_deadlines later =
      those_same 64 timers (λ t. eqb (get_or ends t 0) (i + 1)) (λ t. eqb (get_or (readings_from timers ends i) t 0 - 1) 0)
      (λ t l h. ahead (get_or ends t 0) (later t l (of_true h)) ∙ ap (λ (r : ℕ). eqb (r - 1) 0) (sym (reading_from t l (of_true h))))
    where
      ahead : (e : ℕ) → i < e → eqb e (i + 1) ≡ eqb (e - i - 1) 0
      ahead e l =
          bool_ext (eqb e (i + 1)) (eqb (e - i - 1) 0)
          (λ h. let k = eqb→eq e (i + 1) h in of_true (eq-eqb (e - i - 1) 0 (omega arith)))
          (λ h. let k = eqb→eq (e - i - 1) 0 h in of_true (eq-eqb e (i + 1) (omega arith)))

  -- readings fit their words
  pub state_word : (at active : ℕ) (limits : List ℕ) → ((t : ℕ) → t < 64 → T (has timers t) → get_or ends t 0 - i < 2 ^ 32)
      → state_by ends limits at active timers i ≡ state_from at active timers ends limits i
  state_word at active limits small =
      ap (λ (l : List ℕ). record { at = at; readings = l; ages = ages_by limits active i })
      (row_from_ext (λ t. cond (has timers t) ((get_or ends t 0 - i) % 2 ^ 32) 0) (λ t. cond (has timers t) (get_or ends t 0 - i) 0) 0 64
      (λ t a b. cond_ext (has timers t) ((get_or ends t 0 - i) % 2 ^ 32) (get_or ends t 0 - i) 0 (λ h. mod-eq_of_lt (small t (omega arith) h))))

  -- the state that a tick leaves, by the deadlines and limits then
  pub state_next : (at active entered : ℕ) (limits : List ℕ) (source_of delay_of : ℕ → ℕ) (q : State)
      → ((t : ℕ) → t < 64 → T (has timers t) → get_or ends t 0 - i ≡ cond (has entered (source_of t)) (delay_of t) (reading q.readings t - 1))
      → ages_by limits active i ≡ next_ages active entered q.ages
      → state_from at active timers ends limits i ≡ next_state at active timers entered source_of delay_of q
  unfolding next_state next_readings
  state_next at active entered limits source_of delay_of q e aged =
      ap₂ (λ (l v : List ℕ). record { at = at; readings = l; ages = v })
      (row_from_ext (λ t. cond (has timers t) (get_or ends t 0 - i) 0)
      (λ t. cond (has timers t) (cond (has entered (source_of t)) (delay_of t) (reading q.readings t - 1)) 0) 0 64
      (λ t a b. cond_ext (has timers t) (get_or ends t 0 - i) (cond (has entered (source_of t)) (delay_of t) (reading q.readings t - 1)) 0 (e t (omega arith))))
      aged

-- the deadline of a timer, after those of a set start again
pub deadline_after : (set i : ℕ) (delays ends : List ℕ) {ends' : List ℕ}
    → ends' ≡ row_from 0 64 (λ t. cond (has set t) (i + 1 + get_or delays t 0) (get_or ends t 0))
    → (t : ℕ) → t < 64 → {b : Bool} {d : ℕ} → has set t ≡ b → get_or delays t 0 ≡ d → get_or ends' t 0 ≡ cond b (i + 1 + d) (get_or ends t 0)
deadline_after set i delays ends ee t l p q =
    rw (ee, row_at 64 (λ u. cond (has set u) (i + 1 + get_or delays u 0) (get_or ends u 0)) t l, p, q)

-- ---- at the start of a call the deadlines are the readings, where these are sound

module _ (timers : ℕ) (delay_of : ℕ → ℕ) (q : State) (sound : (t : ℕ) → t < 64 → T (reading_fits timers delay_of q.readings t)) where
  abbrev readings : List ℕ
  readings = q.readings

  pub state_start : (active : ℕ) (limits : List ℕ) → length readings ≡ 64 → ages_by limits active 0 ≡ q.ages → state_from q.at active timers readings limits 0 ≡ q
  state_start active limits n aged =
      ap₂ (λ (l v : List ℕ). record { at = q.at; readings = l; ages = v })
      (row_from_ext (λ t. cond (has timers t) (get_or readings t 0 - 0) 0) (λ t. get_or readings t 0) 0 64
      (λ t a b. at (has timers t) (get_or readings t 0) (delay_of t) (sound t (omega arith)))
      ∙ sym (rw n at (row_from-get_or readings 0)))
      aged
    where
      at : (b : Bool) (v d : ℕ) → T (cond b (leb 1 v && leb v d) (eqb v 0)) → cond b (v - 0) 0 ≡ v
      at true v d k = sub-zero v
      at false v d k = sym (eqb→eq v 0 k)

  pub start_within : (t : ℕ) → t < 64 → T (has timers t) → (1 ≤ get_or readings t 0) × (get_or readings t 0 ≤ delay_of t)
  start_within t l k =
      let v = get_or readings t 0 in
      let r : T (leb 1 v && leb v (delay_of t)) =
      subst (λ (b : Bool). T (cond b (leb 1 v && leb v (delay_of t)) (eqb v 0))) (is_true (has timers t) k) (sound t l) in
      (leb→le 1 v (and_l (leb 1 v) (leb v (delay_of t)) r), leb→le v (delay_of t) (and_r (leb 1 v) (leb v (delay_of t)) r))
