-- The transitions whose source is in a mode set, by the words of the plan, the timers among them, and the events that they name. Assumes
-- nothing.
use mathlib.Core.Path.{◌≡◌, sym, ap, ap₂, ◌∙◌, subst}
use mathlib.Core.Bool.{Bool, ◌&&◌, and_comm}
use mathlib.Core.List.{List}
use Prim.Native.Nat.{ℕ, ◌^◌, ◌<◌}
use native.Mathlib.Nat.{lt_of_le_of_lt}
use lib.Dec.{T}
use lib.ListN.{get_or}
use Rattle.sets.specs.Sets.{has, meet, single, some, some_in}
use Rattle.sets.proofs.Tests.{bool_ext, and_l, and_r, and_i}
use Rattle.sets.proofs.Facts.{has-lt, single_e, single_i, set_of_e, set_of_i, some_e, some_i, some_in_e, some_in_i}
use Rattle.sets.proofs.Membership.{has_meet, has-set_of, set_of-lt, set_of_ext, same_members, meet-le}
use Rattle.sets.proofs.Quantifiers.{some_in_same}
use Rattle.meaning.specs.Sheet.{k_of, t_of, source}
use Rattle.meaning.specs.Reaction.{is_timer, running}
use Rattle.meaning.specs.NamedEvents.{names}
use Rattle.reaction.specs.declared.plan.Plan.{Plan}
use Rattle.reaction.specs.Plan.{Planned, sources_in, named_in, timers}

module _ (s : List ℕ) where
  pub sources_in-lt : (x : ℕ) → sources_in s x < 2 ^ t_of s
  unfolding sources_in
  sources_in-lt x = set_of-lt (t_of s) (λ t. has x (source s t))

  pub has-sources_in : (x t : ℕ) → t < t_of s → has (sources_in s x) t ≡ has x (source s t)
  unfolding sources_in
  has-sources_in x t l = has-set_of (t_of s) (λ u. has x (source s u)) t l

  pub sources_on : (x t : ℕ) → T (has (sources_in s x) t) → T (has x (source s t))
  unfolding sources_in
  sources_on x t k = (set_of_e (t_of s) (λ u. has x (source s u)) t k).1

  -- the timers with a source in x
  pub running_meet : (x : ℕ) → meet (sources_in s x) (timers s) ≡ running s x
  unfolding timers running
  running_meet x =
      set_of_ext (t_of s) (λ t. is_timer s t && has x (source s t)) (lt_of_le_of_lt (meet-le (sources_in s x) (timers s)) (sources_in-lt x))
      (λ t l. has_meet (sources_in s x) (timers s) t ∙ ap₂ ◌&&◌ (has-sources_in x t l) (has-set_of (t_of s) (is_timer s) t l) ∙ and_comm (has x (source s t)) (is_timer s t))

  -- the events that transitions with a source in x name
  pub named_e : (x e : ℕ) → T (has (named_in s x) e) → (e < k_of s) × ((t : ℕ) × (t < t_of s) × T (has x (source s t)) × T (names s t e))
  unfolding named_in
  named_e x e h =
      let p = set_of_e (k_of s) (λ u. some (t_of s) (λ v. has x (source s v) && names s v u)) e h in
      let q = some_e (t_of s) (λ v. has x (source s v) && names s v e) p.1 in
      let t = q.0 in
      (p.0, (t, q.1, and_l (has x (source s t)) (names s t e) q.2, and_r (has x (source s t)) (names s t e) q.2))

  pub named_i : (x t e : ℕ) → e < k_of s → t < t_of s → T (has x (source s t)) → T (names s t e) → T (has (named_in s x) e)
  unfolding named_in
  named_i x t e k l on h =
      set_of_i (k_of s) (λ u. some (t_of s) (λ v. has x (source s v) && names s v u)) e k
      (some_i (t_of s) (λ v. has x (source s v) && names s v e) t l (and_i (has x (source s t)) (names s t e) on h))

-- ---- unions of words of the plan over the members of a mode set

module _ (s : List ℕ) (plan : Plan) (p : Planned s plan) (x : ℕ) (b : x < 2 ^ 32) where
  -- the words of a part, each right, over the members of x
  over_words : (words : List ℕ) (f : ℕ → ℕ) (i : ℕ) → ((m : ℕ) → m < 32 → get_or words m 0 ≡ f m)
      → some_in 32 x (λ m. has (get_or words m 0) i) ≡ some_in 32 x (λ m. has (f m) i)
  over_words words f i e =
      some_in_same 32 x (λ m. has (get_or words m 0) i) (λ m. has (f m) i) (λ m l. ap (λ (w : ℕ). has w i) (e m l))

  pub from_words_lem : {r : ℕ} → ((i : ℕ) → has r i ≡ some_in 32 x (λ m. has (get_or plan.from m 0) i)) → r ≡ sources_in s x
  unfolding sources_in
  from_words_lem {r} h = same_members (λ t. h t ∙ over_words plan.from (λ m. sources_in s (single m)) t p.from_at ∙ sources t)
    where
      sources : (t : ℕ) → some_in 32 x (λ m. has (sources_in s (single m)) t) ≡ has (sources_in s x) t
      sources t = bool_ext (some_in 32 x (λ m. has (sources_in s (single m)) t)) (has (sources_in s x) t) forth back
        where
          on : ℕ → ℕ → Bool
          on y u = has y (source s u)

          forth : T (some_in 32 x (λ m. has (sources_in s (single m)) t)) → T (has (sources_in s x) t)
          forth k =
              let r = some_in_e 32 x (λ m. has (sources_in s (single m)) t) k in
              let a = set_of_e (t_of s) (on (single r.0)) t r.3 in
              set_of_i (t_of s) (on x) t a.0 (subst (λ (m : ℕ). T (has x m)) (sym (single_e r.0 (source s t) a.1)) r.2)

          back : T (has (sources_in s x) t) → T (some_in 32 x (λ m. has (sources_in s (single m)) t))
          back k =
              let a = set_of_e (t_of s) (on x) t k in
              some_in_i 32 x (λ m. has (sources_in s (single m)) t) (source s t) (has-lt 32 x (source s t) b a.1) a.1
              (set_of_i (t_of s) (on (single (source s t))) t a.0 (single_i (source s t)))

  pub named_words : {r : ℕ} → ((i : ℕ) → has r i ≡ some_in 32 x (λ m. has (get_or plan.named m 0) i)) → r ≡ named_in s x
  named_words {r} h = same_members (λ e. h e ∙ over_words plan.named (λ m. named_in s (single m)) e p.named_at ∙ named e)
    where
      named : (e : ℕ) → some_in 32 x (λ m. has (named_in s (single m)) e) ≡ has (named_in s x) e
      named e = bool_ext (some_in 32 x (λ m. has (named_in s (single m)) e)) (has (named_in s x) e) forth back
        where
          forth : T (some_in 32 x (λ m. has (named_in s (single m)) e)) → T (has (named_in s x) e)
          forth k =
              let r = some_in_e 32 x (λ m. has (named_in s (single m)) e) k in
              let a = named_e s (single r.0) e r.3 in
              let u = a.1.0 in
              named_i s x u e a.0 a.1.1 (subst (λ (m : ℕ). T (has x m)) (sym (single_e r.0 (source s u) a.1.2)) r.2) a.1.3

          back : T (has (named_in s x) e) → T (some_in 32 x (λ m. has (named_in s (single m)) e))
          back k =
              let a = named_e s x e k in
              let u = a.1.0 in
              let m = source s u in
              some_in_i 32 x (λ i. has (named_in s (single i)) e) m (has-lt 32 x m b a.1.2) a.1.2
              (named_i s (single m) u e a.0 a.1.1 (single_i m) a.1.3)
