-- Delays and terms, and one round: what is triggered, gives way, is eligible; what the round leaves. A round knows the set
-- of due timers and not the readings, as a cell of a table does. Assumes nothing.
use Rattle.std.specs.Prelude.{Bool, false, not, ◌&&◌, ◌||◌, cond, List, [], ◌∷◌, map, ℕ, zero, suc, eqb, ltb}
use Rattle.sets.specs.Sets.{has, union, minus, set_of, those, some_in}
use Rattle.meaning.specs.Lists.{all_of, first_of}
use Rattle.meaning.specs.Sheet.{n_of, t_of, source, term_count, term_kind, term_value, contains, meeting}
use Rattle.meaning.specs.Hierarchy.{exits, enters}
use Rattle.meaning.specs.GivesWay.{gives_way}

-- the current modes, and the four sets of a tick: modes entered, exited and active, and transitions taken
pub record TickSets : Type 0 where
  pub modes : ℕ
  pub entered : ℕ
  pub exited : ℕ
  pub active : ℕ
  pub taken : ℕ

-- j in front of the first of some lists
unfoldable pub in_first : ℕ → List (List ℕ) → List (List ℕ)
in_first j [] = []
in_first j (js ∷ rest) = (j ∷ js) ∷ rest

module _ (s : List ℕ) where
  -- a delay transition: its one term is of kind 0
  unfoldable pub is_delay : ℕ → Bool
  is_delay t = eqb (term_kind s t 0) 0

  unfoldable pub delay : ℕ → ℕ
  delay t = term_value s t 0

  -- "A timer is a delay transition of delay 1 or more"
  unfoldable pub is_timer : ℕ → Bool
  is_timer t = is_delay t && ltb 0 (delay t)

  -- the running timers of a mode set: a timer "runs while its source is active"
  unfoldable pub running : ℕ → ℕ
  running x = set_of (t_of s) (λ t. is_timer t && has x (source s t))

  -- a term of kind c and value v holds on the tick's input i and the sets z
  unfoldable pub holds : ℕ → TickSets → ℕ → ℕ → Bool
  holds i z c v =
      -- 1, 2: "input event present, absent"
      cond (eqb c 1) (has i v)
      (cond (eqb c 2) (not (has i v))
      -- 3: "a mode mask ..: some mode of it is active"
      (cond (eqb c 3) (some_in (n_of s) v (has z.active))
      -- 4, 5: "mode entered, mode exited"
      (cond (eqb c 4) (has z.entered v)
      (cond (eqb c 5) (has z.exited v)
      -- 6: "transition (by number) taken"
      (cond (eqb c 6) (has z.taken v)
      false)))))

  -- "Terms between "or"s": the alternatives of t, each a list of places of terms, from term j on, where w terms are left
  unfoldable pub alternatives_from : ℕ → ℕ → ℕ → List (List ℕ)
  alternatives_from t zero j = [] ∷ []
  alternatives_from t (suc w) j =
      let rest = alternatives_from t w (suc j) in
      cond (eqb (term_kind s t j) 7) ([] ∷ rest) (in_first j rest)

  unfoldable pub alternatives : ℕ → List (List ℕ)
  alternatives t = alternatives_from t (term_count s t) 0

  -- "all hold"
  unfoldable pub all_hold : ℕ → TickSets → ℕ → List ℕ → Bool
  all_hold i z t js = all_of (map (λ j. holds i z (term_kind s t j) (term_value s t j)) js)

  -- "one such alternative suffices": the number of the first that holds, counted from 1; 0 if none does
  unfoldable pub alternative : ℕ → TickSets → ℕ → ℕ
  alternative i z t = first_of 1 (map (all_hold i z t) (alternatives t))

  -- a timer of the due set d "is triggered at reading 0"; once its source is entered it has its delay again
  unfoldable pub is_due : ℕ → TickSets → ℕ → Bool
  is_due d z t = has d t && not (has z.entered (source s t))

  -- why t is triggered: 0 it is not, 1 to 8 the alternative that holds, 9 a delay. "With its source active, a delay transition is
  -- triggered at reading 0 (a delay of 0 always is), any other when its terms hold on the tick's input and the four sets as
  -- the round began."
  unfoldable pub trigger : ℕ → ℕ → TickSets → ℕ → ℕ
  trigger d i z t =
      cond (not (has z.modes (source s t))) 0
      (cond (is_delay t) (cond (eqb (delay t) 0 || is_due d z t) 9 0) (alternative i z t))

  unfoldable pub triggered : ℕ → ℕ → TickSets → ℕ
  triggered d i z = set_of (t_of s) (λ t. ltb 0 (trigger d i z t))

  -- "Two transitions conflict if their own meeting modes (of source and target) are equal or one contains the other."
  unfoldable pub conflict : ℕ → ℕ → Bool
  conflict t u = contains s (meeting s t) (meeting s u) || contains s (meeting s u) (meeting s t)

  -- of the triggered transitions ts, those that give way to none: "The rest are eligible."
  unfoldable pub eligible : ℕ → ℕ
  eligible ts = those (t_of s) ts (λ t. not (some_in (t_of s) ts (gives_way s t)))

  -- 8: "Two eligible ones in conflict: ambiguous."
  unfoldable pub ambiguous : ℕ → Bool
  ambiguous es = some_in (t_of s) es (λ t. some_in (t_of s) es (λ u. not (eqb t u) && conflict t u))

  -- 9: an eligible one "already taken in this tick: restless"
  unfoldable pub restless : TickSets → ℕ → Bool
  restless z es = some_in (t_of s) es (has z.taken)

  -- the modes that the transitions es, taken together, exit and enter
  unfoldable pub exiting : TickSets → ℕ → ℕ
  exiting z es = those (n_of s) z.modes (λ m. some_in (t_of s) es (λ t. has (exits s t) m))

  unfoldable pub entering : ℕ → ℕ
  entering es = set_of (n_of s) (λ m. some_in (t_of s) es (λ t. has (enters s t) m))

  -- the sets after a round: "all are taken together"; "Modes entered, exited and active, and transitions taken, are added to
  -- the sets."
  unfoldable pub after_round : TickSets → ℕ → TickSets
  after_round z es =
      let out = exiting z es in
      let in' = entering es in
      record {
        modes = union (minus z.modes out) in';
        entered = union z.entered in';
        exited = union z.exited out;
        active = union z.active in';
        taken = union z.taken es;
      }
