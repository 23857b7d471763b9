-- Laws of rounds and ticks: at most T rounds, a tick ends with nothing triggered, what is active at its end. Assumes nothing.
use mathlib.Core.Path.{◌≡◌, refl, sym, ap, ◌∙◌, subst}
use mathlib.Core.Logic.{◌⊎◌, inl, inr, ⊎_elim}
use mathlib.Core.Bool.{Bool, true, false, not, ◌&&◌, ◌||◌, cond}
use mathlib.Core.List.{List}
use Prim.Native.Nat.{ℕ, zero, suc, ◌+◌, ◌^◌, ◌≤◌, ◌<◌, zero-le}
use native.Mathlib.Nat.{le_trans, lt_of_le_of_lt, eq-zero-or-pos}
use native.Mathlib.Omega.{arith}
use lib.Dec.{T, eqb, ltb, lt→ltb}
use borrow.Author.Tests.{eq-eqb, eqb-true, eqb-false}
use Rattle.sets.specs.Sets.{has, minus, single, size, some_in}
use Rattle.sets.proofs.Tests.{is_true, is_false, of_true, and_l, and_r, and_i, or_e, or_l, or_r, above_not}
use Rattle.sets.proofs.Membership.{has_none, has-union, has-minus, set_of-lt}
use Rattle.sets.proofs.Facts.{set_of_e, set_of_i, some_in_e, some_in_i, size-le, size-lt}
use Rattle.sets.proofs.Those.{those-lt, those_none}
use Rattle.sets.proofs.Members.{empty}
use Rattle.meaning.specs.Sheet.{t_of, source}
use Rattle.meaning.specs.Hierarchy.{complete}
use Rattle.meaning.specs.GivesWay.{gives_way}
use Rattle.meaning.specs.Reaction.{TickSets, is_delay, delay, is_timer, running, holds, alternative, is_due, trigger, triggered, eligible, ambiguous, restless, exiting, entering, after_round}
use Rattle.meaning.specs.Tick.{Tick, begin, chosen, rounds_from, tick}
use Rattle.meaning.specs.Promises.{TickRounds, RoundsEnough}
use Rattle.meaning.proofs.SheetLaws.{Sound}
use Rattle.meaning.proofs.GivesWayLaws.{eligible-lt, eligible_among, eligible_exists}

-- ---- whatever a round keeps holds at the end of the rounds

module _ (s : List ℕ) (d i : ℕ) where
  -- a round is taken from the sets z: some transition is eligible, and it is neither ambiguous nor restless
  pub record Taken (z : TickSets) : Type 0 where
    pub filled : eqb (chosen s d i z) 0 ≡ false
    pub clear : ambiguous s (chosen s d i z) ≡ false
    pub fresh : restless s z (chosen s d i z) ≡ false

  -- what holds of the rounds from any sets: with no fuel, where none is eligible, where one is refused, after one that is taken
  module _ (P : ℕ → TickSets → ℕ → Tick → Type 0)
      (spent : (z : TickSets) (r : ℕ) → P 0 z r (record { refusal = 0; sets = z; rounds = r }))
      (none : (f : ℕ) (z : TickSets) (r : ℕ) → chosen s d i z ≡ 0 → P (suc f) z r (record { refusal = 0; sets = z; rounds = r }))
      (bad : (f : ℕ) (z : TickSets) (r e : ℕ) → (e ≡ 8) ⊎ (e ≡ 9) → P (suc f) z r (record { refusal = e; sets = z; rounds = r }))
      (more : (f : ℕ) (z : TickSets) (r : ℕ) (o : Tick) → Taken z → P f (after_round s z (chosen s d i z)) (suc r) o → P (suc f) z r o) where
    pub rounds_all : (f : ℕ) (z : TickSets) (r : ℕ) → P f z r (rounds_from s f d i z r)
    unfolding rounds_from
    rounds_all zero z r = spent z r
    rounds_all (suc f) z r = go (eqb es 0) (ambiguous s es) (restless s z es) refl refl refl (rounds_all f (after_round s z es) (suc r))
      where
        es : ℕ
        es = chosen s d i z

        on : Tick
        on = rounds_from s f d i (after_round s z es) (suc r)

        go : (a b c : Bool) → eqb es 0 ≡ a → ambiguous s es ≡ b → restless s z es ≡ c → P f (after_round s z es) (suc r) on
            → P (suc f) z r
            (cond a (record { refusal = 0; sets = z; rounds = r })
            (cond b (record { refusal = 8; sets = z; rounds = r })
            (cond c (record { refusal = 9; sets = z; rounds = r }) on)))
        go true b c ea eb ec ih = none f z r (eqb-true es 0 ea)
        go false true c ea eb ec ih = bad f z r 8 (inl refl)
        go false false true ea eb ec ih = bad f z r 9 (inr refl)
        go false false false ea eb ec ih = more f z r on (record { filled = ea; clear = eb; fresh = ec }) ih

  pub rounds_ind : (P : TickSets → ℕ → Type 0)
      → ((z : TickSets) (r : ℕ) → P z r → Taken z → P (after_round s z (chosen s d i z)) (suc r))
      → (f : ℕ) (z : TickSets) (r : ℕ) → P z r → P (rounds_from s f d i z r).sets (rounds_from s f d i z r).rounds
  rounds_ind P step =
      rounds_all (λ _ z r o. P z r → P o.sets o.rounds) (λ _ _ p. p) (λ _ _ _ _ p. p) (λ _ _ _ _ _ p. p) (λ f z r o t ih p. ih (step z r p t))

  -- rounds are refused 8 or 9, or not at all
  pub rounds_refusal : (f : ℕ) (z : TickSets) (r : ℕ) → (rounds_from s f d i z r).refusal ≤ 9
  rounds_refusal =
      rounds_all (λ _ _ _ o. o.refusal ≤ 9) (λ _ _. zero-le) (λ _ _ _ _. zero-le) (λ _ _ _ e n. ⊎_elim (λ k. omega arith) (λ k. omega arith) n)
      (λ _ _ _ _ _ ih. ih)

  -- rounds that are not refused end where none is eligible, or with the fuel
  pub rounds_end : (f : ℕ) (z : TickSets) (r : ℕ) → (rounds_from s f d i z r).refusal ≡ 0
      → (chosen s d i (rounds_from s f d i z r).sets ≡ 0) ⊎ ((rounds_from s f d i z r).rounds ≡ r + f)
  rounds_end =
      rounds_all (λ f z r o. o.refusal ≡ 0 → (chosen s d i o.sets ≡ 0) ⊎ (o.rounds ≡ r + f))
      (λ _ r _. inr (omega arith)) (λ _ _ _ h _. inl h) (λ _ _ _ e n h. absurd (⊎_elim (λ k. omega arith) (λ k. omega arith) n))
      (λ f z r o t ih h. ⊎_elim (λ x. inl x) (λ x. inr (omega arith)) (ih h))

-- ---- a round takes a transition not taken before

module _ (s : List ℕ) (d i : ℕ) where
  pub triggered-lt : (z : TickSets) (t : ℕ) → T (has (triggered s d i z) t) → t < t_of s
  unfolding triggered
  triggered-lt z t h = (set_of_e (t_of s) (λ u. ltb 0 (trigger s d i z u)) t h).0

  pub triggered_e : (z : TickSets) (t : ℕ) → T (has (triggered s d i z) t) → T (ltb 0 (trigger s d i z t))
  unfolding triggered
  triggered_e z t h = (set_of_e (t_of s) (λ u. ltb 0 (trigger s d i z u)) t h).1

  -- an eligible transition is below T and triggered
  pub chosen_lt : (z : TickSets) (t : ℕ) → T (has (chosen s d i z) t) → t < t_of s
  unfolding chosen
  chosen_lt z t h = eligible-lt s (triggered s d i z) t h

  pub chosen_among : (z : TickSets) (t : ℕ) → T (has (chosen s d i z) t) → T (has (triggered s d i z) t)
  unfolding chosen
  chosen_among z t h = eligible_among s (triggered s d i z) t h

  pub chosen_triggered : (z : TickSets) (t : ℕ) → T (has (chosen s d i z) t) → T (ltb 0 (trigger s d i z t))
  chosen_triggered z t h = triggered_e z t (chosen_among z t h)

  pub chosen_small : (z : TickSets) → chosen s d i z < 2 ^ t_of s
  unfolding chosen eligible
  chosen_small z = those-lt (t_of s) (triggered s d i z) (λ u. not (some_in (t_of s) (triggered s d i z) (gives_way s u)))

  -- where some transition is eligible, one is a member of the set
  pub chosen_member : (z : TickSets) → eqb (chosen s d i z) 0 ≡ false → (t : ℕ) × (t < t_of s) × T (has (chosen s d i z) t)
  unfolding some_in
  chosen_member z e = go (some_in (t_of s) es (λ t. true)) refl
    where
      es : ℕ
      es = chosen s d i z

      go : (b : Bool) → some_in (t_of s) es (λ t. true) ≡ b → (t : ℕ) × (t < t_of s) × T (has es t)
      go true g = let r = some_in_e (t_of s) es (λ t. true) (of_true g) in (r.0, r.1, r.2)
      go false g =
          absurd (eqb-false es 0 e (empty (t_of s) (chosen_small z)
          (λ t l. is_false (has es t) (λ h. subst T g (some_in_i (t_of s) es (λ u. true) t l h tt)))))

  -- the transitions taken after a round
  pub taken_after : (z : TickSets) (es t : ℕ) → has (after_round s z es).taken t ≡ (has z.taken t || has es t)
  unfolding after_round
  taken_after z es t = has-union z.taken es t

  -- the rounds so far are no more than the transitions taken
  Counted : TickSets → ℕ → Type 0
  Counted z r = r ≤ size (t_of s) z.taken

  counted_step : (z : TickSets) (r : ℕ) → Counted z r → Taken s d i z → Counted (after_round s z (chosen s d i z)) (suc r)
  unfolding Counted restless
  counted_step z r p h =
      let es = chosen s d i z in
      let m = chosen_member z h.filled in
      lt_of_le_of_lt p
      (size-lt (t_of s) z.taken (after_round s z es).taken
      (λ t k g. subst T (sym (taken_after z es t)) (or_l (has z.taken t) (has es t) g))
      m.0 m.1
      (λ g. subst T h.fresh (some_in_i (t_of s) es (has z.taken) m.0 m.1 m.2 g))
      (subst T (sym (taken_after z es m.0)) (or_r (has z.taken m.0) (has es m.0) m.2)))

  -- at most T rounds, however many the fuel allows
  rounds_bound : (f x : ℕ) → (rounds_from s f d i (begin s x) 0).rounds ≤ t_of s
  unfolding Counted
  rounds_bound f x =
      le_trans (rounds_ind s d i Counted counted_step f (begin s x) 0 zero-le)
      (size-le (t_of s) (rounds_from s f d i (begin s x) 0).sets.taken)

  pub rounds_le : (x : ℕ) → (tick s x d i).rounds ≤ t_of s
  unfolding tick
  rounds_le x = rounds_bound (suc (t_of s)) x

  -- a tick that is not refused ends where none is eligible
  pub tick_end : (x : ℕ) → (tick s x d i).refusal ≡ 0 → chosen s d i (tick s x d i).sets ≡ 0
  unfolding tick
  tick_end x e = go (rounds_end s d i (suc (t_of s)) (begin s x) 0 e) (rounds_le x)
    where
      go : (chosen s d i (tick s x d i).sets ≡ 0) ⊎ ((tick s x d i).rounds ≡ 0 + suc (t_of s)) → (tick s x d i).rounds ≤ t_of s
          → chosen s d i (tick s x d i).sets ≡ 0
      go (inl h) k = h
      go (inr h) k = absurd (omega arith)

  -- rounds that did not use up their fuel are the same with more of it
  rounds_more : (f g : ℕ) (z : TickSets) (r : ℕ) → (rounds_from s f d i z r).rounds < r + f → rounds_from s (f + g) d i z r ≡ rounds_from s f d i z r
  unfolding rounds_from
  rounds_more zero g z r h = absurd (omega arith)
  rounds_more (suc f) g z r h =
      let e : suc (f + g) ≡ suc f + g = omega arith in
      subst (λ (k : ℕ). rounds_from s k d i z r ≡ rounds_from s (suc f) d i z r) e
      (go (eqb es 0) (ambiguous s es) (restless s z es) h (rounds_more f g (after_round s z es) (suc r)))
    where
      es : ℕ
      es = chosen s d i z

      on : ℕ → Tick
      on k = rounds_from s k d i (after_round s z es) (suc r)

      res : Tick → Bool → Bool → Bool → Tick
      res o a b c =
          cond a (record { refusal = 0; sets = z; rounds = r })
          (cond b (record { refusal = 8; sets = z; rounds = r })
          (cond c (record { refusal = 9; sets = z; rounds = r }) o))

      go : (a b c : Bool) → (res (on f) a b c).rounds < r + suc f → ((on f).rounds < suc r + f → on (f + g) ≡ on f)
          → res (on (f + g)) a b c ≡ res (on f) a b c
      go true b c k ih = refl
      go false true c k ih = refl
      go false false true k ih = refl
      go false false false k ih = ih (omega arith)

pub tick_rounds_lem : TickRounds
unfolding TickRounds
tick_rounds_lem s x d i = rounds_le s d i x

pub rounds_enough_lem : RoundsEnough
unfolding RoundsEnough tick
rounds_enough_lem s x d i f = rounds_more s d i (suc (t_of s)) f (begin s x) 0 (omega (arith, rounds_bound s d i (suc (t_of s)) x))

-- a tick in which nothing is triggered has no round
pub tick_quiet : (s : List ℕ) (x d i : ℕ) → triggered s d i (begin s x) ≡ 0 → tick s x d i ≡ record { refusal = 0; sets = begin s x; rounds = 0 }
unfolding tick rounds_from chosen
tick_quiet s x d i e = rw (eq-eqb (chosen s d i (begin s x)) 0 (ap (eligible s) e ∙ unfold eligible in (those_none (t_of s) 0 _ refl)))

-- where one is triggered, one is eligible; so a tick that is not refused ends with no transition triggered
pub settled : (s : List ℕ) → Sound s → (d i x : ℕ) → (tick s x d i).refusal ≡ 0 → (t : ℕ) → t < t_of s → trigger s d i (tick s x d i).sets t ≡ 0
unfolding triggered chosen
settled s sd d i x e t l = go (eq-zero-or-pos (trigger s d i (tick s x d i).sets t))
  where
    z : TickSets
    z = (tick s x d i).sets

    go : (trigger s d i z t ≡ 0) ⊎ (0 < trigger s d i z t) → trigger s d i z t ≡ 0
    go (inl h) = h
    go (inr h) =
        let m = set_of_i (t_of s) (λ u. ltb 0 (trigger s d i z u)) t l (lt→ltb 0 (trigger s d i z t) h) in
        let u = eligible_exists s sd (triggered s d i z) (triggered-lt s d i z) t m in
        absurd (subst T (ap (λ (y : ℕ). has y u.0) (tick_end s d i x e) ∙ has_none u.0) u.1)

-- ---- how a tick begins

-- at power-on, or from the set x
pub begin_by : (s : List ℕ) (P : TickSets → Type 0) (x : ℕ)
    → (x ≡ 0 → P (record { modes = complete s (single 0); entered = complete s (single 0); exited = 0; active = complete s (single 0); taken = 0 }))
    → ((x ≡ 0 → ⊥) → P (record { modes = x; entered = 0; exited = 0; active = x; taken = 0 }))
    → P (begin s x)
unfolding begin
begin_by s P x f g = go (eqb x 0) refl
  where
    y : ℕ
    y = complete s (single 0)

    go : (b : Bool) → eqb x 0 ≡ b
        → P (cond b (record { modes = y; entered = y; exited = 0; active = y; taken = 0 })
        (record { modes = x; entered = 0; exited = 0; active = x; taken = 0 }))
    go true e = f (eqb-true x 0 e)
    go false e = g (eqb-false x 0 e)

-- ---- a mode that is in the set at the end was there at the start or was entered

module _ (s : List ℕ) where
  pub modes_after : (z : TickSets) (es m : ℕ)
      → has (after_round s z es).modes m ≡ (has z.modes m && not (has (exiting s z es) m) || has (entering s es) m)
  unfolding after_round
  modes_after z es m =
      has-union (minus z.modes (exiting s z es)) (entering s es) m
      ∙ ap (λ (b : Bool). b || has (entering s es) m) (has-minus z.modes (exiting s z es) m)

  pub entered_after : (z : TickSets) (es m : ℕ) → has (after_round s z es).entered m ≡ (has z.entered m || has (entering s es) m)
  unfolding after_round
  entered_after z es m = has-union z.entered (entering s es) m

  pub exited_after : (z : TickSets) (es m : ℕ) → has (after_round s z es).exited m ≡ (has z.exited m || has (exiting s z es) m)
  unfolding after_round
  exited_after z es m = has-union z.exited (exiting s z es) m

  pub active_after : (z : TickSets) (es m : ℕ) → has (after_round s z es).active m ≡ (has z.active m || has (entering s es) m)
  unfolding after_round
  active_after z es m = has-union z.active (entering s es) m

module _ (s : List ℕ) (d i x : ℕ) where
  StayedOrEntered : TickSets → ℕ → Type 0
  StayedOrEntered z r = (m : ℕ) → T (has z.modes m) → T (has (begin s x).modes m) ⊎ T (has z.entered m)

  stayed_or_entered_step : (z : TickSets) (r : ℕ) → StayedOrEntered z r → Taken s d i z → StayedOrEntered (after_round s z (chosen s d i z)) (suc r)
  unfolding StayedOrEntered
  stayed_or_entered_step z r p taken m h =
      go (or_e (has z.modes m && not (has (exiting s z es) m)) (has (entering s es) m) (subst T (modes_after s z es m) h))
    where
      es : ℕ
      es = chosen s d i z

      z' : TickSets
      z' = after_round s z es

      older : T (has (begin s x).modes m) ⊎ T (has z.entered m) → T (has (begin s x).modes m) ⊎ T (has z'.entered m)
      older (inl k) = inl k
      older (inr k) = inr (subst T (sym (entered_after s z es m)) (or_l (has z.entered m) (has (entering s es) m) k))

      go : T (has z.modes m && not (has (exiting s z es) m)) ⊎ T (has (entering s es) m) → T (has (begin s x).modes m) ⊎ T (has z'.entered m)
      go (inl k) = older (p m (and_l (has z.modes m) (not (has (exiting s z es) m)) k))
      go (inr k) = inr (subst T (sym (entered_after s z es m)) (or_r (has z.entered m) (has (entering s es) m) k))

  -- what was entered stays entered
  Grown : TickSets → ℕ → Type 0
  Grown z r = (m : ℕ) → T (has (begin s x).entered m) → T (has z.entered m)

  grown_step : (z : TickSets) (r : ℕ) → Grown z r → Taken s d i z → Grown (after_round s z (chosen s d i z)) (suc r)
  unfolding Grown
  grown_step z r p taken m h =
      subst T (sym (entered_after s z (chosen s d i z) m)) (or_l (has z.entered m) (has (entering s (chosen s d i z)) m) (p m h))

  -- in the set at the end: in x at the start, or entered
  pub stayed_or_entered : (m : ℕ) → T (has (tick s x d i).sets.modes m) → T (has x m) ⊎ T (has (tick s x d i).sets.entered m)
  unfolding tick StayedOrEntered Grown
  stayed_or_entered m h =
      begin_by s
      (λ z. T (has z.modes m) ⊎ T (has (tick s x d i).sets.entered m) → (T (has z.entered m) → T (has (tick s x d i).sets.entered m))
      → T (has x m) ⊎ T (has (tick s x d i).sets.entered m)) x
      (λ _ r g. ⊎_elim (λ k. inr (g k)) inr r) (λ _ r g. r)
      (rounds_ind s d i StayedOrEntered stayed_or_entered_step (suc (t_of s)) (begin s x) 0 (λ k g. inl g) m h)
      (rounds_ind s d i Grown grown_step (suc (t_of s)) (begin s x) 0 (λ k g. g) m)

-- ---- running timers

-- a running timer: below T, a timer, with its source in the set
pub record Runs (s : List ℕ) (x t : ℕ) : Type 0 where
  pub small : t < t_of s
  pub timer : T (is_timer s t)
  pub on : T (has x (source s t))

pub running_e : (s : List ℕ) (x t : ℕ) → T (has (running s x) t) → Runs s x t
unfolding running
running_e s x t h =
    let r = set_of_e (t_of s) (λ u. is_timer s u && has x (source s u)) t h in
    record { small = r.0; timer = and_l (is_timer s t) (has x (source s t)) r.1; on = and_r (is_timer s t) (has x (source s t)) r.1 }

pub running_i : (s : List ℕ) (x t : ℕ) → Runs s x t → T (has (running s x) t)
unfolding running
running_i s x t r =
    set_of_i (t_of s) (λ u. is_timer s u && has x (source s u)) t r.small (and_i (is_timer s t) (has x (source s t)) r.timer r.on)

-- no timer runs at power-on
pub running_none : (s : List ℕ) → running s 0 ≡ 0
running_none s =
    empty (t_of s) (unfold running in (set_of-lt (t_of s) (λ t. is_timer s t && has 0 (source s t))))
    (λ t l. is_false (has (running s 0) t) (λ h. subst T (has_none (source s t)) (running_e s 0 t h).on))

-- a timer that still runs and was not entered was not due

nine : (a b c e f : Bool) (n : ℕ) → T a → T b → T e → f ≡ false → cond (not a) 0 (cond b (cond (c || e && not f) 9 0) n) ≡ 9
nine true true true true f n ha hb he hf = refl
nine true true false true true n ha hb he hf = absurd (subst T hf tt)
nine true true false true false n ha hb he hf = refl
nine true true c false f n ha hb he hf = absurd he
nine true false c e f n ha hb he hf = absurd hb
nine false b c e f n ha hb he hf = absurd ha

pub not_due : (s : List ℕ) → Sound s → (d i x : ℕ) → (tick s x d i).refusal ≡ 0 → (t : ℕ)
    → T (has (running s (tick s x d i).sets.modes) t) → has (tick s x d i).sets.entered (source s t) ≡ false → has d t ≡ false
unfolding trigger is_timer is_due
not_due s sd d i x e t r n =
    is_false (has d t) (λ k.
    let z = (tick s x d i).sets in
    let on = running_e s z.modes t r in
    let nine' = nine (has z.modes (source s t)) (is_delay s t) (eqb (delay s t) 0) (has d t) (has z.entered (source s t)) (alternative s i z t) on.on
    (and_l (is_delay s t) (ltb 0 (delay s t)) on.timer) k n in
    let none = settled s sd d i x e t on.small in
    omega arith)

-- the source of a delay of 0 is not active at the end of a tick that is not refused
pub at_once : (s : List ℕ) → Sound s → (d i x : ℕ) → (tick s x d i).refusal ≡ 0 → (t : ℕ) → t < t_of s → T (is_delay s t) → delay s t ≡ 0
    → has (tick s x d i).sets.modes (source s t) ≡ false
unfolding trigger
at_once s sd d i x e t l k z =
    is_false (has (tick s x d i).sets.modes (source s t)) (λ h.
    let w = (tick s x d i).sets in
    let none = settled s sd d i x e t l in
    let nine' : cond (not (has w.modes (source s t))) 0 (cond (is_delay s t) (cond (eqb (delay s t) 0 || is_due s d w t) 9 0) (alternative s i w t)) ≡ 9
    = rw (is_true (has w.modes (source s t)) h, is_true (is_delay s t) k, eq-eqb (delay s t) 0 z) refl in
    omega arith)

-- no term of a kind above 6 holds: an "or" is none
pub holds_none : (s : List ℕ) (i : ℕ) (z : TickSets) (c v : ℕ) → 6 < c → holds s i z c v ≡ false
unfolding holds
holds_none s i z c v l = let none = above_not 6 c in rw (none 1 l tt, none 2 l tt, none 3 l tt, none 4 l tt, none 5 l tt, none 6 l tt)
