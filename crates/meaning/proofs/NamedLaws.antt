-- A tick depends on its input only through the events that transitions with an active source name; which modes are active in a tick.
-- Assumes nothing.
use mathlib.Core.Path.{◌≡◌, refl, sym, ap, ap₂, ◌∙◌, subst}
use mathlib.Core.Logic.{◌⊎◌, inl, inr, ⊎_elim}
use mathlib.Core.Bool.{Bool, true, false, not, ◌&&◌, ◌||◌, cond}
use mathlib.Core.List.{List, [], ◌∷◌, map}
use Prim.Native.Nat.{ℕ, zero, suc, ◌+◌, ◌<◌}
use native.Mathlib.Omega.{arith}
use lib.Dec.{T, eqb, ltb, eqb_refl, eqb→eq, ltb→lt}
use lib.ListN.{drop, get_or}
use lib.Bits.{or_zero_r, or_self}
use Rattle.sets.specs.Sets.{has, union, some_in}
use Rattle.sets.proofs.Tests.{and_l, and_r, and_i, or_e, or_l, or_r}
use Rattle.sets.proofs.Facts.{some_e, some_i}
use Rattle.sets.proofs.Membership.{set_of_same, union_assoc}
use Rattle.meaning.specs.Lists.{all_of, first_of}
use Rattle.meaning.specs.Sheet.{n_of, k_of, t_of, source, term_count, term_kind, term_value}
use Rattle.meaning.specs.Check.{kind_ok, term_ok}
use Rattle.meaning.specs.Reaction.{TickSets, is_delay, delay, holds, in_first, alternatives_from, alternatives, all_hold, alternative, is_due, trigger, triggered, eligible, ambiguous, restless, exiting, entering, after_round}
use Rattle.meaning.specs.Tick.{Tick, begin, chosen, rounds_from, tick}
use Rattle.meaning.specs.RoundList.{round_list, tick_rounds}
use Rattle.meaning.specs.NamedEvents.{names, NamedEvents}
use Rattle.meaning.proofs.SheetLaws.{Sound}
use Rattle.meaning.proofs.TickLaws.{Taken, rounds_ind, modes_after, active_after, begin_by}
use Rattle.meaning.proofs.RoundListLaws.{round_list_all}

-- ---- where each term of t says the same, the same alternative holds

module _ (s : List ℕ) (i j : ℕ) (y z : TickSets) (t : ℕ) where
  -- term p of t says the same on both
  SaysSame : ℕ → Type 0
  SaysSame p = holds s i y (term_kind s t p) (term_value s t p) ≡ holds s j z (term_kind s t p) (term_value s t p)

  -- term p in front of the first alternative
  first_same : (p : ℕ) (l : List (List ℕ)) → SaysSame p → map (all_hold s i y t) l ≡ map (all_hold s j z t) l
      → map (all_hold s i y t) (in_first p l) ≡ map (all_hold s j z t) (in_first p l)
  unfolding SaysSame in_first all_hold all_of
  first_same p [] h e = refl
  first_same p (ps ∷ l) h e = ap₂ (λ (b : Bool) (bs : List Bool). (b && get_or bs 0 true) ∷ drop 1 bs) h e

  from_same : (w p : ℕ) → ((u : ℕ) → u < p + w → SaysSame u)
      → map (all_hold s i y t) (alternatives_from s t w p) ≡ map (all_hold s j z t) (alternatives_from s t w p)
  unfolding alternatives_from all_hold all_of
  from_same zero p h = refl
  from_same (suc w) p h = go (eqb (term_kind s t p) 7) (from_same w (suc p) (λ u l. h u (omega arith)))
    where
      rest : List (List ℕ)
      rest = alternatives_from s t w (suc p)

      go : (b : Bool) → map (all_hold s i y t) rest ≡ map (all_hold s j z t) rest
          → map (all_hold s i y t) (cond b ([] ∷ rest) (in_first p rest)) ≡ map (all_hold s j z t) (cond b ([] ∷ rest) (in_first p rest))
      go true e = ap (λ (bs : List Bool). true ∷ bs) e
      go false e = first_same p rest (h p (omega arith)) e

  pub alternative_same : ((p : ℕ) → p < term_count s t → holds s i y (term_kind s t p) (term_value s t p) ≡ holds s j z (term_kind s t p) (term_value s t p))
      → alternative s i y t ≡ alternative s j z t
  unfolding SaysSame alternative alternatives
  alternative_same h = ap (first_of 1) (from_same (term_count s t) 0 (λ u l. h u (omega arith)))

-- ---- two inputs that agree on the events that a transition names

module _ (s : List ℕ) (d i j : ℕ) (z : TickSets) where
  -- a term says the same where they agree on its event, if it is of an event
  holds_same : (c v : ℕ) → (T (eqb c 1 || eqb c 2) → has i v ≡ has j v) → holds s i z c v ≡ holds s j z c v
  unfolding holds
  holds_same c v h = go (eqb c 1) (eqb c 2) h
    where
      rest : Bool
      rest =
          cond (eqb c 3) (some_in (n_of s) v (has z.active))
          (cond (eqb c 4) (has z.entered v) (cond (eqb c 5) (has z.exited v) (cond (eqb c 6) (has z.taken v) false)))

      go : (a b : Bool) → (T (a || b) → has i v ≡ has j v)
          → cond a (has i v) (cond b (not (has i v)) rest) ≡ cond a (has j v) (cond b (not (has j v)) rest)
      go true b k = k tt
      go false true k = ap not (k tt)
      go false false k = refl

  -- the event of a term is named
  names_term : (t p : ℕ) → p < term_count s t → T (eqb (term_kind s t p) 1 || eqb (term_kind s t p) 2) → T (names s t (term_value s t p))
  unfolding names
  names_term t p l h =
      some_i (term_count s t) _ p l
      (and_i (eqb (term_kind s t p) 1 || eqb (term_kind s t p) 2) (eqb (term_value s t p) (term_value s t p)) h (eqb_refl (term_value s t p)))

  -- a transition whose source is not active asks for no agreement
  pub trigger_same : (t : ℕ) → (T (has z.modes (source s t)) → (e : ℕ) → T (names s t e) → has i e ≡ has j e) → trigger s d i z t ≡ trigger s d j z t
  unfolding trigger
  trigger_same t h = go (has z.modes (source s t)) h
    where
      delayed : ℕ
      delayed = cond (eqb (delay s t) 0 || is_due s d z t) 9 0

      go : (b : Bool) → (T b → (e : ℕ) → T (names s t e) → has i e ≡ has j e)
          → cond (not b) 0 (cond (is_delay s t) delayed (alternative s i z t)) ≡ cond (not b) 0 (cond (is_delay s t) delayed (alternative s j z t))
      go false k = refl
      go true k =
          ap (cond (is_delay s t) delayed)
          (alternative_same s i j z z t (λ p l. holds_same (term_kind s t p) (term_value s t p) (λ g. k tt (term_value s t p) (names_term t p l g))))

  pub chosen_same : ((t e : ℕ) → t < t_of s → T (has z.modes (source s t)) → T (names s t e) → has i e ≡ has j e) → chosen s d i z ≡ chosen s d j z
  unfolding chosen triggered
  chosen_same h =
      ap (eligible s) (set_of_same (t_of s) (λ t. ltb 0 (trigger s d i z t)) (λ t. ltb 0 (trigger s d j z t))
      (λ t l. ap (ltb 0) (trigger_same t (λ on e. h t e l on))))

-- an event that is named is one of the sheet's
module _ (s : List ℕ) where
  event_lt : (t j c : ℕ) → T (eqb c 1) ⊎ T (eqb c 2) → T (kind_ok s t j c) → term_value s t j < k_of s
  unfolding kind_ok
  event_lt t j c (inl h) k = ltb→lt (term_value s t j) (k_of s) (subst (λ (x : ℕ). T (kind_ok s t j x)) (eqb→eq c 1 h) k)
  event_lt t j c (inr h) k = ltb→lt (term_value s t j) (k_of s) (subst (λ (x : ℕ). T (kind_ok s t j x)) (eqb→eq c 2 h) k)

  pub names_event : Sound s → (t e : ℕ) → t < t_of s → T (names s t e) → e < k_of s
  unfolding names term_ok
  names_event sd t e l h =
      let of_event : ℕ → Bool = λ j. eqb (term_kind s t j) 1 || eqb (term_kind s t j) 2 in
      let p = some_e (term_count s t) (λ j. of_event j && eqb (term_value s t j) e) h in
      let j = p.0 in
      let is = eqb→eq (term_value s t j) e (and_r (of_event j) (eqb (term_value s t j) e) p.2) in
      let k = and_l (of_event j) (eqb (term_value s t j) e) p.2 in
      subst (λ (v : ℕ). v < k_of s) is (event_lt t j (term_kind s t j) (or_e (eqb (term_kind s t j) 1) (eqb (term_kind s t j) 2) k) (sd.terms t l j p.1))

-- ---- the modes are active, and what is active stays so

ModesActive : TickSets → Type 0
ModesActive z = (m : ℕ) → T (has z.modes m) → T (has z.active m)

module _ (s : List ℕ) where
  modes_active_step : (z : TickSets) (es : ℕ) → ModesActive z → ModesActive (after_round s z es)
  unfolding ModesActive
  modes_active_step z es p m h =
      subst T (sym (active_after s z es m))
      (⊎_elim (λ k. or_l (has z.active m) (has (entering s es) m) (p m (and_l (has z.modes m) (not (has (exiting s z es) m)) k)))
      (or_r (has z.active m) (has (entering s es) m))
      (or_e (has z.modes m && not (has (exiting s z es) m)) (has (entering s es) m) (subst T (modes_after s z es m) h)))

  -- what is active at the start of rounds is so at their end, and so is a mode that is in the set as one of them begins
  module _ (d i : ℕ) where
    record Active (z : TickSets) (o : Tick) (zs : List TickSets) : Type 0 where
      stays : (m : ℕ) → T (has z.active m) → T (has o.sets.active m)
      within : ModesActive z → (j m : ℕ) → T (has (get_or zs j o.sets).modes m) → T (has o.sets.active m)

    rounds_active : (f : ℕ) (z : TickSets) (r : ℕ) → Active z (rounds_from s f d i z r) (round_list s f d i z)
    unfolding ModesActive
    rounds_active =
        round_list_all s d i (λ z _ o zs. Active z o zs) (λ z _ _. record { stays = λ _ h. h; within = λ a _. a }) (λ z _ o zs _ ih. more z o zs ih)
      where
        more : (z : TickSets) (o : Tick) (zs : List TickSets) → Active (after_round s z (chosen s d i z)) o zs → Active z o (z ∷ zs)
        more z o zs ih = record { stays = stays; within = within }
          where
            es : ℕ
            es = chosen s d i z

            stays : (m : ℕ) → T (has z.active m) → T (has o.sets.active m)
            stays m h = ih.stays m (subst T (sym (active_after s z es m)) (or_l (has z.active m) (has (entering s es) m) h))

            within : ModesActive z → (j m : ℕ) → T (has (get_or (z ∷ zs) j o.sets).modes m) → T (has o.sets.active m)
            within a zero m h = stays m (a m h)
            within a (suc j) m h = ih.within (modes_active_step z es a) j m h

  begin_active : (x : ℕ) → (begin s x).active ≡ (begin s x).modes
  begin_active x = begin_by s (λ z. z.active ≡ z.modes) x (λ _. refl) (λ _. refl)

  modes_active_begin : (x : ℕ) → ModesActive (begin s x)
  unfolding ModesActive
  modes_active_begin x m h = subst (λ (y : ℕ). T (has y m)) (sym (begin_active x)) h

-- ---- the rounds, and the tick

module _ (s : List ℕ) (d i j : ℕ) where
  -- the inputs agree on the events named by transitions with a source in x
  Agree : ℕ → Type 0
  Agree x = (t e : ℕ) → t < t_of s → T (has x (source s t)) → T (names s t e) → has i e ≡ has j e

  rounds_same : (f : ℕ) (z : TickSets) (r : ℕ) → ModesActive z → Agree (rounds_from s f d i z r).sets.active
      → rounds_from s f d i z r ≡ rounds_from s f d j z r
  unfolding rounds_from
  rounds_same zero z r p h = refl
  rounds_same (suc f) z r p h =
      go (eqb es 0) (ambiguous s es) (restless s z es) h (rounds_same f (after_round s z es) (suc r) (modes_active_step s z es p))
      ∙ ap (λ (us : ℕ). rest (eqb us 0) (ambiguous s us) (restless s z us) (rounds_from s f d j (after_round s z us) (suc r))) same
    where
      es : ℕ
      es = chosen s d i z

      rest : Bool → Bool → Bool → Tick → Tick
      rest a b c on =
          cond a (record { refusal = 0; sets = z; rounds = r })
          (cond b (record { refusal = 8; sets = z; rounds = r }) (cond c (record { refusal = 9; sets = z; rounds = r }) on))

      same : chosen s d i z ≡ chosen s d j z
      same =
          unfold Agree ModesActive in
          (chosen_same s d i j z (λ t e l on. h t e l ((rounds_active s d i (suc f) z r).stays (source s t) (p (source s t) on))))

      after : Tick
      after = rounds_from s f d i (after_round s z es) (suc r)

      go : (a b c : Bool) → Agree (rest a b c after).sets.active
          → (Agree after.sets.active → after ≡ rounds_from s f d j (after_round s z es) (suc r))
          → rest a b c after ≡ rest a b c (rounds_from s f d j (after_round s z es) (suc r))
      go true b c k ih = refl
      go false true c k ih = refl
      go false false true k ih = refl
      go false false false k ih = ih k

pub named_events_lem : NamedEvents
unfolding NamedEvents tick Agree
named_events_lem s x d i j h = rounds_same s d i j (suc (t_of s)) (begin s x) 0 (modes_active_begin s x) h

-- ---- which modes are active in a tick

module _ (s : List ℕ) where
  -- those in the set as one of its rounds begins, or at its end
  pub set_active : (x d i j m : ℕ) → T (has (get_or (tick_rounds s x d i) j (tick s x d i).sets).modes m) → T (has (tick s x d i).sets.active m)
  unfolding tick tick_rounds
  set_active x d i = (rounds_active s d i (suc (t_of s)) (begin s x) 0).within (modes_active_begin s x)

  -- those it began with, and those entered
  pub active_entered : (x d i : ℕ) → (tick s x d i).sets.active ≡ union (begin s x).modes (tick s x d i).sets.entered
  unfolding tick
  active_entered x d i =
      rounds_ind s d i (λ z _. z.active ≡ union x' z.entered) step (suc (t_of s)) (begin s x) 0
      (begin_by s (λ z. z.active ≡ union z.modes z.entered) x (λ _. sym (or_self _)) (λ _. sym (or_zero_r x)))
    where
      x' : ℕ
      x' = (begin s x).modes

      step : (z : TickSets) (r : ℕ) → z.active ≡ union x' z.entered → Taken s d i z
          → (after_round s z (chosen s d i z)).active ≡ union x' (after_round s z (chosen s d i z)).entered
      step z r e _ = unfold after_round in (
          ap (λ (y : ℕ). union y (entering s (chosen s d i z))) e ∙ union_assoc x' z.entered (entering s (chosen s d i z))
          )
