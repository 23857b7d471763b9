-- The tick in document 01's words, with readings changed round by round, is the tick on due sets. Assumes nothing.
use mathlib.Core.Path.{◌≡◌, refl, sym, ap, ap₂, ◌∙◌, subst}
use mathlib.Core.Logic.{◌⊎◌, inl, inr}
use mathlib.Core.Bool.{Bool, true, false, not, ◌&&◌, ◌||◌, cond, or-true, or-false, and-false, and-true}
use mathlib.Core.List.{List}
use Prim.Native.Nat.{ℕ, zero, suc, ◌-◌, ◌<◌}
use native.Mathlib.Nat.{pos_of_ne-zero, lt_of_lt_of_le}
use lib.Dec.{T, eqb, ltb, lt→ltb}
use lib.ListN.{get_or}
use borrow.Author.Tests.{eqb-false}
use Rattle.sets.specs.Sets.{has, single}
use Rattle.sets.proofs.Tests.{is_true, is_false, of_true, and_l, and_i, or_e, cond_ext}
use Rattle.sets.proofs.Membership.{has_none, set_of_same}
use Rattle.meaning.specs.Lists.{row_from}
use Rattle.meaning.specs.Sheet.{t_of, source}
use Rattle.meaning.specs.Hierarchy.{complete}
use Rattle.meaning.specs.Reaction.{TickSets, is_delay, delay, is_timer, running, alternative, is_due, trigger, triggered, eligible, ambiguous, restless, exiting, entering, after_round}
use Rattle.meaning.specs.Tick.{Tick, begin, chosen, rounds_from, tick}
use Rattle.meaning.specs.Ages.{next_ages}
use Rattle.meaning.specs.Run.{State, reading, due_timers, next_readings, next_state}
use Rattle.meaning.specs.SheetRun.{tick_from, state_after}
use Rattle.meaning.specs.TickInWords.{Timed, timed, trigger_at, chosen_at, restarted, timed_from, start_readings, timed_tick, timed_state}
use Rattle.meaning.specs.Promises.{InWords}
use Rattle.meaning.proofs.ListLaws.{row_at, row_from_ext}
use Rattle.meaning.proofs.SheetLaws.{Sound, sound, t_le}
use Rattle.meaning.proofs.TickLaws.{modes_after, entered_after, Runs, running_e, running_i}
use Rattle.meaning.proofs.ReadingLaws.{due_at}

module _ (s : List ℕ) (sd : Sound s) (d i : ℕ) (low : ℕ → ℕ) where
  -- a running timer reads its delay if its source was entered in this tick, else low; and it is in d where low is 0
  pub record Reads (z : TickSets) (readings : List ℕ) (t : ℕ) : Type 0 where
    pub value : get_or readings t 0 ≡ cond (has z.entered (source s t)) (delay s t) (low t)
    pub is_due_lem : has z.entered (source s t) ≡ false → has d t ≡ eqb (low t) 0

  pub Inv : TickSets → List ℕ → Type 0
  Inv z readings = (t : ℕ) → Runs s z.modes t → Reads z readings t

  inner : (e h : Bool) (v dl l : ℕ) → eqb dl 0 ≡ false → v ≡ cond e dl l → (e ≡ false → h ≡ eqb l 0) → eqb v 0 ≡ (h && not e)
  inner true h v dl l nz ev eh = ap (λ (x : ℕ). eqb x 0) ev ∙ nz ∙ sym (and-false h)
  inner false h v dl l nz ev eh = ap (λ (x : ℕ). eqb x 0) ev ∙ sym (eh refl) ∙ sym (and-true h)

  timer_of : (t : ℕ) → is_delay s t ≡ true → eqb (delay s t) 0 ≡ false → T (is_timer s t)
  unfolding is_timer
  timer_of t a b = and_i (is_delay s t) (ltb 0 (delay s t)) (of_true a) (lt→ltb 0 (delay s t) (pos_of_ne-zero (eqb-false (delay s t) 0 b)))

  same_trigger : (z : TickSets) (readings : List ℕ) → Inv z readings → (t : ℕ) → t < t_of s → trigger_at s i z readings t ≡ trigger s d i z t
  unfolding trigger_at trigger Inv is_due
  same_trigger z readings v t l = go (has z.modes (source s t)) (is_delay s t) (eqb (delay s t) 0) refl refl refl
    where
      h : Bool
      h = has d t && not (has z.entered (source s t))

      go : (a b c : Bool) → has z.modes (source s t) ≡ a → is_delay s t ≡ b → eqb (delay s t) 0 ≡ c
          → cond (not a) 0 (cond b (cond (c || eqb (get_or readings t 0) 0) 9 0) (alternative s i z t)) ≡ cond (not a) 0 (cond b (cond (c || h) 9 0) (alternative s i z t))
      go false b c ea eb ec = refl
      go true false c ea eb ec = refl
      go true true true ea eb ec = refl
      go true true false ea eb ec =
          let q = v t (record { small = l; timer = timer_of t eb ec; on = of_true ea }) in
          ap (λ (x : Bool). cond x 9 0) (inner (has z.entered (source s t)) (has d t) (get_or readings t 0) (delay s t) (low t) ec q.value q.is_due_lem)

  same_chosen : (z : TickSets) (readings : List ℕ) → Inv z readings → chosen_at s i z readings ≡ chosen s d i z
  unfolding chosen_at chosen triggered
  same_chosen z readings v =
      ap (eligible s) (set_of_same (t_of s) (λ t. ltb 0 (trigger_at s i z readings t)) (λ t. ltb 0 (trigger s d i z t))
      (λ t l. ap (λ (x : ℕ). ltb 0 x) (same_trigger z readings v t l)))

  inv_round : (z : TickSets) (readings : List ℕ) (es : ℕ) → Inv z readings → Inv (after_round s z es) (restarted s (entering s es) readings)
  unfolding Inv restarted
  inv_round z readings es v t k = go (has (entering s es) (source s t)) refl
    where
      z' : TickSets
      z' = after_round s z es

      row : ℕ → ℕ
      row u = cond (has (running s (entering s es)) u) (delay s u) (get_or readings u 0)

      now' : (b : Bool) → has (running s (entering s es)) t ≡ b → get_or (row_from 0 64 row) t 0 ≡ cond b (delay s t) (get_or readings t 0)
      now' b e =
          row_at 64 row t (lt_of_lt_of_le k.small (t_le s sd))
          ∙ ap (λ (c : Bool). cond c (delay s t) (get_or readings t 0)) e

      starts : has (entering s es) (source s t) ≡ true → has (running s (entering s es)) t ≡ true
      starts e = is_true (has (running s (entering s es)) t) (running_i s (entering s es) t (record { small = k.small; timer = k.timer; on = of_true e }))

      rests : has (entering s es) (source s t) ≡ false → has (running s (entering s es)) t ≡ false
      rests e = is_false (has (running s (entering s es)) t) (λ h. subst T e (running_e s (entering s es) t h).on)

      ent : has z'.entered (source s t) ≡ (has z.entered (source s t) || has (entering s es) (source s t))
      ent = entered_after s z es (source s t)

      was : has (entering s es) (source s t) ≡ false → T (has z.modes (source s t))
      was g = old (or_e (has z.modes (source s t) && not (has (exiting s z es) (source s t))) (has (entering s es) (source s t)) (subst T (modes_after s z es (source s t)) k.on))
        where
          old : T (has z.modes (source s t) && not (has (exiting s z es) (source s t))) ⊎ T (has (entering s es) (source s t)) → T (has z.modes (source s t))
          old (inl a) = and_l (has z.modes (source s t)) (not (has (exiting s z es) (source s t))) a
          old (inr a) = absurd (subst T g a)

      go : (b : Bool) → has (entering s es) (source s t) ≡ b → Reads z' (row_from 0 64 row) t
      go true e =
          let on : has z'.entered (source s t) ≡ true = ent ∙ ap (λ (b : Bool). has z.entered (source s t) || b) e ∙ or-true (has z.entered (source s t)) in
          record {
            value = now' true (starts e) ∙ sym (ap (λ (b : Bool). cond b (delay s t) (low t)) on);
            is_due_lem = λ f. absurd (subst T (sym on ∙ f) tt);
          }
      go false e =
          let same = ent ∙ ap (λ (b : Bool). has z.entered (source s t) || b) e ∙ or-false (has z.entered (source s t)) in
          let q = v t (record { small = k.small; timer = k.timer; on = was e }) in
          record {
            value = now' false (rests e) ∙ q.value ∙ sym (ap (λ (b : Bool). cond b (delay s t) (low t)) same);
            is_due_lem = λ f. q.is_due_lem (sym same ∙ f);
          }

  -- round by round the two go together
  together : (f : ℕ) (z : TickSets) (readings : List ℕ) (n : ℕ) → Inv z readings
      → ((timed_from s f i z readings n).tick ≡ rounds_from s f d i z n) × Inv (timed_from s f i z readings n).tick.sets (timed_from s f i z readings n).readings
  unfolding timed_from rounds_from timed
  together zero z readings n v = (refl, v)
  together (suc f) z readings n v =
      subst (λ (es : ℕ). ((left es).tick ≡ right) × Inv (left es).tick.sets (left es).readings) (sym (same_chosen z readings v))
      (go (eqb c 0) (ambiguous s c) (restless s z c) (together f (after_round s z c) (restarted s (entering s c) readings) (suc n) (inv_round z readings c v)))
    where
      left : ℕ → Timed
      left es =
          cond (eqb es 0) (timed 0 z readings n)
          (cond (ambiguous s es) (timed 8 z readings n)
          (cond (restless s z es) (timed 9 z readings n) (timed_from s f i (after_round s z es) (restarted s (entering s es) readings) (suc n))))

      right : Tick
      right = rounds_from s (suc f) d i z n

      c : ℕ
      c = chosen s d i z

      on_l : Timed
      on_l = timed_from s f i (after_round s z c) (restarted s (entering s c) readings) (suc n)

      on_r : Tick
      on_r = rounds_from s f d i (after_round s z c) (suc n)

      L : Bool → Bool → Bool → Timed
      L x y w = cond x (timed 0 z readings n) (cond y (timed 8 z readings n) (cond w (timed 9 z readings n) on_l))

      R : Bool → Bool → Bool → Tick
      R x y w =
          cond x (record { refusal = 0; sets = z; rounds = n })
          (cond y (record { refusal = 8; sets = z; rounds = n })
          (cond w (record { refusal = 9; sets = z; rounds = n }) on_r))

      go : (x y w : Bool) → (on_l.tick ≡ on_r) × Inv on_l.tick.sets on_l.readings
          → ((L x y w).tick ≡ R x y w) × Inv (L x y w).tick.sets (L x y w).readings
      go true y w ih = (refl, v)
      go false true w ih = (refl, v)
      go false false true ih = (refl, v)
      go false false false ih = ih

module _ (s : List ℕ) (sd : Sound s) (q : State) (i : ℕ) where
  abbrev low : ℕ → ℕ
  low t = reading q.readings t - 1

  abbrev d : ℕ
  d = due_timers (running s q.at) q.readings

  -- the readings at the start of the tick
  inv_start : Inv s sd d i low (begin s q.at) (start_readings s q)
  unfolding Inv start_readings begin
  inv_start t k = go (eqb q.at 0) refl k
    where
      y : ℕ
      y = complete s (single 0)

      start : Bool → TickSets
      start b =
          cond b (record { modes = y; entered = y; exited = 0; active = y; taken = 0 })
          (record { modes = q.at; entered = 0; exited = 0; active = q.at; taken = 0 })

      row : Bool → ℕ → ℕ
      row b u = cond (has (running s (start b).modes) u) (cond b (delay s u) (reading q.readings u - 1)) 0

      first : (b : Bool) → Runs s (start b).modes t → get_or (row_from 0 64 (row b)) t 0 ≡ cond b (delay s t) (low t)
      first b r =
          row_at 64 (row b) t (lt_of_lt_of_le r.small (t_le s sd))
          ∙ ap (λ (c : Bool). cond c (cond b (delay s t) (low t)) 0) (is_true (has (running s (start b).modes) t) (running_i s (start b).modes t r))

      go : (b : Bool) → eqb q.at 0 ≡ b → Runs s (start b).modes t → Reads s sd d i low (start b) (row_from 0 64 (row b)) t
      go true e r =
          record {
            value = first true r ∙ sym (ap (λ (v : Bool). cond v (delay s t) (low t)) (is_true (has y (source s t)) r.on));
            is_due_lem = λ f. absurd (subst T f r.on);
          }
      go false e r =
          record {
            value = first false r ∙ sym (ap (λ (v : Bool). cond v (delay s t) (low t)) (has_none (source s t)));
            is_due_lem = λ f. due_at (running s q.at) q.readings t (lt_of_lt_of_le r.small (t_le s sd))
                ∙ ap (λ (v : Bool). v && eqb (low t) 0) (is_true (has (running s q.at) t) (running_i s q.at t r));
          }

  both : ((timed_tick s q i).tick ≡ tick_from s q i) × Inv s sd d i low (timed_tick s q i).tick.sets (timed_tick s q i).readings
  unfolding timed_tick tick_from tick
  both = together s sd d i low (suc (t_of s)) (begin s q.at) (start_readings s q) 0 inv_start

  state_same : timed_state s q i ≡ state_after s q (tick_from s q i).sets
  unfolding timed_state state_after next_state next_readings Inv
  state_same =
      ap₂ (λ (o : Tick) (l : List ℕ). record { at = o.sets.modes; readings = l; ages = next_ages o.sets.modes o.sets.entered q.ages }) both.0
      (row_from_ext (λ t. cond (has (running s z.modes) t) (get_or (timed_tick s q i).readings t 0) 0) (row z) 0 64
      (λ t a b. cond_ext (has (running s z.modes) t) (get_or (timed_tick s q i).readings t 0) (cond (has z.entered (source s t)) (delay s t) (low t)) 0
      (λ h. (both.1 t (running_e s z.modes t h)).value))
      ∙ ap (λ (o : Tick). row_from 0 64 (row o.sets)) both.0)
    where
      z : TickSets
      z = (timed_tick s q i).tick.sets

      row : TickSets → ℕ → ℕ
      row x t = cond (has (running s x.modes) t) (cond (has x.entered (source s t)) (delay s t) (reading q.readings t - 1)) 0

pub in_words_lem : InWords
unfolding InWords
in_words_lem s h q i = ((both s (sound s h) q i).0, state_same s (sound s h) q i)
