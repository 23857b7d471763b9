-- What a round can trigger next: transitions whose source it entered, or with a term about what it did. So the rounds of a tick go on
-- from what is triggered, and timers are due in the first only. Assumes nothing.
use mathlib.Core.Path.{◌≡◌, refl, sym, ap, ap₂, ◌∙◌, subst}
use mathlib.Core.Logic.{◌⊎◌, inl, inr, ⊎_elim}
use mathlib.Core.Bool.{Bool, true, false, not, ◌&&◌, ◌||◌, cond, or-false}
use mathlib.Core.List.{List}
use Prim.Native.Nat.{ℕ, zero, suc, ◌^◌, ◌<◌}
use native.Mathlib.Nat.{lt_of_lt_of_le, lt_of_le_of_lt}
use native.Mathlib.Omega.{arith}
use lib.Dec.{T, T_not, not_T, eqb, ltb}
use borrow.Author.Tests.{eq-eqb}
use Rattle.sets.specs.Sets.{has, union, meet, meets, set_of, those, some_in}
use Rattle.sets.proofs.Tests.{is_false, of_true, of_false, and_l, and_r, and_i, or_e, or_l, or_r, bool_ext}
use Rattle.sets.proofs.Facts.{has-lt, union_e, union_l, union_r, set_of_e, set_of_i, those_i, some_in_e, some_in_i}
use Rattle.sets.proofs.Membership.{has_none, has-union, has_meet, has-set_of, set_of-lt, set_of_ext, same_members, union-lt, meet-le}
use Rattle.sets.proofs.Those.{has-those, those_part_lt}
use Rattle.meaning.specs.Sheet.{k_of, t_of, source}
use Rattle.meaning.specs.Check.{sheet_refusal}
use Rattle.meaning.specs.Hierarchy.{consistent, enters}
use Rattle.meaning.specs.GivesWay.{gives_way}
use Rattle.meaning.specs.Reaction.{TickSets, is_delay, delay, alternative, is_due, trigger, triggered, conflict, eligible, ambiguous, restless, exiting, entering, after_round}
use Rattle.meaning.specs.Tick.{Tick, chosen, rounds_from}
use Rattle.meaning.proofs.SheetLaws.{Sound, sound, t_le}
use Rattle.meaning.proofs.GivesWayLaws.{no_conflict_stays, eligible_among}
use Rattle.meaning.proofs.TickLaws.{Taken, chosen_lt, modes_after, entered_after}
use Rattle.meaning.proofs.Consistency.{entering_e, entering_i, source_on, clear_apart, consistent_after}
use Rattle.meaning.proofs.HighestLevel.{source_exited}
use Rattle.reaction.specs.Plan.{no_sets, sources_in, conflicts_of, events_only, hits_of, mixed, woken_by, next_of}
use Rattle.reaction.specs.Rounds.{next_in, rounds_by}
use Rattle.reaction.proofs.TermLaws.{events_alone}
use Rattle.reaction.proofs.TriggerLaws.{input_lt}
use Rattle.reaction.proofs.RoundLaws.{clashes_ambiguous}
use Rattle.reaction.proofs.AboutLaws.{woken_same, woken_none}

-- ---- no two of ts in conflict: all are eligible

module _ (s : List ℕ) (h : sheet_refusal s ≡ 0) (ts : ℕ) (small : ts < 2 ^ t_of s)
    (e : meets (set_of (t_of s) (λ u. some_in (t_of s) ts (λ t. has (conflicts_of s t) u))) ts ≡ false) where
  below : (t : ℕ) → T (has ts t) → t < t_of s
  below t = has-lt (t_of s) ts t small

  clear : ambiguous s ts ≡ false
  clear = sym (clashes_ambiguous s ts) ∙ e

  -- none gives way to another
  stays : (t u : ℕ) → T (has ts t) → T (has ts u) → gives_way s u t ≡ false
  stays t u a b =
      no_conflict_stays s t u
      (is_false (not (eqb t u) && conflict s t u) (λ k.
      clear_apart s (sound s h) ts below clear t u a b
      (λ q. T_not (eqb t u) (and_l (not (eqb t u)) (conflict s t u) k) (of_true (eq-eqb t u q)))
      (and_r (not (eqb t u)) (conflict s t u) k)))

  pub clear_eligible : (eligible s ts ≡ ts) × (ambiguous s ts ≡ false)
  unfolding eligible
  clear_eligible = (same_members (λ u. bool_ext (has (eligible s ts) u) (has ts u) (eligible_among s ts u) (back u)), clear)
    where
      none : (u : ℕ) → T (has ts u) → T (some_in (t_of s) ts (gives_way s u)) → ⊥
      none u m k = let r = some_in_e (t_of s) ts (gives_way s u) k in of_false (stays r.0 u r.2 m) r.3

      back : (u : ℕ) → T (has ts u) → T (has (those (t_of s) ts (λ t. not (some_in (t_of s) ts (gives_way s t)))) u)
      back u m = those_i (t_of s) ts (λ t. not (some_in (t_of s) ts (gives_way s t))) u (below u m) m (not_T (some_in (t_of s) ts (gives_way s u)) (none u m))

-- ---- the transitions that a round which takes es can trigger next

abbrev is_next : List ℕ → ℕ → ℕ → Bool
is_next s es u = some_in (t_of s) es (λ t. has (next_of s t) u)

module _ (s : List ℕ) (h : sheet_refusal s ≡ 0) (es u : ℕ) (l : u < t_of s) where
  -- their source is entered, or a term is about what one of es does
  next_entered : T (has (entering s es) (source s u)) → T (is_next s es u)
  unfolding next_of sources_in
  next_entered k =
      let r = entering_e s (sound s h) es (source s u) k in
      some_in_i (t_of s) es (λ t. has (next_of s t) u) r.0 r.1 r.2
      (union_l (sources_in s (enters s r.0)) (woken_by s r.0) u (set_of_i (t_of s) (λ v. has (enters s r.0) (source s v)) u l r.3))

  next_woken : (t : ℕ) → t < t_of s → T (has es t) → T (has (woken_by s t) u) → T (is_next s es u)
  unfolding next_of
  next_woken t k m w = some_in_i (t_of s) es (λ v. has (next_of s v) u) t k m (union_r (sources_in s (enters s t)) (woken_by s t) u w)

  -- and that of a delay, or of one with event terms alone, is entered
  next_plain : T (is_next s es u) → T (is_delay s u) ⊎ T (events_only s u) → T (has (entering s es) (source s u))
  unfolding next_of sources_in
  next_plain n k =
      let r = some_in_e (t_of s) es (λ t. has (next_of s t) u) n in
      ⊎_elim (λ m. entering_i s (sound s h) es r.0 (source s u) r.1 r.2 (set_of_e (t_of s) (λ v. has (enters s r.0) (source s v)) u m).1)
      (λ m. absurd (woken_none s h u l r.0 k m)) (union_e (sources_in s (enters s r.0)) (woken_by s r.0) u r.3)

-- triggered after a round with a source that was active before it: triggered before it, where what is due and what holds was so before
trigger_before : (on on' wait now due due' : Bool) (a a' : ℕ) → T on → (T due' → T due) → (T (ltb 0 a') → T (ltb 0 a))
    → T (ltb 0 (cond (not on') 0 (cond wait (cond (now || due') 9 0) a'))) → T (ltb 0 (cond (not on) 0 (cond wait (cond (now || due) 9 0) a)))
trigger_before false on' wait now due due' a a' o p q k = absurd o
trigger_before true false wait now due due' a a' o p q k = absurd k
trigger_before true true false now due due' a a' o p q k = q k
trigger_before true true true true due due' a a' o p q k = tt
trigger_before true true true false true due' a a' o p q k = tt
trigger_before true true true false false true a a' o p q k = absurd (p tt)
trigger_before true true true false false false a a' o p q k = k

-- by its truth values: n it can be triggered next, g its source is entered, it is active; a delay, of 0, due; events only, with the
-- alternative m that the input gives and the alternative a that the sets give
next_cases : (n g on wait now due events : Bool) (a m : ℕ) → (T g → T on) → (T g → T due → ⊥) → (T n → T wait ⊎ T events → T g)
    → (events ≡ true → m ≡ a) → (T (ltb 0 (cond (not on) 0 (cond wait (cond (now || due) 9 0) a))) → T n)
    → ((n && cond wait now (events && ltb 0 m)) || ((n && (not wait && not events)) && (on && ltb 0 a)))
    ≡ ltb 0 (cond (not on) 0 (cond wait (cond (now || due) 9 0) a))
next_cases false g on wait now due events a m p q r e f = sym (is_false _ f)
next_cases true g false true now due events a m p q r e f = absurd (p (r tt (inl tt)))
next_cases true g true true true due events a m p q r e f = refl
next_cases true g true true false true events a m p q r e f = absurd (q (r tt (inl tt)) tt)
next_cases true g true true false false events a m p q r e f = refl
next_cases true g false false now due true a m p q r e f = absurd (p (r tt (inr tt)))
next_cases true g true false now due true a m p q r e f = rw (e refl) (or-false (ltb 0 a))
next_cases true g false false now due false a m p q r e f = refl
next_cases true g true false now due false a m p q r e f = refl

-- ---- what is triggered after a round with the due timers d, of which d' are due still

module _ (s : List ℕ) (h : sheet_refusal s ≡ 0) (d d' i : ℕ) (z : TickSets) (b : i < 2 ^ k_of s) (con : T (consistent s z.modes))
    (sub : (t : ℕ) → T (has d' t) → T (has d t)) where
  abbrev es : ℕ
  es = chosen s d i z

  abbrev z' : TickSets
  z' = after_round s z es

  small : i < 2 ^ 32
  small = omega (arith, input_lt s i h b)

  -- what is due after the round was due before it
  due_before : (u : ℕ) → T (is_due s d' z' u) → T (is_due s d z u)
  unfolding is_due
  due_before u k =
      and_i (has d u) (not (has z.entered (source s u))) (sub u (and_l (has d' u) (not (has z'.entered (source s u))) k))
      (not_T (has z.entered (source s u)) (λ m.
      T_not (has z'.entered (source s u)) (and_r (has d' u) (not (has z'.entered (source s u))) k)
      (subst T (sym (entered_after s z es (source s u))) (or_l (has z.entered (source s u)) (has (entering s es) (source s u)) m))))

  -- a source that is entered is active, and no timer of it is due
  entered_on : (u : ℕ) → T (has (entering s es) (source s u)) → T (has z'.modes (source s u))
  entered_on u k =
      subst T (sym (modes_after s z es (source s u)))
      (or_r (has z.modes (source s u) && not (has (exiting s z es) (source s u))) (has (entering s es) (source s u)) k)

  entered_not_due : (u : ℕ) → T (has (entering s es) (source s u)) → T (is_due s d' z' u) → ⊥
  unfolding is_due
  entered_not_due u k m =
      T_not (has z'.entered (source s u)) (and_r (has d' u) (not (has z'.entered (source s u))) m)
      (subst T (sym (entered_after s z es (source s u))) (or_r (has z.entered (source s u)) (has (entering s es) (source s u)) k))

  -- what is triggered is next: else its source stayed, so that it was not triggered before, and its terms say what they said
  triggered_next : (u : ℕ) → u < t_of s → T (ltb 0 (trigger s d' i z' u)) → T (is_next s es u)
  unfolding trigger triggered
  triggered_next u l k = go (is_next s es u) refl
    where
      sd : Sound s
      sd = sound s h

      m : ℕ
      m = source s u

      go : (c : Bool) → is_next s es u ≡ c → T (is_next s es u)
      go true e = of_true e
      go false e =
          absurd (⊎_elim stayed (λ g. of_false e (next_entered s h es u l g))
          (or_e (has z.modes m && not (has (exiting s z es) m)) (has (entering s es) m) (subst T (modes_after s z es m) (source_on s sd z' d' i u k))))
        where
          before : T (has z.modes m) → T (has (triggered s d i z) u)
          before on =
              set_of_i (t_of s) (λ v. ltb 0 (trigger s d i z v)) u l
              (trigger_before (has z.modes m) (has z'.modes m) (is_delay s u) (eqb (delay s u) 0) (is_due s d z u) (is_due s d' z' u)
              (alternative s i z u) (alternative s i z' u)
              on (due_before u) (subst T (woken_same s h i small z es (chosen_lt s d i z) u l
              (λ t p w. of_false e (next_woken s h es u l t (chosen_lt s d i z t p) p w)))) k)

          stayed : T (has z.modes m && not (has (exiting s z es) m)) → ⊥
          stayed q =
              T_not (has (exiting s z es) m) (and_r (has z.modes m) (not (has (exiting s z es) m)) q)
              (source_exited s h d i z con u (before (and_l (has z.modes m) (not (has (exiting s z es) m)) q)))

  -- the terms of u hold after the round, and its source is active
  abbrev judge : ℕ → Bool
  judge u = has z'.modes (source s u) && ltb 0 (alternative s i z' u)

  next_at_lem : (u : ℕ) → u < t_of s
      → has (union (meet (next_in s es) (hits_of s i)) (those 64 (meet (next_in s es) (mixed s)) judge)) u ≡ ltb 0 (trigger s d' i z' u)
  unfolding trigger hits_of mixed
  next_at_lem u l =
      let next = next_in s es in
      let next_is : has next u ≡ is_next s es u = has-set_of (t_of s) (is_next s es) u l in
      has-union (meet next (hits_of s i)) (those 64 (meet next (mixed s)) judge) u
      ∙ ap₂ ◌||◌
      (has_meet next (hits_of s i) u ∙ ap₂ ◌&&◌ next_is (has-set_of (t_of s) _ u l))
      (has-those 64 (meet next (mixed s)) judge u (lt_of_lt_of_le l (t_le s (sound s h)))
      ∙ ap (λ (x : Bool). x && judge u) (has_meet next (mixed s) u ∙ ap₂ ◌&&◌ next_is (has-set_of (t_of s) _ u l)))
      ∙ next_cases (is_next s es u) (has (entering s es) (source s u)) (has z'.modes (source s u)) (is_delay s u) (eqb (delay s u) 0) (is_due s d' z' u) (events_only s u)
      (alternative s i z' u) (alternative s i no_sets u) (entered_on u) (entered_not_due u) (next_plain s h es u l) (events_alone s i no_sets z' u small h l)
      (triggered_next u l)

  pub next_triggered : triggered s d' i z' ≡ union (meet (next_in s es) (hits_of s i)) (those 64 (meet (next_in s es) (mixed s)) judge)
  unfolding triggered
  next_triggered =
      sym (set_of_ext (t_of s) (λ u. ltb 0 (trigger s d' i z' u))
      (union-lt (t_of s) (lt_of_le_of_lt (meet-le (next_in s es) (hits_of s i)) below)
      (those_part_lt 64 (t_of s) (meet (next_in s es) (mixed s)) judge (lt_of_le_of_lt (meet-le (next_in s es) (mixed s)) below)))
      next_at_lem)
    where
      below : next_in s es < 2 ^ t_of s
      below = set_of-lt (t_of s) (is_next s es)

-- ---- the rounds from what is triggered on

module _ (s : List ℕ) (h : sheet_refusal s ≡ 0) where
  -- after a round no timer is due that was due before
  pub none_due_after : (d i : ℕ) (z : TickSets) → i < 2 ^ k_of s → T (consistent s z.modes)
      → triggered s 0 i (after_round s z (chosen s d i z)) ≡ triggered s d i (after_round s z (chosen s d i z))
  none_due_after d i z b con =
      next_triggered s h d 0 i z b con (λ t k. absurd (of_false (has_none t) k)) ∙ sym (next_triggered s h d d i z b con (λ t k. k))

  pub rounds_by_lem : (f d i : ℕ) (z : TickSets) (r : ℕ) → i < 2 ^ k_of s → T (consistent s z.modes)
      → rounds_by s f i z (triggered s d i z) r ≡ rounds_from s f d i z r
  unfolding rounds_by rounds_from chosen
  rounds_by_lem zero d i z r b con = refl
  rounds_by_lem (suc f) d i z r b con =
      go (eqb es₀ 0) (ambiguous s es₀) (restless s z es₀) refl refl refl (λ k.
      ap (λ (x : ℕ). rounds_by s f i after x (suc r)) (none_due_after d i z b con) ∙ rounds_by_lem f d i after (suc r) b (consistent_after s (sound s h) d i z con k))
    where
      es₀ : ℕ
      es₀ = chosen s d i z

      after : TickSets
      after = after_round s z es₀

      on : Tick
      on = rounds_by s f i after (triggered s 0 i after) (suc r)

      on' : Tick
      on' = rounds_from s f d i after (suc r)

      res : Tick → Bool → Bool → Bool → Tick
      res o x y c =
          cond x (record { refusal = 0; sets = z; rounds = r })
          (cond y (record { refusal = 8; sets = z; rounds = r })
          (cond c (record { refusal = 9; sets = z; rounds = r }) o))

      go : (x y c : Bool) → eqb es₀ 0 ≡ x → ambiguous s es₀ ≡ y → restless s z es₀ ≡ c → (Taken s d i z → on ≡ on') → res on x y c ≡ res on' x y c
      go true y c ex ey ec ih = refl
      go false true c ex ey ec ih = refl
      go false false true ex ey ec ih = refl
      go false false false ex ey ec ih = ih (record { filled = ex; clear = ey; fresh = ec })
