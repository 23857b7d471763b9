-- The reasons of Ask 1 in a tick that is not refused: what is reported is so, and nothing else is. A transition that was triggered and
-- gave way in no round was eligible, so it was taken; none is taken in two rounds; nothing is triggered after the last. Assumes nothing.
use mathlib.Core.Path.{◌≡◌, refl, sym, ap, ap₂, ◌∙◌, subst}
use mathlib.Core.Logic.{⊎_elim}
use mathlib.Core.Bool.{Bool, true, false, not, cond}
use mathlib.Core.List.{List, [], ◌∷◌, map}
use Prim.Native.Nat.{ℕ, zero, suc, ◌+◌, ◌^◌, ◌≤◌, ◌<◌, zero-le, suc-le-suc}
use native.Mathlib.Nat.{zero-add, pos_of_ne-zero}
use native.Mathlib.Omega.{arith}
use lib.Dec.{T, eqb, ltb}
use lib.Pow.{pow_pos}
use lib.ListN.{get_or}
use borrow.Author.Tests.{eqb-true, eqb-false, ltb-false}
use Rattle.sets.specs.Sets.{has, those, lowest, some_in}
use Rattle.sets.proofs.Tests.{is_true, is_false, of_true, of_false, or_l, or_r, below_or_not}
use Rattle.sets.proofs.Membership.{has_none}
use Rattle.sets.proofs.Facts.{those_e, those_i, some_in_e}
use Rattle.sets.proofs.Those.{those-lt}
use Rattle.sets.proofs.Members.{Lowest, lowest_member}
use Rattle.meaning.specs.Lists.{first_of}
use Rattle.meaning.specs.Sheet.{t_of, source}
use Rattle.meaning.specs.Check.{sheet_refusal}
use Rattle.meaning.specs.GivesWay.{gives_way}
use Rattle.meaning.specs.Reaction.{TickSets, trigger, triggered, eligible}
use Rattle.meaning.specs.Tick.{begin, chosen, tick}
use Rattle.meaning.specs.RoundList.{tick_rounds}
use Rattle.meaning.specs.Alternatives.{fired_in, fired}
use Rattle.meaning.specs.FiredAlternatives.{FiredTaken}
use Rattle.meaning.specs.Why.{Report, refused, never_active, never_triggered, gave_way_to, taken_in, reason_words, ahead_of, gave_way_in, round_in, reason}
use Rattle.meaning.specs.Reasons.{sets_at, Says, ReasonHolds, ReasonOnly}
use Rattle.meaning.proofs.SheetLaws.{sound}
use Rattle.meaning.proofs.GivesWayLaws.{eligible_i}
use Rattle.meaning.proofs.TickLaws.{triggered-lt, triggered_e, chosen_among, settled}
use Rattle.meaning.proofs.RoundListLaws.{rounds_once}
use Rattle.meaning.proofs.Consistency.{source_on}
use Rattle.meaning.proofs.NamedLaws.{set_active}
use Rattle.meaning.proofs.AlternativeLaws.{fired_first, fired_taken_lem}

-- ---- what a transition gives way to among some

module _ (s : List ℕ) (ts t : ℕ) where
  ahead_e : (u : ℕ) → T (has (ahead_of s ts t) u) → T (has ts t) × T (has ts u) × T (gives_way s t u)
  unfolding ahead_of
  ahead_e u h = go (has ts t) refl h
    where
      go : (b : Bool) → has ts t ≡ b → T (has (cond b (those (t_of s) ts (gives_way s t)) 0) u) → T (has ts t) × T (has ts u) × T (gives_way s t u)
      go true e k = let r = those_e (t_of s) ts (gives_way s t) u k in (of_true e, r.1, r.2)
      go false e k = absurd (of_false (has_none u) k)

  ahead_i : (u : ℕ) → u < t_of s → T (has ts t) → T (has ts u) → T (gives_way s t u) → T (has (ahead_of s ts t) u)
  unfolding ahead_of
  ahead_i u l h k g = rw (is_true (has ts t) h) (those_i (t_of s) ts (gives_way s t) u l k g)

  ahead_small : ahead_of s ts t < 2 ^ t_of s
  unfolding ahead_of
  ahead_small = go (has ts t)
    where
      go : (b : Bool) → cond b (those (t_of s) ts (gives_way s t)) 0 < 2 ^ t_of s
      go true = those-lt (t_of s) ts (gives_way s t)
      go false = pow_pos (t_of s)

  -- where there are some, the lowest is one of them
  ahead_lowest : (ahead_of s ts t ≡ 0 → ⊥) → Lowest (t_of s) (ahead_of s ts t) (lowest (t_of s) (ahead_of s ts t))
  ahead_lowest n = lowest_member (t_of s) (ahead_of s ts t) ahead_small (pos_of_ne-zero n)

  -- one of them that gives way to none of them is eligible
  pub ahead_none : ahead_of s ts t ≡ 0 → t < t_of s → T (has ts t) → T (has (eligible s ts) t)
  ahead_none e l h =
      eligible_i s ts t l h
      (is_false (some_in (t_of s) ts (gives_way s t)) (λ k.
      let r = some_in_e (t_of s) ts (gives_way s t) k in
      of_false (has_none r.0) (subst (λ (x : ℕ). T (has x r.0)) e (ahead_i r.0 r.1 h r.2 r.3))))

-- ---- rounds in a list, from the sets of each as it began; e: the sets after the last

module _ (s : List ℕ) (d i t : ℕ) where
  -- t and u are triggered in the round from z, and t gives way to u
  abbrev Way : TickSets → ℕ → Type 0
  Way z u = T (has (triggered s d i z) t) × T (has (triggered s d i z) u) × T (gives_way s t u)

  way_ahead : (z : TickSets) (u : ℕ) → Way z u → T (has (ahead_of s (triggered s d i z) t) u)
  way_ahead z u h = ahead_i s (triggered s d i z) t u (triggered-lt s d i z u h.1) h.0 h.1 h.2

  module _ (e : TickSets) where
    -- the first round in which t gives way, and the lowest to which it does
    record FirstWay (zs : List TickSets) (u : ℕ) : Type 0 where
      j : ℕ
      here : Way (get_or zs j e) u
      first : (k v : ℕ) → Way (get_or zs k e) v → j ≤ k
      lowest : (v : ℕ) → Way (get_or zs j e) v → u ≤ v

    -- the round that takes t, where the first counts as n + 1, and the number of t
    record TakenAt (zs : List TickSets) (n : ℕ) : Type 0 where
      j : ℕ
      counted : first_of (suc n) (map (λ z. has (chosen s d i z) t) zs) ≡ suc (n + j)
      taken : T (has (chosen s d i (get_or zs j e)) t)
      number : fired_in s d i zs t ≡ trigger s d i (get_or zs j e) t

    -- a number that is not 0 has its round
    taken_at : (zs : List TickSets) (n : ℕ) → T (ltb 0 (fired_in s d i zs t)) → TakenAt zs n
    unfolding fired_in first_of
    taken_at [] n h = absurd h
    taken_at (z ∷ zs) n h = go (has (chosen s d i z) t) refl (taken_at zs (suc n)) h
      where
        go : (b : Bool) → has (chosen s d i z) t ≡ b → (T (ltb 0 (fired_in s d i zs t)) → TakenAt zs (suc n))
            → T (ltb 0 (cond b (trigger s d i z t) (fired_in s d i zs t))) → TakenAt (z ∷ zs) n
        go true q ih k = record { j = 0; counted = rw q (omega arith); taken = of_true q; number = rw q refl }
        go false q ih k =
            let r = ih k in
            record { j = suc r.j; counted = rw q (r.counted ∙ omega arith); taken = r.taken; number = rw q r.number }

    module _ (quiet : T (has (triggered s d i e) t) → ⊥) where
      -- a round that takes t: the number is not 0
      chosen_fired : (zs : List TickSets) (j : ℕ) → T (has (chosen s d i (get_or zs j e)) t) → T (ltb 0 (fired_in s d i zs t))
      chosen_fired [] j h = absurd (quiet (chosen_among s d i e t h))
      chosen_fired (z ∷ zs) zero h = rw (fired_first s d i t z zs) (or_l (has (chosen s d i z) t) (ltb 0 (fired_in s d i zs t)) h)
      chosen_fired (z ∷ zs) (suc j) h =
          rw (fired_first s d i t z zs) (or_r (has (chosen s d i z) t) (ltb 0 (fired_in s d i zs t)) (chosen_fired zs j h))

      abbrev Never : List TickSets → Type 0
      Never zs = (j : ℕ) → has (triggered s d i (get_or zs j e)) t ≡ false

      -- what holds of both reports of rounds that do not take t: it is triggered in none, or gives way in a first one
      stayed : (P : Report → Type 0) (zs : List TickSets) → ((j : ℕ) → T (has (chosen s d i (get_or zs j e)) t) → ⊥)
          → (Never zs → P never_triggered) → ((u : ℕ) → FirstWay zs u → P (gave_way_to u)) → P (gave_way_in s d i zs t)
      unfolding gave_way_in
      stayed P [] n f g = f (λ _. is_false _ quiet)
      stayed P (z ∷ zs) n f g = go (eqb ahead 0) refl (stayed P zs (λ j. n (suc j)))
        where
          ts : ℕ
          ts = triggered s d i z

          ahead : ℕ
          ahead = ahead_of s ts t

          -- not triggered where it gives way to none
          off : ahead ≡ 0 → has ts t ≡ false
          off q = is_false (has ts t) (λ h. n 0 (unfold chosen in (ahead_none s ts t q (triggered-lt s d i z t h) h)))

          never : ahead ≡ 0 → Never zs → Never (z ∷ zs)
          never q m zero = off q
          never q m (suc j) = m j

          later : ahead ≡ 0 → (j : ℕ) → ((k v : ℕ) → Way (get_or zs k e) v → j ≤ k) → (k v : ℕ) → Way (get_or (z ∷ zs) k e) v → suc j ≤ k
          later q j m zero v w = absurd (of_false (off q) w.0)
          later q j m (suc k) v w = suc-le-suc (m k v w)

          least : Lowest (t_of s) ahead (lowest (t_of s) ahead) → (v : ℕ) → Way z v → lowest (t_of s) ahead ≤ v
          least l v w = ⊎_elim (λ k. absurd (of_false (l.least v k) (way_ahead z v w))) (λ k. k) (below_or_not v (lowest (t_of s) ahead))

          go : (b : Bool) → eqb ahead 0 ≡ b → ((Never zs → P never_triggered) → ((u : ℕ) → FirstWay zs u → P (gave_way_to u)) → P (gave_way_in s d i zs t))
              → P (cond b (gave_way_in s d i zs t) (gave_way_to (lowest (t_of s) ahead)))
          go true q ih =
              let none = eqb-true ahead 0 q in
              ih (λ m. f (never none m))
              (λ u w. g u (record { j = suc w.j; here = w.here; first = later none w.j w.first; lowest = w.lowest }))
          go false q ih =
              let l = ahead_lowest s ts t (eqb-false ahead 0 q) in
              let to = ahead_e s ts t (lowest (t_of s) ahead) (of_true l.member) in
              g (lowest (t_of s) ahead) (record { j = 0; here = to; first = λ _ _ _. zero-le; lowest = least l })

-- ---- a tick that is not refused

module _ (s : List ℕ) (x d i t : ℕ) (ok : sheet_refusal s ≡ 0) (done : (tick s x d i).refusal ≡ 0) where
  -- its rounds, the sets that it left, and what is reported of t if it is taken
  abbrev zs : List TickSets
  zs = tick_rounds s x d i

  abbrev left : TickSets
  left = (tick s x d i).sets

  abbrev taken_report : Report
  taken_report = taken_in (round_in s d i zs t) (fired s x d i t)

  -- what a report says of t is so
  abbrev Said : Report → Type 0
  Said r = Says s x d i t r

  -- t is triggered, and eligible, in round j
  abbrev Triggered : ℕ → Type 0
  Triggered j = T (has (triggered s d i (sets_at s x d i j)) t)

  abbrev Chosen : ℕ → Type 0
  Chosen j = T (has (chosen s d i (sets_at s x d i j)) t)

  -- nothing is triggered after the last round
  quiet : T (has (triggered s d i left) t) → ⊥
  quiet h = of_false (ap (ltb 0) (settled s (sound s ok) d i x done t (triggered-lt s d i left t h))) (triggered_e s d i left t h)

  -- triggered, so its source is active in the tick
  triggered_active : (j : ℕ) → Triggered j → T (has left.active (source s t))
  triggered_active j h =
      set_active s x d i j (source s t) (source_on s (sound s ok) (sets_at s x d i j) d i t (triggered_e s d i (sets_at s x d i j) t h))

  -- eligible, so triggered, taken, and eligible in no other round
  chosen_triggered : (j : ℕ) → Chosen j → Triggered j
  chosen_triggered j h = chosen_among s d i (sets_at s x d i j) t h

  chosen_taken : (j : ℕ) → Chosen j → T (has left.taken t)
  unfolding FiredTaken fired
  chosen_taken j h = subst T (fired_taken_lem s x d i t) (chosen_fired s d i t left quiet zs j h)

  chosen_once : (j k : ℕ) → Chosen j → Chosen k → j ≡ k
  unfolding tick tick_rounds
  chosen_once = (rounds_once s d i t (suc (t_of s)) (begin s x) 0 quiet).same

  -- taken, so what is reported then is so
  says_taken : has left.taken t ≡ true → Said taken_report
  unfolding round_in FiredTaken fired
  says_taken h =
      let r = taken_at s d i t left zs 0 (of_true (fired_taken_lem s x d i t ∙ h)) in
      record { j = r.j; counted = r.counted ∙ ap suc (zero-add r.j); chosen = r.taken; alternative = r.number }

  -- what holds of each report that is so holds of the one that is made
  reason_by_lem : (P : Report → Type 0) → (Said never_active → P never_active) → (Said never_triggered → P never_triggered)
      → ((u : ℕ) → Said (gave_way_to u) → P (gave_way_to u)) → (Said taken_report → P taken_report) → P (reason s x d i t)
  unfolding reason
  reason_by_lem P inactive never gave took = go (has left.active (source s t)) (has left.taken t) refl refl
    where
      go : (a b : Bool) → has left.active (source s t) ≡ a → has left.taken t ≡ b → P (cond (not a) never_active (cond b taken_report (gave_way_in s d i zs t)))
      go false b ea eb = inactive ea
      go true true ea eb = took (says_taken eb)
      go true false ea eb =
          stayed s d i t left quiet P zs (λ j h. of_false eb (chosen_taken j h)) (λ n. never (ea, n))
          (λ u w. gave u (record { not_taken = eb; j = w.j; here = w.here; first = w.first; lowest = w.lowest }))

  -- ---- no two reports are so

  -- one that gave way or was taken was triggered; one of which either of the first two reports is so was not
  gave_triggered : (u : ℕ) (h : Said (gave_way_to u)) → Triggered h.j
  gave_triggered u h = h.here.0

  took_triggered : (r a : ℕ) (h : Said (taken_in r a)) → Triggered h.j
  took_triggered r a h = chosen_triggered h.j h.chosen

  inactive_off : Said never_active → (j : ℕ) → Triggered j → ⊥
  inactive_off h j k = of_false h (triggered_active j k)

  never_off : Said never_triggered → (j : ℕ) → Triggered j → ⊥
  never_off h j k = of_false (h.1 j) k

  -- one that gave way is not reported as taken too
  gave_not_taken : (u r a : ℕ) → Said (gave_way_to u) → Said (taken_in r a) → ⊥
  gave_not_taken u r a h k = of_false h.not_taken (chosen_taken k.j k.chosen)

  -- of two reports that it gave way, and of two that it was taken, the values are the same
  gave_same : (u v : ℕ) → Said (gave_way_to u) → Said (gave_way_to v) → gave_way_to u ≡ gave_way_to v
  gave_same u v h k =
      let e : h.j ≡ k.j = omega (arith, h.first k.j v k.here, k.first h.j u h.here) in
      let to : ℕ → ℕ → Type 0 = λ j w. Way s d i t (sets_at s x d i j) w in
      let same : u ≡ v = omega (arith, h.lowest v (subst (λ (j : ℕ). to j v) (sym e) k.here), k.lowest u (subst (λ (j : ℕ). to j u) e h.here)) in
      ap gave_way_to same

  took_same : (r a r' a' : ℕ) → Said (taken_in r a) → Said (taken_in r' a') → taken_in r a ≡ taken_in r' a'
  took_same r a r' a' h k =
      let e = chosen_once h.j k.j h.chosen k.chosen in
      ap₂ taken_in (h.counted ∙ ap suc e ∙ sym k.counted) (h.alternative ∙ ap (λ (j : ℕ). trigger s d i (sets_at s x d i j) t) e ∙ sym k.alternative)

  -- what is so is what is reported
  only : (r : Report) → Said r → r ≡ reason s x d i t
  only (refused e) h = absurd h
  only never_active h =
      reason_by_lem (λ r. never_active ≡ r) (λ _. refl) (λ k. absurd (of_false h (of_true k.0)))
      (λ u k. absurd (inactive_off h k.j (gave_triggered u k))) (λ k. absurd (inactive_off h k.j (took_triggered _ _ k)))
  only never_triggered h =
      reason_by_lem (λ r. never_triggered ≡ r) (λ k. absurd (of_false k (of_true h.0))) (λ _. refl)
      (λ u k. absurd (never_off h k.j (gave_triggered u k))) (λ k. absurd (never_off h k.j (took_triggered _ _ k)))
  only (gave_way_to u) h =
      reason_by_lem (λ r. gave_way_to u ≡ r) (λ k. absurd (inactive_off k h.j (gave_triggered u h))) (λ k. absurd (never_off k h.j (gave_triggered u h)))
      (λ v k. gave_same u v h k) (λ k. absurd (gave_not_taken u _ _ h k))
  only (taken_in r a) h =
      reason_by_lem (λ r'. taken_in r a ≡ r') (λ k. absurd (inactive_off k h.j (took_triggered r a h))) (λ k. absurd (never_off k h.j (took_triggered r a h)))
      (λ u k. absurd (gave_not_taken u r a k h)) (λ k. took_same r a _ _ h k)

  -- ---- a report beside the tick's sets and its number of t

  -- it says whether t is taken, the number of t, and whether the source is active
  abbrev pub Beside : Report → Type 0
  Beside r =
      (eqb (get_or (reason_words r) 0 4) 3 ≡ has left.taken t) × (get_or (reason_words r) 2 0 ≡ fired s x d i t)
      × (eqb (get_or (reason_words r) 0 4) 0 ≡ not (has left.active (source s t)))

  -- triggered in no round, so not taken; not taken, so the number is 0
  off_not_taken : ((j : ℕ) → Triggered j → ⊥) → has left.taken t ≡ false
  off_not_taken n = is_false (has left.taken t) (λ h. let k = says_taken (is_true _ h) in n k.j (took_triggered _ _ k))

  number_none : has left.taken t ≡ false → 0 ≡ fired s x d i t
  unfolding FiredTaken
  number_none n = omega (arith, ltb-false 0 (fired s x d i t) (fired_taken_lem s x d i t ∙ n))

  not_inactive : (j : ℕ) → Triggered j → false ≡ not (has left.active (source s t))
  not_inactive j h = ap not (sym (is_true (has left.active (source s t)) (triggered_active j h)))

  pub reason_beside : Beside (reason s x d i t)
  unfolding reason_words
  reason_beside =
      reason_by_lem Beside (λ h. let n = off_not_taken (inactive_off h) in (sym n, number_none n, ap not (sym h)))
      (λ h. let n = off_not_taken (never_off h) in (sym n, number_none n, ap not (sym h.0)))
      (λ u h. (sym h.not_taken, number_none h.not_taken, not_inactive h.j (gave_triggered u h)))
      (λ h. (sym (is_true _ (chosen_taken h.j h.chosen)), refl, not_inactive h.j (took_triggered _ _ h)))

pub reason_holds_lem : ReasonHolds
unfolding ReasonHolds
reason_holds_lem s ok x d i t done = reason_by_lem s x d i t ok done (Says s x d i t) (λ h. h) (λ h. h) (λ _ h. h) (λ h. h)

pub reason_only_lem : ReasonOnly
unfolding ReasonOnly
reason_only_lem s ok x d i t done = only s x d i t ok done
