-- A tick of the table run by sets: which timers start again, and which ticks are refused 15. Assumes nothing.
use mathlib.Core.Path.{◌≡◌, refl, sym, ap, ap₂, ◌∙◌, subst}
use mathlib.Core.Bool.{Bool, true, false, not, ◌&&◌, cond, and-true, not-not}
use mathlib.Core.List.{List}
use Prim.Native.Nat.{ℕ, ◌-◌, ◌^◌, ◌<◌}
use native.Mathlib.Nat.{pos_of_ne-zero, lt_of_lt_of_le, lt_of_le_of_lt, pow-le-pow_right}
use native.Mathlib.Omega.{arith}
use lib.Dec.{T, eqb, ltb, eqb→eq}
use lib.Bits.{and_self}
use lib.ListN.{get_or}
use borrow.Author.Tests.{eq-eqb, ne_eqb, lt-ltb}
use Rattle.sets.specs.Sets.{has, meet, minus, set_of, those, some_in}
use Rattle.sets.proofs.Tests.{is_true, is_false, of_true, of_false, bool_ext}
use Rattle.sets.proofs.Facts.{set_of_i, those_e, those_i, some_in_e, some_in_i}
use Rattle.sets.proofs.Membership.{has_none, has_meet, has-minus, has-set_of, has-those, set_of-lt, those-lt, minus-le, ext}
use Rattle.sets.proofs.Members.{empty}
use Rattle.meaning.specs.Lists.{row_from}
use Rattle.meaning.specs.Run.{State, reading, due_timers, next_state}
use Rattle.meaning.specs.Table.{t_in, b_in, source_in, delay_in, timers_in, cell_word, table_ok}
use Rattle.meaning.specs.TableRun.{state_after_cell, is_stale}
use Rattle.meaning.proofs.ReadingLaws.{next_reading, due_at}
use Rattle.table.proofs.LayoutFacts.{shape_of, t_le, delay_pos, source-lt}
use Rattle.recorder.specs.Timers.{timers_below, timers_from}
use Rattle.meaning.proofs.ListLaws.{row_at}

-- ---- general

-- a set with a member is not 0
has_some : (s i : ℕ) → T (has s i) → T (not (eqb s 0))
has_some s i h = subst (λ (b : Bool). T (not b)) (sym (ne_eqb s 0 (λ e. of_false (ap (λ (x : ℕ). has x i) e ∙ has_none i) h))) tt

-- some member of s has p just if the members with p are not none
some-those : (w s : ℕ) (p : ℕ → Bool) → some_in w s p ≡ not (eqb (those w s p) 0)
some-those w s p = go (some_in w s p) refl
  where
    go : (b : Bool) → some_in w s p ≡ b → b ≡ not (eqb (those w s p) 0)
    go true e =
        let r = some_in_e w s p (of_true e) in
        sym (is_true (not (eqb (those w s p) 0)) (has_some (those w s p) r.0 (those_i w s p r.0 r.1 r.2 r.3)))
    go false e =
        sym (ap not (eq-eqb (those w s p) 0 (empty w (those-lt w s p) (λ i l.
        is_false (has (those w s p) i) (λ h. let r = those_e w s p i h in of_false e (some_in_i w s p i l r.1 r.2))))))

module _ (w : List ℕ) (h : T (table_ok w)) where
  -- ---- the timers of the sources in a set

  module _ (from : List ℕ) (timed : ℕ) (fe : from ≡ row_from 0 32 (timers_from w)) (te : timed ≡ set_of 32 (λ m. not (eqb (get_or from m 0) 0))) where
    from_at_lem : (m : ℕ) → m < 32 → get_or from m 0 ≡ timers_from w m
    from_at_lem m l = ap (λ (r : List ℕ). get_or r m 0) fe ∙ row_at 32 (timers_from w) m l

    -- they fit a word
    pub from_word : (m : ℕ) → m < 32 → get_or from m 0 < 2 ^ 64
    unfolding timers_from timers_below
    from_word m l =
        let p : ℕ → Bool = λ t. ltb 0 (delay_in w t) && eqb (source_in w t) m in
        subst (λ (x : ℕ). x < 2 ^ 64) (sym (from_at_lem m l))
        (lt_of_lt_of_le (set_of-lt (t_in w) p) (pow-le-pow_right (omega arith) {i = t_in w} (t_le w (shape_of w h))))

    module _ (entered : ℕ) where
      -- the timers whose source was entered, as the code finds them
      abbrev pub started_by : ℕ
      started_by = set_of 64 (λ t. some_in 32 (meet entered timed) (λ m. has (get_or from m 0) t))

      module _ (t : ℕ) (l : t < t_in w) (p : 0 < delay_in w t) where
        small : source_in w t < 32
        small = source-lt w (shape_of w h) t l p

        -- it stands with its source alone
        from_has : (m : ℕ) → m < 32 → has (get_or from m 0) t ≡ eqb (source_in w t) m
        unfolding timers_from timers_below
        from_has m k =
            rw (from_at_lem m k, has-set_of (t_in w) (λ u. ltb 0 (delay_in w u) && eqb (source_in w u) m) t l, lt-ltb 0 (delay_in w t) p)

        from_source : T (has (get_or from (source_in w t) 0) t)
        from_source = of_true (from_has (source_in w t) small ∙ eq-eqb (source_in w t) (source_in w t) refl)

        source_timed : T (has timed (source_in w t))
        source_timed =
            subst (λ (x : ℕ). T (has x (source_in w t))) (sym te)
            (set_of_i 32 (λ m. not (eqb (get_or from m 0) 0)) (source_in w t) small (has_some (get_or from (source_in w t) 0) t from_source))

        entered_timed : has (meet entered timed) (source_in w t) ≡ has entered (source_in w t)
        entered_timed = has_meet entered timed (source_in w t) ∙ ap (λ (b : Bool). has entered (source_in w t) && b) (is_true (has timed (source_in w t)) source_timed) ∙ and-true (has entered (source_in w t))

        pub started_there : has started_by t ≡ has entered (source_in w t)
        started_there =
            has-set_of 64 (λ u. some_in 32 (meet entered timed) (λ m. has (get_or from m 0) u)) t (lt_of_lt_of_le l (t_le w (shape_of w h)))
            ∙ bool_ext (some_in 32 (meet entered timed) (λ m. has (get_or from m 0) t)) (has entered (source_in w t))
            (λ g.
            let r = some_in_e 32 (meet entered timed) (λ m. has (get_or from m 0) t) g in
            let e : r.0 ≡ source_in w t = sym (eqb→eq (source_in w t) r.0 (subst T (from_has r.0 r.1) r.3)) in
            subst T (ap (has (meet entered timed)) e ∙ entered_timed) r.2)
            (λ g. some_in_i 32 (meet entered timed) (λ m. has (get_or from m 0) t) (source_in w t) small (subst T (sym entered_timed) g) from_source)

  -- ---- the readings after a cell

  module _ (q : State) (c : ℕ) (l : cell_word w q.at c 0 < b_in w) where
    abbrev pub timers_now : ℕ
    timers_now = timers_in w q.at

    abbrev pub timers_next : ℕ
    timers_next = timers_in w (cell_word w q.at c 0)

    abbrev pub entered_now : ℕ
    entered_now = cell_word w q.at c 1

    module _ (t : ℕ) (k : t < 64) (m : T (has timers_next t)) where
      pub reading_after : reading (state_after_cell w q c).readings t ≡ cond (has entered_now (source_in w t)) (delay_in w t) (reading q.readings t - 1)
      unfolding state_after_cell next_state
      reading_after =
          next_reading timers_next entered_now (source_in w) (delay_in w) q.readings t k
          ∙ ap (λ (b : Bool). cond b (cond (has entered_now (source_in w t)) (delay_in w t) (reading q.readings t - 1)) 0) (is_true (has timers_next t) m)

      -- a next timer has a reading left if the tick is not refused 15
      pub reading_left : is_stale w (state_after_cell w q c) ≡ false → 0 < reading (state_after_cell w q c).readings t
      unfolding is_stale state_after_cell next_state
      reading_left e =
          pos_of_ne-zero (λ z.
          of_false e
          (some_in_i 64 timers_next (λ u. eqb (reading (state_after_cell w q c).readings u) 0) t k m (of_true (eq-eqb (reading (state_after_cell w q c).readings t) 0 z))))

    -- the readings of timers that do not run are 0
    module _ (idle : (t : ℕ) → t < 64 → has timers_now t ≡ false → reading q.readings t ≡ 0) (due : ℕ) (de : due ≡ due_timers timers_now q.readings) where
      lowered : (t : ℕ) → t < 64 → eqb (reading q.readings t - 1) 0 ≡ not (has timers_now t && not (has due t))
      lowered t k = go (has timers_now t) refl
        where
          go : (b : Bool) → has timers_now t ≡ b → eqb (reading q.readings t - 1) 0 ≡ not (b && not (has due t))
          go true e = rw (de, due_at timers_now q.readings t k, e) (sym (not-not (eqb (reading q.readings t - 1) 0)))
          go false e = eq-eqb (reading q.readings t - 1) 0 (omega (arith, idle t k e))

      -- a next timer has no reading left just if it was not entered, and did not run or is due
      spent : (t : ℕ) → t < 64 → T (has timers_next t)
          → eqb (reading (state_after_cell w q c).readings t) 0 ≡ (not (has entered_now (source_in w t)) && not (has timers_now t && not (has due t)))
      spent t k m = ap (λ (r : ℕ). eqb r 0) (reading_after t k m) ∙ go (has entered_now (source_in w t))
        where
          go : (b : Bool) → eqb (cond b (delay_in w t) (reading q.readings t - 1)) 0 ≡ (not b && not (has timers_now t && not (has due t)))
          go true = ne_eqb (delay_in w t) 0 (λ z. omega (arith, delay_pos w (shape_of w h) (cell_word w q.at c 0) l t m k))
          go false = lowered t k

      -- the test for 15, by the timers that start again
      pub stale_is : (again : ℕ) → timers_next < 2 ^ 64 → ((t : ℕ) → t < 64 → T (has timers_next t) → has again t ≡ has entered_now (source_in w t))
          → is_stale w (state_after_cell w q c) ≡ not (eqb (minus (minus timers_next again) (minus timers_now due)) 0)
      unfolding is_stale state_after_cell next_state
      stale_is again small ae =
          some-those 64 timers_next p ∙ ap (λ (x : ℕ). not (eqb x 0)) (sym same)
        where
          p : ℕ → Bool
          p t = eqb (reading (state_after_cell w q c).readings t) 0

          at : (b a x y : Bool) → (T b → y ≡ (not a && not x)) → ((b && not a) && not x) ≡ (b && y)
          at true a x y e = sym (e tt)
          at false a x y e = refl

          same : minus (minus timers_next again) (minus timers_now due) ≡ those 64 timers_next p
          same =
              ext 64 (lt_of_le_of_lt (minus-le (minus timers_next again) (minus timers_now due)) (lt_of_le_of_lt (minus-le timers_next again) small)) (those-lt 64 timers_next p) (λ t k.
              has-minus (minus timers_next again) (minus timers_now due) t
              ∙ ap₂ (λ (a b : Bool). a && not b) (has-minus timers_next again t) (has-minus timers_now due t)
              ∙ at (has timers_next t) (has again t) (has timers_now t && not (has due t)) (p t)
              (λ m. spent t k m ∙ ap (λ (b : Bool). not b && not (has timers_now t && not (has due t))) (sym (ae t k m)))
              ∙ sym (has-those 64 timers_next p t k))

      -- a tick with the same timers next, none due and no source entered is not refused
      pub stays : timers_next < 2 ^ 64 → timers_next ≡ timers_now → due ≡ 0
          → ((t : ℕ) → t < 64 → T (has timers_next t) → has entered_now (source_in w t) ≡ false) → is_stale w (state_after_cell w q c) ≡ false
      unfolding minus
      stays small e z n =
          let none : minus (minus timers_next 0) (minus timers_now due) ≡ 0 = rw (e, z) (omega (arith, and_self (minus timers_now 0))) in
          stale_is 0 small (λ t k m. has_none t ∙ sym (n t k m)) ∙ ap not (eq-eqb (minus (minus timers_next 0) (minus timers_now due)) 0 none)
