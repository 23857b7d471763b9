-- A walk that is not refused lists the result of every cell of every block that it lists. Assumes nothing.
use mathlib.Core.Path.{◌≡◌, refl, sym, ap, ◌∙◌, subst}
use mathlib.Core.Logic.{◌⊎◌, inl, inr}
use mathlib.Core.Bool.{Bool, true, false, cond}
use mathlib.Core.List.{List, [], ◌∷◌, ◌++◌}
use Prim.Native.Nat.{ℕ, zero, suc, ◌+◌, ◌/◌, ◌%◌, ◌^◌, ◌≤◌, ◌<◌, zero-le, min}
use native.Mathlib.Nat.{le_refl, eq-or-lt_of_le, min-le_right}
use native.Mathlib.Omega.{arith}
use lib.Dec.{T, ltb}
use lib.Arith.{le-zero}
use lib.ListN.{length, get_or}
use borrow.Author.Tests.{ltb-true, ltb-false}
use Rattle.sets.specs.Sets.{members, size}
use Rattle.sets.proofs.Tests.{of_true}
use Rattle.meaning.specs.Lists.{is_in, Distinct}
use Rattle.meaning.specs.Sheet.{k_of}
use Rattle.meaning.specs.Hierarchy.{consistent}
use Rattle.meaning.specs.Reaction.{running}
use Rattle.meaning.specs.Tick.{tick}
use Rattle.meaning.specs.Walk.{Walk, due_set, work_list_full, timers_many, cell_count, cell_tick, listing, cells_from, walk_from, walk}
use Rattle.meaning.proofs.ListedLaws.{distinct_none, distinct_more, is_in_one, is_in_one_e, is_in-append_r, is_in-append_e, is_in_at, Prefix, prefix_trans, prefix_is_in, prefix_at}
use Rattle.meaning.proofs.WalkFuel.{cells_grown, walk_from_grown}

module _ (s : List ℕ) where
  -- the listed sets l are consistent and run at most 6 timers, and none stands twice
  pub record Fine (l : List ℕ) : Type 0 where
    pub each : (x : ℕ) → T (is_in x l) → T (consistent s x) × (size 64 (running s x) ≤ 6)
    pub distinct : Distinct l

  -- cell c of the block with mask x is not refused, and its result is in l
  abbrev pub CellListed : List ℕ → ℕ → ℕ → Type 0
  CellListed l x c = ((cell_tick s x c).refusal ≡ 0) × T (is_in (cell_tick s x c).sets.modes l)

  -- so are all cells of block a, and of every block
  abbrev pub BlockListed : List ℕ → ℕ → Type 0
  BlockListed l a = (k : ℕ) → k < cell_count s (get_or (0 ∷ l) a 0) → CellListed l (get_or (0 ∷ l) a 0) k

  abbrev pub Closed : List ℕ → Type 0
  Closed l = (a : ℕ) → a ≤ length l → BlockListed l a

  -- block b's mask is 0, or a listed set
  mask_of_lem : (l : List ℕ) → Fine l → (b : ℕ) → b ≤ length l → (get_or (0 ∷ l) b 0 ≡ 0) ⊎ T (consistent s (get_or (0 ∷ l) b 0))
  mask_of_lem l h zero k = inl refl
  mask_of_lem l h (suc b) k = inr (h.each (get_or l b 0) (is_in_at l b k)).0

  -- a cell of a shorter list is one of a longer list
  cell_grown : (l l' : List ℕ) → Prefix l l' → (x c : ℕ) → CellListed l x c → CellListed l' x c
  cell_grown l l' p x c h = (h.0, prefix_is_in l l' p (cell_tick s x c).sets.modes h.1)

  listing_law : (w : ℕ) (l : List ℕ) (x : ℕ) → T (consistent s x) → Fine l → (listing s w l x).refusal ≡ 0
      → Fine (listing s w l x).listed × T (is_in x (listing s w l x).listed)
  unfolding listing timers_many
  listing_law w l x q h e = go (is_in x l) (work_list_full w l) (ltb 6 (size 64 (running s x))) refl refl e
    where
      more : List ℕ
      more = l ++ (x ∷ [])

      res : Bool → Bool → Bool → Walk
      res a b c =
          cond a (record { refusal = 0; listed = l })
          (cond b (record { refusal = 11; listed = l })
          (record { refusal = cond c 7 0; listed = more }))

      new : ltb 6 (size 64 (running s x)) ≡ false → (y : ℕ) → T (is_in y l) ⊎ T (is_in y (x ∷ [])) → T (consistent s y) × (size 64 (running s y) ≤ 6)
      new ec y (inl m) = h.each y m
      new ec y (inr m) =
          subst (λ (j : ℕ). T (consistent s j) × (size 64 (running s j) ≤ 6)) (sym (is_in_one_e y x m)) (q, ltb-false 6 (size 64 (running s x)) ec)

      go : (a b c : Bool) → is_in x l ≡ a → ltb 6 (size 64 (running s x)) ≡ c → (res a b c).refusal ≡ 0
          → Fine (res a b c).listed × T (is_in x (res a b c).listed)
      go true b c ea ec k = (h, of_true ea)
      go false true c ea ec k = absurd (omega arith)
      go false false true ea ec k = absurd (omega arith)
      go false false false ea ec k = (
        record { each = λ y m. new ec y (is_in-append_e y l (x ∷ []) m); distinct = distinct_more x l h.distinct ea },
        is_in-append_r x l (x ∷ []) (is_in_one x),
      )

  module _ (keeps : (y d i : ℕ) → (y ≡ 0) ⊎ T (consistent s y) → T (consistent s (tick s y d i).sets.modes)) (w : ℕ) where
    -- the cells of one block, from cell c on
    cells_law : (x : ℕ) → (x ≡ 0) ⊎ T (consistent s x) → (m c : ℕ) (l : List ℕ) → Fine l → (cells_from s w x m c l).refusal ≡ 0
        → Fine (cells_from s w x m c l).listed × ((k : ℕ) → c ≤ k → k < c + m → CellListed (cells_from s w x m c l).listed x k)
    unfolding cells_from
    cells_law x o zero c l h e = (h, λ k a b. absurd (omega arith))
    cells_law x o (suc m) c l h e =
        go (ltb 0 (cell_tick s x c).refusal) (ltb 0 new.refusal) refl refl e (cells_law x o m (suc c) new.listed)
      where
        y : ℕ
        y = (cell_tick s x c).sets.modes

        new : Walk
        new = listing s w l y

        on : Walk
        on = cells_from s w x m (suc c) new.listed

        res : Bool → Bool → Walk
        res a b = cond a (record { refusal = (cell_tick s x c).refusal; listed = l }) (cond b new on)

        Rest : Walk → ℕ → ℕ → Type 0
        Rest v n k = Fine v.listed × ((j : ℕ) → k ≤ j → j < k + n → CellListed v.listed x j)

        go : (a b : Bool) → ltb 0 (cell_tick s x c).refusal ≡ a → ltb 0 new.refusal ≡ b → (res a b).refusal ≡ 0
            → (Fine new.listed → on.refusal ≡ 0 → Rest on m (suc c)) → Rest (res a b) (suc m) c
        go true b ea eb k ih = let z : (cell_tick s x c).refusal ≡ 0 = k in absurd (omega (arith, ltb-true 0 (cell_tick s x c).refusal ea))
        go false true ea eb k ih = let z : new.refusal ≡ 0 = k in absurd (omega (arith, ltb-true 0 new.refusal eb))
        go false false ea eb k ih = (r.0, λ j a b. at j b (eq-or-lt_of_le a))
          where
            done : (cell_tick s x c).refusal ≡ 0
            done = le-zero (ltb-false 0 (cell_tick s x c).refusal ea)

            steady : T (consistent s y)
            steady = unfold cell_tick in (keeps x (due_set (members 64 (running s x)) (c / 2 ^ k_of s)) (c % 2 ^ k_of s) o)

            lw : Fine new.listed × T (is_in y new.listed)
            lw = listing_law w l y steady h (le-zero (ltb-false 0 new.refusal eb))

            r : Rest on m (suc c)
            r = ih lw.0 k

            at : (j : ℕ) → j < c + suc m → (c ≡ j) ⊎ (c < j) → CellListed on.listed x j
            at j b (inl v) = subst (λ (i : ℕ). CellListed on.listed x i) v (cell_grown new.listed on.listed (cells_grown s w x m (suc c) new.listed).0 x c (done, lw.1))
            at j b (inr v) = r.1 j v (omega arith)

    -- the blocks from b on
    walk_from_lem : (f b : ℕ) (l : List ℕ) → 4096 ≤ b + f → length l ≤ min w 4095 → Fine l → (walk_from s w f b l).refusal ≡ 0
        → Fine (walk_from s w f b l).listed × ((a : ℕ) → b ≤ a → a ≤ length (walk_from s w f b l).listed → BlockListed (walk_from s w f b l).listed a)
    unfolding walk_from
    walk_from_lem zero b l fuel few h e = (h, λ a p q. absurd (omega (arith, min-le_right w 4095)))
    walk_from_lem (suc f) b l fuel few h e =
        go (ltb (length l) b) (ltb 0 here.refusal) refl refl e
        (walk_from_lem f (suc b) here.listed (omega arith) ((cells_grown s w x (cell_count s x) 0 l).1 few))
      where
        x : ℕ
        x = get_or (0 ∷ l) b 0

        here : Walk
        here = cells_from s w x (cell_count s x) 0 l

        on : Walk
        on = walk_from s w f (suc b) here.listed

        res : Bool → Bool → Walk
        res u v = cond u (record { refusal = 0; listed = l }) (cond v here on)

        Rest : Walk → ℕ → Type 0
        Rest v n = Fine v.listed × ((a : ℕ) → n ≤ a → a ≤ length v.listed → BlockListed v.listed a)

        go : (u v : Bool) → ltb (length l) b ≡ u → ltb 0 here.refusal ≡ v → (res u v).refusal ≡ 0
            → (Fine here.listed → on.refusal ≡ 0 → Rest on (suc b)) → Rest (res u v) b
        go true v eu ev k ih = (h, λ a p q. absurd (omega (arith, ltb-true (length l) b eu)))
        go false true eu ev k ih = let z : here.refusal ≡ 0 = k in absurd (omega (arith, ltb-true 0 here.refusal ev))
        go false false eu ev k ih = (r.0, λ a p q. at a q (eq-or-lt_of_le p))
          where
            low : b ≤ length l
            low = ltb-false (length l) b eu

            cl : Fine here.listed × ((j : ℕ) → 0 ≤ j → j < 0 + cell_count s x → CellListed here.listed x j)
            cl = cells_law x (mask_of_lem l h b low) (cell_count s x) 0 l h (le-zero (ltb-false 0 here.refusal ev))

            r : Rest on (suc b)
            r = ih cl.0 k

            later : Prefix here.listed on.listed
            later = (walk_from_grown s w f (suc b) here.listed).0

            same : get_or (0 ∷ on.listed) b 0 ≡ x
            same = prefix_at l on.listed (prefix_trans l here.listed on.listed (cells_grown s w x (cell_count s x) 0 l).0 later) b low

            first : (j : ℕ) → j < cell_count s x → CellListed on.listed x j
            first j g = cell_grown here.listed on.listed later x j (cl.1 j zero-le (omega arith))

            at : (a : ℕ) → a ≤ length on.listed → (b ≡ a) ⊎ (b < a) → BlockListed on.listed a
            at a q (inr v) = r.1 a v q
            at a q (inl v) =
                subst (λ (i : ℕ). (j : ℕ) → j < cell_count s i → CellListed on.listed i j) (sym (ap (λ (i : ℕ). get_or (0 ∷ on.listed) i 0) (sym v) ∙ same)) first

    -- a whole walk that is not refused
    pub walk-closed : (walk s w).refusal ≡ 0 → Fine (walk s w).listed × Closed (walk s w).listed
    unfolding walk
    walk-closed e =
        let r = walk_from_lem 4096 0 [] (le_refl 4096) zero-le (record { each = λ x m. absurd (unfold is_in in m); distinct = distinct_none }) e in
        (r.0, λ a q. r.1 a zero-le q)
