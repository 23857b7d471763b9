-- The masks of a table's blocks, in their order, fix the table: the sheet says every other word. Assumes nothing.
use mathlib.Core.Path.{◌≡◌, sym, ap, ap₂, ◌∙◌, subst}
use mathlib.Core.Logic.{⊎_elim}
use mathlib.Core.List.{List}
use Prim.Native.Nat.{ℕ, zero, suc, ◌+◌, ◌*◌, ◌/◌, ◌%◌, ◌^◌, ◌-◌, ◌≤◌, ◌<◌}
use native.Mathlib.Nat.{le_refl}
use native.Mathlib.Omega.{arith}
use lib.Arith.{digits_div, digits_mod}
use lib.Dec.{T}
use lib.ListN.{length, get_or}
use lib.Seq.{ext_get_or}
use Rattle.sets.specs.Sets.{size}
use Rattle.sets.proofs.Tests.{below_or_not}
use Rattle.meaning.specs.Lists.{row_from}
use Rattle.meaning.specs.Reaction.{running}
use Rattle.meaning.specs.Tick.{Tick, five_words}
use Rattle.meaning.specs.Table.{word_in, k_in, t_in, b_in, offset_in, length_in, end_before_in, mask_in, timers_in, cells_in, cell_word, table_ok}
use Rattle.meaning.specs.Walk.{cell_tick}
use Rattle.meaning.specs.Faithful.{faithful}
use Rattle.meaning.specs.Acceptance.{MasksFixTable}
use Rattle.meaning.proofs.ListLaws.{steps_find, row_from_at}
use Rattle.meaning.proofs.LayoutLaws.{word_first, offset_is, last_end, length_is, next_lt}
use Rattle.meaning.proofs.FaithfulLaws.{CellTrue, k_same, t_same, timer_same, block-true, mask_once}
use Rattle.meaning.proofs.AcceptanceLaws.{accepted_e}

-- numbers of two digits are equal digit by digit
digits_same : (m q r q' r' : ℕ) → r < m → r' < m → q * m + r ≡ q' * m + r' → (q ≡ q') × (r ≡ r')
digits_same m q r q' r' l l' e = (
  sym (digits_div q l) ∙ ap (λ (x : ℕ). x / m) e ∙ digits_div q' l',
  sym (digits_mod q l) ∙ ap (λ (x : ℕ). x % m) e ∙ digits_mod q' l',
)

-- v and w: tables of one sheet s with the same masks in the same order
module _ (s v w : List ℕ) (okv : T (table_ok v)) (okw : T (table_ok w)) (fv : T (faithful s v)) (fw : T (faithful s w))
    (blocks : b_in v ≡ b_in w) (masks : (b : ℕ) → b < b_in v → mask_in v b ≡ mask_in w b) where
  -- the tables have the same word i
  abbrev Same : ℕ → Type 0
  Same i = word_in v i ≡ word_in w i

  there : (b : ℕ) → b < b_in v → b < b_in w
  there b l = omega (arith, blocks)

  -- ---- the parts have the same places

  k_eq : k_in v ≡ k_in w
  k_eq = k_same s v fv ∙ sym (k_same s w fw)

  t_eq : t_in v ≡ t_in w
  t_eq = t_same s v fv ∙ sym (t_same s w fw)

  timers_eq : (b : ℕ) → b < b_in v → timers_in v b ≡ timers_in w b
  timers_eq b l = (block-true s v fv b l).timers ∙ ap (running s) (masks b l) ∙ sym (block-true s w fw b (there b l)).timers

  cells-eq : (b : ℕ) → b < b_in v → cells_in v b ≡ cells_in w b
  unfolding cells_in
  cells-eq b l = ap₂ (λ (x k : ℕ). 2 ^ (size 64 x + k)) (timers_eq b l) k_eq

  length-eq : (b : ℕ) → b < b_in v → length_in v b ≡ length_in w b
  length-eq b l = omega (arith, length_is v okv b l, length_is w okw b (there b l), cells-eq b l)

  end_eq : (b : ℕ) → b ≤ b_in v → end_before_in v b ≡ end_before_in w b
  unfolding end_before_in
  end_eq zero l = omega (arith, t_eq, blocks)
  end_eq (suc b) l = omega (arith, offset_is v okv b l, offset_is w okw b (there b l), end_eq b (omega arith), length-eq b l)

  offset-eq : (b : ℕ) → b < b_in v → offset_in v b ≡ offset_in w b
  offset-eq b l = offset_is v okv b l ∙ end_eq b (omega arith) ∙ sym (offset_is w okw b (there b l))

  lengths_eq : length v ≡ length w
  lengths_eq = sym (last_end v okv) ∙ end_eq (b_in v) (le_refl (b_in v)) ∙ ap (end_before_in w) blocks ∙ last_end w okw

  -- ---- head, timer words and pairs

  head_eq : (i : ℕ) → i < 4 → Same i
  unfolding k_in t_in b_in
  head_eq zero l = word_first v okv ∙ sym (word_first w okw)
  head_eq (suc zero) l = k_eq
  head_eq (suc (suc zero)) l = t_eq
  head_eq (suc (suc (suc zero))) l = blocks
  head_eq (suc (suc (suc (suc i)))) l = absurd (omega arith)

  timer_word_eq : (t : ℕ) → t < t_in v → Same (4 + t)
  timer_word_eq t l = let k = subst (λ (x : ℕ). t < x) (t_same s v fv) l in timer_same s v fv t k ∙ sym (timer_same s w fw t k)

  pair_eq : (b r : ℕ) → b < b_in v → r < 2 → Same (4 + t_in v + 2 * b + r)
  unfolding offset_in length_in
  pair_eq b zero l k = ap (word_in v) (omega arith) ∙ offset-eq b l ∙ ap (word_in w) (omega (arith, t_eq))
  pair_eq b (suc zero) l k = ap (word_in v) (omega arith) ∙ length-eq b l ∙ ap (word_in w) (omega (arith, t_eq))
  pair_eq b (suc (suc r)) l k = absurd (omega arith)

  -- ---- block b

  module _ (b : ℕ) (l : b < b_in v) where
    -- its cells
    module _ (c : ℕ) (k : c < cells_in v b) where
      tick_eq : cell_tick s (mask_in v b) c ≡ cell_tick s (mask_in w b) c
      tick_eq = ap (λ (x : ℕ). cell_tick s x c) (masks b l)

      true_v : CellTrue s v b c
      true_v = (block-true s v fv b l).cells c k

      k' : c < cells_in w b
      k' = omega (arith, cells-eq b l)

      true_w : CellTrue s w b c
      true_w = (block-true s w fw b (there b l)).cells c k'

      next_eq : cell_word v b c 0 ≡ cell_word w b c 0
      next_eq =
          let x = next_lt v okv b l c k in
          mask_once s w fw (cell_word v b c 0) (cell_word w b c 0) (there (cell_word v b c 0) x) (next_lt w okw b (there b l) c k')
          (sym (masks (cell_word v b c 0) x) ∙ true_v.next ∙ ap (λ (o : Tick). o.sets.modes) tick_eq ∙ sym true_w.next)

      five_eq : row_from 1 5 (cell_word v b c) ≡ row_from 1 5 (cell_word w b c)
      five_eq = true_v.words ∙ ap (λ (o : Tick). five_words o.sets) tick_eq ∙ sym true_w.words

      cell_eq : (r : ℕ) → r < 6 → cell_word v b c r ≡ cell_word w b c r
      cell_eq zero m = next_eq
      cell_eq (suc r) m =
          ap (cell_word v b c) (omega arith) ∙ sym (row_from_at (cell_word v b c) 0 1 5 r (omega arith))
          ∙ ap (λ (x : List ℕ). get_or x r 0) five_eq ∙ row_from_at (cell_word w b c) 0 1 5 r (omega arith) ∙ ap (cell_word w b c) (omega arith)

    -- all its words
    block-eq : ((i : ℕ) → word_in v i < 2 ^ 32) → ((i : ℕ) → word_in w i < 2 ^ 32) → (j : ℕ) → j < length_in v b
        → word_in v (offset_in v b + j) ≡ word_in w (offset_in w b + j)
    unfolding mask_in timers_in cell_word
    block-eq sv sw zero m = ap (word_in v) (omega arith) ∙ masks b l ∙ ap (word_in w) (omega arith)
    block-eq sv sw (suc zero) m = (digits_same (2 ^ 32) _ _ _ _ (sv _) (sw _) (timers_eq b l)).1
    block-eq sv sw (suc (suc zero)) m = (digits_same (2 ^ 32) _ _ _ _ (sv _) (sw _) (timers_eq b l)).0
    block-eq sv sw (suc (suc (suc j))) m =
        ap (word_in v) (omega arith) ∙ cell_eq (j / 6) (omega (arith, length_is v okv b l)) (j % 6) (omega arith) ∙ ap (word_in w) (omega arith)

  -- ---- every word

  word_eq : ((i : ℕ) → word_in v i < 2 ^ 32) → ((i : ℕ) → word_in w i < 2 ^ 32) → (i : ℕ) → i < length v → Same i
  unfolding end_before_in
  word_eq sv sw i l = ⊎_elim (head_eq i) (λ a. ⊎_elim (timer a) pairs (below_or_not i (4 + t_in v))) (below_or_not i 4)
    where
      timer : 4 ≤ i → i < 4 + t_in v → Same i
      timer a m = subst Same (omega arith) (timer_word_eq (i - 4) (omega arith))

      pair : 4 + t_in v ≤ i → i < 4 + t_in v + 2 * b_in v → Same i
      pair a m = subst Same (omega arith) (pair_eq ((i - (4 + t_in v)) / 2) ((i - (4 + t_in v)) % 2) (omega arith) (omega arith))

      block : 4 + t_in v + 2 * b_in v ≤ i → Same i
      block a =
          let r = steps_find (end_before_in v) (b_in v) i a (omega (arith, last_end v okv)) in
          let at = offset_is v okv r.0 r.1 in
          let e : offset_in v r.0 + (i - offset_in v r.0) ≡ i = omega arith in
          let k : i - offset_in v r.0 < length_in v r.0 = omega (arith, r.3) in
          ap (word_in v) (sym e) ∙ block-eq r.0 r.1 sv sw (i - offset_in v r.0) k ∙ ap (word_in w) (omega (arith, offset-eq r.0 r.1))

      pairs : 4 + t_in v ≤ i → Same i
      pairs a = ⊎_elim (pair a) block (below_or_not i (4 + t_in v + 2 * b_in v))

pub masks_fix_table_lem : MasksFixTable
unfolding MasksFixTable word_in
masks_fix_table_lem s v w sv sw av aw blocks masks =
    let a = accepted_e s v av in
    let b = accepted_e s w aw in
    ext_get_or 0 v w (lengths_eq s v w a.1 b.1 a.2 b.2 blocks masks) (word_eq s v w a.1 b.1 a.2 b.2 blocks masks sv sw)
