-- What a table that is faithful to a sheet says, fact by fact. Assumes nothing.
use mathlib.Core.Path.{◌≡◌, refl, sym, ap, ◌∙◌}
use mathlib.Core.Logic.{⊎_elim}
use mathlib.Core.Bool.{Bool, not, cond}
use mathlib.Core.List.{List}
use Prim.Native.Nat.{ℕ, suc, ◌+◌, ◌*◌, ◌/◌, ◌%◌, ◌<◌}
use native.Mathlib.Nat.{le_antisymm}
use native.Mathlib.Omega.{arith}
use lib.Dec.{T, eqb, eqb→eq, T_not}
use lib.Arith.{digits_div, digits_mod}
use lib.ListN.{get_or}
use lib.Seq.{ext_get_or}
use borrow.Author.Tests.{eq-eqb}
use Rattle.sets.specs.Sets.{some, every}
use Rattle.sets.proofs.Tests.{is_true, of_true, and_l, and_r, and_i, below_or_not}
use Rattle.sets.proofs.Facts.{some_i, every_e, every_i}
use Rattle.meaning.specs.Lists.{row_from}
use Rattle.meaning.specs.Sheet.{k_of, t_of, source}
use Rattle.meaning.specs.Hierarchy.{consistent}
use Rattle.meaning.specs.Reaction.{TickSets, is_timer, delay, running}
use Rattle.meaning.specs.Tick.{five_words}
use Rattle.meaning.specs.Table.{word_in, k_in, t_in, b_in, source_in, delay_in, mask_in, timers_in, cells_in, cell_word}
use Rattle.meaning.specs.Walk.{cell_tick}
use Rattle.meaning.specs.Compile.{timer_word}
use Rattle.meaning.specs.Faithful.{cell_faithful, head_faithful, block_faithful, words_faithful, faithful}
use Rattle.meaning.proofs.ListLaws.{all_of_e, all_of_i, ◌▹◌, row_from_at, row_from-length}
use Rattle.meaning.proofs.SheetLaws.{Sound}
use Rattle.meaning.proofs.ReadingLaws.{delay_small}

-- cell c of block b is the tick's true result
pub record CellTrue (s w : List ℕ) (b c : ℕ) : Type 0 where
  pub unrefused : (cell_tick s (mask_in w b) c).refusal ≡ 0
  pub next : mask_in w (cell_word w b c 0) ≡ (cell_tick s (mask_in w b) c).sets.modes
  pub words : row_from 1 5 (cell_word w b c) ≡ five_words (cell_tick s (mask_in w b) c).sets

-- block b says what the sheet says of its mask
pub record BlockTrue (s w : List ℕ) (b : ℕ) : Type 0 where
  pub mask : T (cond (eqb b 0) (eqb (mask_in w b) 0) (consistent s (mask_in w b)))
  pub once : T (not (some b (λ a. eqb (mask_in w a) (mask_in w b))))
  pub timers : timers_in w b ≡ running s (mask_in w b)
  pub cells : (c : ℕ) → c < cells_in w b → CellTrue s w b c

module _ (s w : List ℕ) where
  cell_true_lem : (b c : ℕ) → T (cell_faithful s w b c) → CellTrue s w b c
  unfolding cell_faithful
  cell_true_lem b c h =
      let t = all_of_e _ h in
      let five = every_e 5 (λ j. eqb (cell_word w b c (suc j)) (get_or (five_words z) j 0)) t.1.1.0 in
      record {
        unrefused = eqb→eq (cell_tick s (mask_in w b) c).refusal 0 t.0;
        next = eqb→eq (mask_in w (cell_word w b c 0)) z.modes t.1.0;
        words = same (cell_word w b c) (λ j l. eqb→eq (cell_word w b c (suc j)) (get_or (five_words z) j 0) (five j l));
      }
    where
      z : TickSets
      z = (cell_tick s (mask_in w b) c).sets

      same : (f : ℕ → ℕ) → ((j : ℕ) → j < 5 → f (suc j) ≡ get_or (five_words z) j 0) → row_from 1 5 f ≡ five_words z
      same f e =
          let five = row_from-length f 1 5 in
          ext_get_or 0 (row_from 1 5 f) (five_words z) (five ∙ (unfold five_words in refl))
          (λ j l. row_from_at f 0 1 5 j (omega arith) ∙ ap f (omega arith) ∙ e j (omega arith))

  pub cell_faithful_lem : (b c : ℕ) → CellTrue s w b c → T (cell_faithful s w b c)
  unfolding cell_faithful
  cell_faithful_lem b c h =
      all_of_i _
      (of_true (eq-eqb (cell_tick s (mask_in w b) c).refusal 0 h.unrefused)
      ▹ of_true (eq-eqb (mask_in w (cell_word w b c 0)) (cell_tick s (mask_in w b) c).sets.modes h.next)
      ▹ every_i 5 (λ j. eqb (cell_word w b c (suc j)) (get_or (five_words (cell_tick s (mask_in w b) c).sets) j 0)) (λ j l.
      of_true (eq-eqb (cell_word w b c (suc j)) (get_or (five_words (cell_tick s (mask_in w b) c).sets) j 0)
      (ap (cell_word w b c) (omega arith) ∙ sym (row_from_at (cell_word w b c) 0 1 5 j l) ∙ ap (λ (x : List ℕ). get_or x j 0) h.words)))
      ▹ tt)

  pub block-faithful : (b : ℕ) → BlockTrue s w b → T (block_faithful s w b)
  unfolding block_faithful head_faithful
  block-faithful b h =
      and_i (head_faithful s w b) (every (cells_in w b) (cell_faithful s w b))
      (all_of_i _ (h.mask ▹ h.once ▹ of_true (eq-eqb (timers_in w b) (running s (mask_in w b)) h.timers) ▹ tt))
      (every_i (cells_in w b) (cell_faithful s w b) (λ c l. cell_faithful_lem b c (h.cells c l)))

  module _ (h : T (faithful s w)) where
    words_same : T (words_faithful s w)
    unfolding faithful
    words_same = and_l (words_faithful s w) (every (b_in w) (block_faithful s w)) h

    pub k_same : k_in w ≡ k_of s
    unfolding words_faithful
    k_same = eqb→eq (k_in w) (k_of s) (all_of_e _ words_same).0

    pub t_same : t_in w ≡ t_of s
    unfolding words_faithful
    t_same = eqb→eq (t_in w) (t_of s) (all_of_e _ words_same).1.0

    pub timer_same : (t : ℕ) → t < t_of s → word_in w (4 + t) ≡ timer_word s t
    unfolding words_faithful
    timer_same t l = eqb→eq (word_in w (4 + t)) (timer_word s t) (every_e (t_of s) (λ u. eqb (word_in w (4 + u)) (timer_word s u)) (all_of_e _ words_same).1.1.0 t l)

    pub block-true : (b : ℕ) → b < b_in w → BlockTrue s w b
    unfolding faithful block_faithful head_faithful
    block-true b l =
        let block = every_e (b_in w) (block_faithful s w) (and_r (words_faithful s w) (every (b_in w) (block_faithful s w)) h) b l in
        let t = all_of_e _ (and_l (head_faithful s w b) (every (cells_in w b) (cell_faithful s w b)) block) in
        record {
          mask = t.0;
          once = t.1.0;
          timers = eqb→eq (timers_in w b) (running s (mask_in w b)) t.1.1.0;
          cells = λ c k.
              cell_true_lem b c (every_e (cells_in w b) (cell_faithful s w b) (and_r (head_faithful s w b) (every (cells_in w b) (cell_faithful s w b)) block) c k);
        }

    -- no mask stands twice: blocks of one mask are one block
    mask_before : (a b : ℕ) → b < b_in w → mask_in w a ≡ mask_in w b → a < b → ⊥
    mask_before a b l e k =
        T_not (some b (λ i. eqb (mask_in w i) (mask_in w b))) (block-true b l).once
        (some_i b (λ i. eqb (mask_in w i) (mask_in w b)) a k (of_true (eq-eqb (mask_in w a) (mask_in w b) e)))

    pub mask_once : (a b : ℕ) → a < b_in w → b < b_in w → mask_in w a ≡ mask_in w b → a ≡ b
    mask_once a b la lb e =
        ⊎_elim (λ k. absurd (mask_before a b lb e k))
        (λ k. ⊎_elim (λ m. absurd (mask_before b a la (sym e) m)) (λ m. le_antisymm m k) (below_or_not b a)) (below_or_not a b)

    -- a timer's word: source and delay
    module _ (sd : Sound s) (t : ℕ) (l : t < t_of s) (m : T (is_timer s t)) where
      word_is : word_in w (4 + t) ≡ source s t * 65536 + delay s t
      unfolding timer_word
      word_is = timer_same t l ∙ ap (λ (b : Bool). cond b (source s t * 65536 + delay s t) 0) (is_true (is_timer s t) m)

      pub source_same : source_in w t ≡ source s t
      unfolding source_in
      source_same = ap (λ (x : ℕ). x / 65536) word_is ∙ digits_div (source s t) (delay_small s sd t l m)

      pub delay_same : delay_in w t ≡ delay s t
      unfolding delay_in
      delay_same = ap (λ (x : ℕ). x % 65536) word_is ∙ digits_mod (source s t) (delay_small s sd t l m)
