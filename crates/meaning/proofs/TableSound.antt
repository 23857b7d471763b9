-- The table of a walk that is not refused has a sound layout. Assumes nothing.
use mathlib.Core.Path.{◌≡◌, refl, sym, ap, ◌∙◌, subst}
use mathlib.Core.Bool.{Bool, true, false, not, ◌&&◌, ◌||◌, cond}
use mathlib.Core.List.{List, [], ◌∷◌}
use Prim.Native.Nat.{ℕ, zero, suc, ◌+◌, ◌*◌, ◌≤◌, ◌<◌, zero-le}
use native.Mathlib.Nat.{le_refl, le_trans, le_of_eq, suc-ne-zero}
use native.Mathlib.Omega.{arith}
use lib.Dec.{T, eqb, ltb, eqb→eq, le→leb, lt→ltb, not_T}
use lib.ListN.{length, get_or}
use borrow.Author.Tests.{eq-eqb, ne_eqb}
use Rattle.sets.specs.Sets.{has, size}
use Rattle.sets.proofs.Tests.{of_true, and_i, or_l, or_r}
use Rattle.sets.proofs.Facts.{every_i, every_in_i}
use Rattle.sets.proofs.Members.{members_none}
use Rattle.meaning.specs.Sheet.{t_of, source}
use Rattle.meaning.specs.Reaction.{is_timer, delay}
use Rattle.meaning.specs.Table.{word_in, k_in, t_in, b_in, source_in, delay_in, offset_in, length_in, end_before_in, mask_in, timers_in, cells_in, cell_word, timer_ok, block_ok, table_ok}
use Rattle.meaning.specs.Compile.{block_words, timer_word, table_words}
use Rattle.meaning.specs.Faithful.{faithful}
use Rattle.meaning.proofs.ListLaws.{all_of_i, ◌▹◌}
use Rattle.meaning.proofs.ListedLaws.{is_in_at}
use Rattle.meaning.proofs.SheetLaws.{Sound, n_le, k_le, t_le, source-lt}
use Rattle.meaning.proofs.TickLaws.{running_e, running_none}
use Rattle.meaning.proofs.ReadingLaws.{delay_pos}
use Rattle.meaning.proofs.WalkLaws.{Fine, Closed}
use Rattle.meaning.proofs.TableLaws.{tbl, mask_of, bs, start, words_before, words_before_next, words_before_all, map-get_or, blocks, k_in_lem, t_in_lem, b_in_lem, timer_word_lem, table_length_lem, offset_in_lem, length_in_lem, block-length, mask_in_lem, timers_in_lem, cells_in_lem}
use Rattle.meaning.proofs.FaithfulLaws.{source_same, delay_same}
use Rattle.meaning.proofs.TableFaithful.{consistent_pos, low_of, next_is, next_listed, table_faithful}

module _ (s : List ℕ) (sd : Sound s) (listed : List ℕ) (short : length listed ≤ 4095) (fine : Fine s listed) (closed : Closed s listed) where
  abbrev t : List ℕ
  t = tbl s listed

  true_table : T (faithful s t)
  true_table = table_faithful s listed fine closed

  low : (b : ℕ) → b < b_in t → b ≤ length listed
  low = low_of s listed fine closed

  in_bs : (b : ℕ) → b ≤ length listed → b < length (bs s listed)
  in_bs b l = omega (arith, blocks s listed)

  -- the timer words
  timer_ok_lem : (u : ℕ) → u < t_in t → T (timer_ok t u)
  unfolding timer_ok
  timer_ok_lem u k = go (is_timer s u) refl
    where
      l : u < t_of s
      l = subst (λ (x : ℕ). u < x) (t_in_lem s listed) k

      go : (b : Bool) → is_timer s u ≡ b → T (eqb (word_in t (4 + u)) 0 || ltb (source_in t u) 32 && ltb 0 (delay_in t u))
      go true e =
          let h = of_true e in
          or_r (eqb (word_in t (4 + u)) 0) (ltb (source_in t u) 32 && ltb 0 (delay_in t u))
          (and_i (ltb (source_in t u) 32) (ltb 0 (delay_in t u))
          (lt→ltb (source_in t u) 32 (omega (arith, source_same s t true_table sd u l h, source-lt s sd u l, n_le s sd)))
          (lt→ltb 0 (delay_in t u) (omega (arith, delay_same s t true_table sd u l h, delay_pos s u h))))
      go false e =
          or_l (eqb (word_in t (4 + u)) 0) (ltb (source_in t u) 32 && ltb 0 (delay_in t u))
          (of_true (eq-eqb (word_in t (4 + u)) 0 (timer_word_lem s listed u l ∙ (unfold timer_word in (ap (λ (b : Bool). cond b (source s u * 65536 + delay s u) 0) e)))))

  -- the pairs
  first_offset : words_before (bs s listed) 0 ≡ 0
  unfolding words_before
  first_offset = refl

  next_offset : (b : ℕ) → b ≤ length listed → offset_in t b + length_in t b ≡ start s listed + words_before (bs s listed) (suc b)
  next_offset b l =
      let o = offset_in_lem s listed b (in_bs b l) in
      let z = length_in_lem s listed b (in_bs b l) in
      let n = words_before_next (bs s listed) b (in_bs b l) in
      omega arith

  pair_ok_lem : (b : ℕ) → b < b_in t → T (eqb (offset_in t b) (end_before_in t b))
  unfolding end_before_in
  pair_ok_lem zero l =
      let e : offset_in t 0 ≡ 4 + t_in t + 2 * b_in t =
      omega (arith, offset_in_lem s listed 0 (in_bs 0 zero-le), first_offset, t_in_lem s listed, b_in_lem s listed, blocks s listed) in
      of_true (eq-eqb (offset_in t 0) (4 + t_in t + 2 * b_in t) e)
  pair_ok_lem (suc b) l =
      let e : offset_in t (suc b) ≡ offset_in t b + length_in t b =
      offset_in_lem s listed (suc b) (in_bs (suc b) (low (suc b) l)) ∙ sym (next_offset b (omega (arith, low (suc b) l))) in
      of_true (eq-eqb (offset_in t (suc b)) (offset_in t b + length_in t b) e)

  end_ok_lem : end_before_in t (b_in t) ≡ length t
  unfolding end_before_in
  end_ok_lem =
      ap (end_before_in t) (b_in_lem s listed)
      ∙ next_offset (length listed) (le_refl (length listed))
      ∙ ap (λ (i : ℕ). start s listed + i) (ap (words_before (bs s listed)) (sym (blocks s listed)) ∙ words_before_all (bs s listed))
      ∙ sym (table_length_lem s listed)

  -- block b
  mask_ok_lem : (b : ℕ) → b ≤ length listed → T (cond (eqb b 0) (eqb (mask_in t b) 0 && eqb (timers_in t b) 0) (not (eqb (mask_in t b) 0)))
  mask_ok_lem zero l =
      and_i (eqb (mask_in t 0) 0) (eqb (timers_in t 0) 0) (of_true (eq-eqb (mask_in t 0) 0 (mask_in_lem s listed 0 l)))
      (of_true (eq-eqb (timers_in t 0) 0 (timers_in_lem s listed 0 l ∙ running_none s)))
  mask_ok_lem (suc b) l =
      subst (λ (v : Bool). T (cond v (eqb (mask_in t (suc b)) 0 && eqb (timers_in t (suc b)) 0) (not (eqb (mask_in t (suc b)) 0)))) (sym (ne_eqb (suc b) 0 (suc-ne-zero b)))
      (not_T (eqb (mask_in t (suc b)) 0) (λ h.
      let z = eqb→eq (mask_in t (suc b)) 0 h in
      omega (arith, mask_in_lem s listed (suc b) l, consistent_pos s (get_or listed b 0) (fine.each (get_or listed b 0) (is_in_at listed b l)).0)))

  few_ok : (b : ℕ) → b ≤ length listed → size 64 (timers_in t b) ≤ 6
  unfolding size
  few_ok zero l =
      le_trans (le_of_eq (ap (size 64) (timers_in_lem s listed 0 l ∙ running_none s) ∙ ap (λ (m : List ℕ). length m) (members_none 64))) zero-le
  few_ok (suc b) l = le_trans (le_of_eq (ap (size 64) (timers_in_lem s listed (suc b) l))) (fine.each (get_or listed b 0) (is_in_at listed b l)).1

  timers_ok_lem : (b : ℕ) → b ≤ length listed → (u : ℕ) → T (has (timers_in t b) u) → T (ltb u (t_in t) && ltb 0 (delay_in t u))
  timers_ok_lem b l u h =
      let r = running_e s (mask_of s listed b) u (subst (λ (x : ℕ). T (has x u)) (timers_in_lem s listed b l) h) in
      and_i (ltb u (t_in t)) (ltb 0 (delay_in t u)) (lt→ltb u (t_in t) (omega (arith, r.small, t_in_lem s listed)))
      (lt→ltb 0 (delay_in t u) (omega (arith, delay_same s t true_table sd u r.small r.timer, delay_pos s u r.timer)))

  length_ok : (b : ℕ) → b ≤ length listed → length_in t b ≡ 3 + 6 * cells_in t b
  length_ok b l =
      length_in_lem s listed b (in_bs b l) ∙ ap (λ (x : List ℕ). length x) (map-get_or [] (block_words s listed) (0 ∷ listed) b (omega arith))
      ∙ block-length s listed (mask_of s listed b) ∙ ap (λ (i : ℕ). 3 + 6 * i) (sym (cells_in_lem s listed b l))

  next_ok_lem : (b : ℕ) → b ≤ length listed → (c : ℕ) → c < cells_in t b → T (ltb 0 (cell_word t b c 0) && ltb (cell_word t b c 0) (b_in t))
  next_ok_lem b l c k =
      let n = next_is s listed fine closed b l c k in
      let p = (next_listed s listed fine closed b l c k).0 in
      and_i (ltb 0 (cell_word t b c 0)) (ltb (cell_word t b c 0) (b_in t)) (lt→ltb 0 (cell_word t b c 0) (omega arith))
      (lt→ltb (cell_word t b c 0) (b_in t) (omega (arith, b_in_lem s listed)))

  block_ok_lem : (b : ℕ) → b < b_in t → T (block_ok t b)
  unfolding block_ok
  block_ok_lem b k =
      let l = low b k in
      all_of_i _
      (mask_ok_lem b l
      ▹ le→leb (size 64 (timers_in t b)) 6 (few_ok b l)
      ▹ every_in_i 64 (timers_in t b) (λ u. ltb u (t_in t) && ltb 0 (delay_in t u)) (λ u h. timers_ok_lem b l u)
      ▹ of_true (eq-eqb (length_in t b) (3 + 6 * cells_in t b) (length_ok b l))
      ▹ every_i (cells_in t b) (λ c. ltb 0 (cell_word t b c 0) && ltb (cell_word t b c 0) (b_in t)) (next_ok_lem b l)
      ▹ tt)

  -- the layout is sound
  pub table_ok_lem : T (table_ok t)
  unfolding table_ok
  table_ok_lem =
      all_of_i _
      (le→leb 4 (length t) (omega (arith, table_length_lem s listed))
      ▹ (unfold word_in table_words in tt)
      ▹ le→leb (k_in t) 6 (omega (arith, k_in_lem s listed, k_le s sd))
      ▹ le→leb (t_in t) 64 (omega (arith, t_in_lem s listed, t_le s sd))
      ▹ le→leb 1 (b_in t) (omega (arith, b_in_lem s listed))
      ▹ le→leb (b_in t) 4096 (omega (arith, b_in_lem s listed))
      ▹ le→leb (4 + t_in t + 2 * b_in t) (length t) (omega (arith, table_length_lem s listed, t_in_lem s listed, b_in_lem s listed, blocks s listed))
      ▹ every_i (t_in t) (timer_ok t) timer_ok_lem
      ▹ every_i (b_in t) (λ b. eqb (offset_in t b) (end_before_in t b)) pair_ok_lem
      ▹ of_true (eq-eqb (end_before_in t (b_in t)) (length t) end_ok_lem)
      ▹ every_i (b_in t) (block_ok t) block_ok_lem
      ▹ tt)
