-- A block's tests one by one: what those before its next blocks say, and what each test comes to as the code makes it. Assumes nothing.
use mathlib.Core.Path.{◌≡◌, ap, ◌∙◌}
use mathlib.Core.Bool.{Bool, true, not, ◌&&◌, cond, and-true}
use mathlib.Core.List.{List}
use Prim.Native.Nat.{ℕ, ◌+◌, ◌*◌, ◌^◌, ◌≤◌, ◌<◌}
use native.Mathlib.Omega.{arith}
use lib.Dec.{T, eqb, ltb, eqb→eq, leb→le, ltb→lt, lt→ltb}
use lib.ListN.{get_or, take, drop}
use lib.Seq.{get_or-take, get_or-drop}
use borrow.Author.Tests.{le-leb}
use Rattle.sets.specs.Sets.{has, minus, size, every, every_in}
use Rattle.sets.proofs.Tests.{and_l, and_r, and_i, bool_ext}
use Rattle.sets.proofs.Facts.{set_of_e, set_of_i, every_in_e, every_in_i}
use Rattle.sets.proofs.Quantifiers.{every_same, minus_every}
use Rattle.meaning.specs.Lists.{all_of}
use Rattle.meaning.specs.Table.{word_in, t_in, b_in, delay_in, offset_in, length_in, mask_in, timers_in, cells_in, cell_word}
use Rattle.meaning.proofs.ListLaws.{all_of_e}
use Rattle.table.specs.Parts.{delayed_in, next_ok, block_head_ok, next_blocks_ok}

-- ---- what a block says that is sound but for its next blocks

module _ (w : List ℕ) (b : ℕ) where
  -- the mask is not 0; block 0 has mask 0 and no timers
  abbrev pub mask_test : Bool
  mask_test = cond (eqb b 0) (eqb (mask_in w b) 0 && eqb (timers_in w b) 0) (not (eqb (mask_in w b) 0))

  abbrev pub timers_test : Bool
  timers_test = every_in 64 (timers_in w b) (λ t. ltb t (t_in w) && ltb 0 (delay_in w t))

pub record BlockHead (w : List ℕ) (b : ℕ) : Type 0 where
  pub mask : T (mask_test w b)
  pub few : size 64 (timers_in w b) ≤ 6
  pub timers : T (timers_test w b)
  pub length_is : length_in w b ≡ 3 + 6 * cells_in w b

pub block_head_of : (w : List ℕ) (b : ℕ) → T (block_head_ok w b) → BlockHead w b
unfolding block_head_ok
block_head_of w b h =
    let r = all_of_e _ h in
    record {
      mask = r.0;
      few = leb→le (size 64 (timers_in w b)) 6 r.1.0;
      timers = r.1.1.0;
      length_is = eqb→eq (length_in w b) (3 + 6 * cells_in w b) r.1.1.1.0;
    }

-- where all its tests but the last have passed
pub block_head_is : (w : List ℕ) (b : ℕ) → mask_test w b ≡ true → size 64 (timers_in w b) ≤ 6 → timers_test w b ≡ true
    → block_head_ok w b ≡ eqb (length_in w b) (3 + 6 * cells_in w b)
unfolding block_head_ok all_of
block_head_is w b m s t =
    rw (m, le-leb (size 64 (timers_in w b)) 6 s, t)
    (and-true (eqb (length_in w b) (3 + 6 * cells_in w b)))

-- ---- the tests as the code makes them

-- no timer is without a delay
minus_delayed : (w : List ℕ) (s : ℕ) → s < 2 ^ 64 → eqb (minus s (delayed_in w)) 0 ≡ every_in 64 s (λ t. ltb t (t_in w) && ltb 0 (delay_in w t))
unfolding delayed_in
minus_delayed w s h =
    minus_every 64 s (delayed_in w) h
    ∙ bool_ext (every_in 64 s (has (delayed_in w))) (every_in 64 s (λ t. ltb t (t_in w) && ltb 0 (delay_in w t)))
    (λ e. every_in_i 64 s (λ t. ltb t (t_in w) && ltb 0 (delay_in w t)) (λ t l m.
    let r = set_of_e (t_in w) (λ i. ltb 0 (delay_in w i)) t (every_in_e 64 s (has (delayed_in w)) e t l m) in
    and_i (ltb t (t_in w)) (ltb 0 (delay_in w t)) (lt→ltb t (t_in w) r.0) r.1))
    (λ e. every_in_i 64 s (has (delayed_in w)) (λ t l m.
    let r = every_in_e 64 s (λ i. ltb i (t_in w) && ltb 0 (delay_in w i)) e t l m in
    set_of_i (t_in w) (λ i. ltb 0 (delay_in w i)) t (ltb→lt t (t_in w) (and_l (ltb t (t_in w)) (ltb 0 (delay_in w t)) r)) (and_r (ltb t (t_in w)) (ltb 0 (delay_in w t)) r)))

pub timers_test_lem : (w : List ℕ) (b s d m : ℕ) → s < 2 ^ 64 → s ≡ timers_in w b → d ≡ delayed_in w → m ≡ minus s d → eqb m 0 ≡ timers_test w b
timers_test_lem w b s d m l hs hd hm =
    rw (hm, hd) (minus_delayed w s l)
    ∙ ap (λ (x : ℕ). every_in 64 x (λ t. ltb t (t_in w) && ltb 0 (delay_in w t))) hs

-- the cells stand in a part of the table, from the block's word 3 on
pub next_in_part : (w : List ℕ) (b at count n : ℕ) → at ≡ offset_in w b → count ≡ cells_in w b → 6 * count ≤ n
    → every count (next_ok (take n (drop (at + 3) w)) (b_in w)) ≡ next_blocks_ok w b
unfolding next_ok next_blocks_ok cell_word word_in
next_in_part w b at count n ha hc h =
    let test : ℕ → Bool = λ c. ltb 0 (cell_word w b c 0) && ltb (cell_word w b c 0) (b_in w) in
    every_same count (next_ok (take n (drop (at + 3) w)) (b_in w)) test (λ c l.
    let e : get_or (take n (drop (at + 3) w)) (6 * c) 0 ≡ get_or w (offset_in w b + 3 + 6 * c + 0) 0 =
    get_or-take n (drop (at + 3) w) (6 * c) 0 (omega arith)
    ∙ get_or-drop (at + 3) w (6 * c) 0
    ∙ ap (λ (i : ℕ). get_or w i 0) (omega arith) in
    ap (λ (x : ℕ). ltb 0 x && ltb x (b_in w)) e)
    ∙ ap (λ (i : ℕ). every i test) hc
