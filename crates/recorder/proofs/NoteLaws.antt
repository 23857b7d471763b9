-- What a run works out of its table, noted in lent words: read back, and put. Assumes nothing.
use mathlib.Core.Path.{◌≡◌, sym, ap, ◌∙◌, subst}
use mathlib.Core.Logic.{inl}
use mathlib.Core.Bool.{not}
use mathlib.Core.List.{List, [], ◌++◌, append-nil}
use Prim.Native.Nat.{ℕ, ◌+◌, ◌-◌, ◌^◌, ◌≤◌, ◌<◌}
use native.Mathlib.Nat.{zero-add}
use native.Mathlib.Omega.{arith}
use borrow.Rule.Slice.PartMut.{put_mid}
use lib.Dec.{T, eqb}
use lib.ListN.{length, get_or, take, drop, set, length-set, length-drop, drop_of_length-le, get_or-append}
use lib.Seq.{length-take-le, get_or-take, get_or-drop, drop_at, get_or-set_same, get_or-set_other}
use Rattle.sets.specs.Sets.{set_of}
use Rattle.sets.proofs.Membership.{set_of-lt, set_of_same}
use Rattle.rows.specs.Over.{over}
use Rattle.rows.proofs.OverLaws.{length_over, over_in, over_out, lent_is}
use Rattle.meaning.specs.Lists.{row_from}
use Rattle.meaning.specs.Table.{table_ok}
use Rattle.meaning.proofs.ListLaws.{row_at, row_from-length}
use Rattle.run.proofs.ArrayLaws.{row_of}
use Rattle.table.proofs.LayoutFacts.{shape_of, b_pos}
use Rattle.recorder.specs.Timers.{timer_delay_in, timers_from, BlockTimers, Noted}

-- the sources, by the timers of each
sources_by : (w : List ℕ) {from : List ℕ} → from ≡ row_from 0 32 (timers_from w) → set_of 32 (λ m. not (eqb (get_or from m 0) 0)) ≡ set_of 32 (λ m. not (eqb (timers_from w m) 0))
sources_by w {from} e =
    set_of_same 32 (λ m. not (eqb (get_or from m 0) 0)) (λ m. not (eqb (timers_from w m) 0)) (λ m l.
    ap (λ (x : ℕ). not (eqb x 0)) (ap (λ (r : List ℕ). get_or r m 0) e ∙ row_at 32 (timers_from w) m l))

-- ---- read back

module _ {w notes : List ℕ} (h : T (table_ok w)) (n : Noted w notes) where
  pub noted_long : 97 < length notes
  noted_long = omega (arith, n.blocks.0, b_pos w (shape_of w h), length-drop 97 notes)

  pub delays_noted : take 64 notes ≡ row_from 0 64 (timer_delay_in w)
  delays_noted =
      row_of (take 64 notes) 64 (timer_delay_in w) (length-take-le 64 notes (omega (arith, noted_long)))
      (λ t l. get_or-take 64 notes t 0 l ∙ n.delays t l)

  pub from_noted : take 32 (drop 64 notes) ≡ row_from 0 32 (timers_from w)
  from_noted =
      row_of (take 32 (drop 64 notes)) 32 (timers_from w) (length-take-le 32 (drop 64 notes) (omega (arith, noted_long, length-drop 64 notes)))
      (λ m l. get_or-take 32 (drop 64 notes) m 0 l ∙ get_or-drop 64 notes m 0 ∙ n.from m l)

  pub sources_noted : {from : List ℕ} → from ≡ row_from 0 32 (timers_from w) → get_or notes 96 0 ≡ set_of 32 (λ m. not (eqb (get_or from m 0) 0))
  sources_noted e = n.sources ∙ sym (sources_by w e)

  -- they fit a word of 32 bits
  pub sources_small : get_or notes 96 0 < 2 ^ 32
  sources_small = subst (λ (x : ℕ). x < 2 ^ 32) (sym n.sources) (set_of-lt 32 (λ m. not (eqb (timers_from w m) 0)))

  -- the part that is lent has the timers of each block
  pub blocks_noted : BlockTimers w (take (length notes - 97) (drop 97 notes))
  blocks_noted = subst (BlockTimers w) (sym (lent_is notes 97 (omega (arith, noted_long)))) n.blocks

-- ---- put

-- a part from `off` on is put back: what stands before it stays, and it stands there
module _ (l : List ℕ) (off : ℕ) (part : List ℕ) (h : off ≤ length l) where
  before_part : (i : ℕ) → i < off → get_or (put_mid off (length l - off) l part) i 0 ≡ get_or l i 0
  before_part i k = get_or-append (take off l) _ 0 i (omega (arith, length-take-le off l h)) ∙ get_or-take off l i 0 k

  part_back : drop off (put_mid off (length l - off) l part) ≡ part
  part_back =
      let none : drop (length l - off) (drop off l) ≡ [] = drop_of_length-le (drop off l) {i = length l - off} (omega (arith, length-drop off l)) in
      drop_at (take off l) _ off (length-take-le off l h) ∙ ap (λ (r : List ℕ). part ++ r) none ∙ append-nil part

-- the delays, the timers of each source and the sources, one after another
module _ (w notes : List ℕ) {delays from a b : List ℕ} {s : ℕ} (long : 97 ≤ length notes) (de : delays ≡ row_from 0 64 (timer_delay_in w))
    (fe : from ≡ row_from 0 32 (timers_from w)) (ae : a ≡ over notes 0 delays) (be : b ≡ over a 64 from) (se : s ≡ set_of 32 (λ m. not (eqb (get_or from m 0) 0))) where
  delays_many : length delays ≡ 64
  delays_many = ap length de ∙ row_from-length (timer_delay_in w) 0 64

  from_many : length from ≡ 32
  from_many = ap length fe ∙ row_from-length (timers_from w) 0 32

  delays_room : 0 + length delays ≤ length notes
  delays_room = omega (arith, delays_many)

  delays_length : length a ≡ length notes
  delays_length = ap length ae ∙ length_over notes 0 delays delays_room

  from_room : 64 + length from ≤ length a
  from_room = omega (arith, from_many, delays_length)

  pub front_length : length (set b 96 s) ≡ length notes
  front_length = length-set b 96 s ∙ ap length be ∙ length_over a 64 from from_room ∙ delays_length

  delay_put : (t : ℕ) → t < 64 → get_or b t 0 ≡ timer_delay_in w t
  delay_put t l =
      ap (λ (r : List ℕ). get_or r t 0) be ∙ over_out a 64 from from_room t (inl l) ∙ ap (λ (r : List ℕ). get_or r t 0) ae
      ∙ ap (λ (i : ℕ). get_or (over notes 0 delays) i 0) (sym (zero-add t)) ∙ over_in notes 0 delays delays_room t (omega (arith, delays_many))
      ∙ ap (λ (r : List ℕ). get_or r t 0) de ∙ row_at 64 (timer_delay_in w) t l

  from_put : (m : ℕ) → m < 32 → get_or b (64 + m) 0 ≡ timers_from w m
  from_put m l =
      ap (λ (r : List ℕ). get_or r (64 + m) 0) be ∙ over_in a 64 from from_room m (omega (arith, from_many))
      ∙ ap (λ (r : List ℕ). get_or r m 0) fe ∙ row_at 32 (timers_from w) m l

  -- and then the timers of each block
  module _ (part : List ℕ) (blocks : BlockTimers w part) where
    front : (i : ℕ) → i < 97 → get_or (put_mid 97 (length (set b 96 s) - 97) (set b 96 s) part) i 0 ≡ get_or (set b 96 s) i 0
    front i l = before_part (set b 96 s) 97 part (omega (arith, front_length)) i l

    pub notes_put : Noted w (put_mid 97 (length (set b 96 s) - 97) (set b 96 s) part)
    notes_put =
        record {
          delays = λ t l. front t (omega arith) ∙ get_or-set_other b 96 t s 0 (λ e. omega arith) ∙ delay_put t l;
          from = λ m l. front (64 + m) (omega arith) ∙ get_or-set_other b 96 (64 + m) s 0 (λ e. omega arith) ∙ from_put m l;
          sources = front 96 (omega arith) ∙ get_or-set_same b 96 s 0 (omega (arith, front_length, length-set b 96 s)) ∙ se ∙ sources_by w fe;
          blocks = subst (BlockTimers w) (sym (part_back (set b 96 s) 97 part (omega (arith, front_length)))) blocks;
        }
