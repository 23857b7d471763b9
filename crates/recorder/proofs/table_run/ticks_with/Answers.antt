-- `recorder::table_run::ticks_with` meets its contract. Assumes nothing.
use Rattle.std.proofs.Common.{◌≡◌, true, not, ◌&&◌, List, [], ◌∷◌, ℕ, ◌+◌, ◌*◌, ◌/◌, ◌^◌, ◌≤◌, ◌<◌, eqb, length, get_or, Fits, w32, refl, sym, ap, ap₂, ◌∙◌, subst, arith, rules}
use lib.Dec.{eqb→eq}
use Rattle.sets.specs.Sets.{has, union, meet, minus, members}
use Rattle.sets.proofs.Tests.{of_true, and_r}
use Rattle.rows.specs.Over.{over}
use Rattle.meaning.proofs.ListLaws.{row_from-length}
use Rattle.meaning.specs.Table.{word_in, b_in, offset_in, mask_in, timers_in, table_ok}
use Rattle.meaning.specs.TableRun.{due_number}
use Rattle.meaning.specs.Run.{State}
use Rattle.run.specs.States.{state_of}
use Rattle.run.specs.Entries.{entered_at, limits_by}
use Rattle.run.proofs.EntryLaws.{Moved, moved_by, limits_quiet}
use Rattle.run.proofs.LoopLaws.{input_below, later, entered_before, ends_done, ends_foreign}
use Rattle.table.proofs.LayoutFacts.{shape_of, k_le}
use Rattle.recorder.specs.declared.table_run.TableBlock.{TableBlock}
use Rattle.recorder.specs.Runs.{TableBlockOf, five_in}
use Rattle.recorder.proofs.BlockPlaceLaws.{head_ok}
use Rattle.recorder.proofs.TimerLaws.{delays_small}
use Rattle.recorder.proofs.TableStateLaws.{admitted}
use Rattle.recorder.proofs.TableRunLaws.{state_at, ReachedBlock, start_block, start_state, number_room, cell_below, number_scaled}
use Rattle.recorder.proofs.TableRunLaws.{Chosen, cell_room, next_below, turn-stays, ends_stale, moves_on}
use Rattle.recorder.proofs.table_run.ticks_with.Goals as goal
use Rattle.recorder.proofs.table_run.ticks_with.Goals.{After-block_at-b, After-cell_number, then-stays, else-stays+else-is_stale}

-- ---- what holds at several places

-- the state by the block, the deadlines and the limits at the start is the start
from_start : (c : After-block_at-b)
    → state_at c.args.table.now c.block_at-b.result.number c.deadlines-ends.result c.age_limits-limits.result 0 ≡ state_of c.args.start
from_start c =
    start_state _ (of_true c.requires.0) (state_of c.args.start) c.requires.5 c.block_at-b.ensures.0 c.deadlines-ends.ensures
    c.age_limits-limits.ensures (search rules) (search rules)

-- a run may end here: no deadline of a running timer is past, no active mode is yet to be entered, and the words are there
may-end : {w inputs out₀ : List ℕ} {q₀ : State} {out ends entries : List ℕ} {b : TableBlock} {i : ℕ} (limits : List ℕ) → table_ok w ≡ true
    → ((j : ℕ) → Fits w32 (get_or w j 0)) → ReachedBlock w inputs out₀ q₀ out ends entries b.number i → TableBlockOf w b → length limits ≡ 32
    → (table_ok w ≡ true)
    × (b.number < b_in w)
    × TableBlockOf w b
    × ((t : ℕ) → has b.timers t ≡ true → i ≤ get_or ends t 0)
    × ((m : ℕ) → has (mask_in w b.number) m ≡ true → get_or entries m 0 ≤ i + 65535)
    × (length limits ≡ 32)
    × (5 * i ≤ length out)
unfolding mask_in word_in
may-end {w = w} {b = b} limits h word r block long = (
  h,
  r.low,
  block,
  later r.timed refl block.1,
  entered_before r.timed refl block.1 (word (offset_in w b.number)).fits,
  long,
  omega (arith, r.timed.reached.within, r.timed.reached.room),
)

-- the cell, by the due timers and the input set
chosen : (c : After-cell_number)
    → let w = c.args.table.now in
    let l = c.loop-i in
    Chosen w c.args.inputs.now c.args.out.now (state_at w c.block_at-b.result.number c.deadlines-ends.result c.age_limits-limits.result 0)
    l.out l.ends (limits_by l.limits l.out l.seen l.i) l.b.number l.i (mask_in w l.b.number) l.b.timers c.due_by-d.result.set
    (due_number (members 64 l.b.timers) c.due_by-d.result.set) (l.b.at + 6 * c.cell_number.result + 3)
chosen c =
    let inv = c.loop-i.invariant in
    let input = get_or c.args.inputs.now c.loop-i.i 0 in
    record {
      here = inv.reached;
      active_is = refl;
      running = inv.block.1;
      more = omega arith;
      below = ap (λ (k : ℕ). input / 2 ^ k) (sym inv.known.events_are) ∙ c.if-input-k-ne0.false;
      due = c.due_by-d.ensures.0;
      number = refl;
      place = omega (arith, inv.block.0, c.cell_number.ensures, number_scaled _ _ inv.known.events_are c.due_by-d.ensures.1);
    }

-- its words lie in the table
room : (c : After-cell_number) → c.loop-i.b.at + 6 * c.cell_number.result + 3 + 6 ≤ length c.args.table.now
room c = cell_room (chosen c)

-- ---- the goals

pub event_count-k-requires : goal.event_count-k-requires
event_count-k-requires c = head_ok _ c.requires.0

pub block_at-b-requires : goal.block_at-b-requires
block_at-b-requires c = (c.requires.0, c.requires.1, (admitted _ (of_true c.requires.0) (state_of c.args.start) c.requires.5).0)

pub loop-i-init : goal.loop-i-init
loop-i-init c =
    let b = c.block_at-b in
    record {
      known = record {
        sound = of_true c.requires.0;
        events_are = c.event_count-k.ensures;
        delays_are = c.requires.2;
        timers_are = c.requires.3;
        sources_are = c.requires.4;
      };
      reached = start_block _ (of_true c.requires.0) (state_of c.args.start) c.requires.5 b.ensures.0 c.deadlines-ends.ensures
          c.age_limits-limits.ensures (search rules) (omega (arith, b.type_inv, b.ensures.1.1)) c.requires.6;
      block = b.ensures.1;
      long = ap length c.age_limits-limits.ensures ∙ row_from-length _ 0 32;
      soon = λ t h. omega arith;
    }

pub overflow_shr-input : goal.overflow_shr-input
overflow_shr-input c = let v = c.loop-i.invariant.known in omega (arith, v.events_are, k_le _ (shape_of _ v.sound))

pub ended-requires : goal.ended-requires
ended-requires c = let v = c.loop-i.invariant in may-end _ c.requires.0 c.type_inv.table v.reached v.block v.long

pub returns-then-input-k-ne0 : goal.returns-then-input-k-ne0
returns-then-input-k-ne0 c =
    let v = c.loop-i.invariant in
    let input = get_or c.args.inputs.now c.loop-i.i 0 in
    c.ended.ensures c.loop-i.out
    ∙ rw (from_start (goal.at.returns-then-input-k-ne0 c).After-block_at-b) at (ends_foreign v.reached.timed refl v.block.1 (omega arith)
    (λ e. c.if-input-k-ne0.true (ap (λ (k : ℕ). input / 2 ^ k) v.known.events_are ∙ e)))

pub due_by-d-requires : goal.due_by-d-requires
due_by-d-requires c = let v = c.loop-i.invariant in (v.soon, number_room v.reached v.block.1 v.known.events_are)

pub cell_number-requires : goal.cell_number-requires
cell_number-requires c =
    let v = c.loop-i.invariant in
    cell_below v.reached v.block.1 v.known.events_are c.due_by-d.result.set c.due_by-d.ensures.1 (input_below _ _ c.if-input-k-ne0.false)

pub overflow_mul-cell : goal.overflow_mul-cell
overflow_mul-cell c = omega (arith, room (goal.at.overflow_mul-cell c).After-cell_number)

pub overflow_add-cell : goal.overflow_add-cell
overflow_add-cell c = omega (arith, room (goal.at.overflow_add-cell c).After-cell_number)

pub overflow_add-cell-in-loop-i : goal.overflow_add-cell-in-loop-i
overflow_add-cell-in-loop-i c = omega (arith, room (goal.at.overflow_add-cell-in-loop-i c).After-cell_number)

pub offset_bounds-table-cell : goal.offset_bounds-table-cell
offset_bounds-table-cell c = omega (arith, room (goal.at.offset_bounds-table-cell c).After-cell_number)

pub bounds-table-cell : goal.bounds-table-cell
bounds-table-cell c = omega (arith, room (goal.at.bounds-table-cell c).After-cell_number)

pub overflow_add-entered : goal.overflow_add-entered
overflow_add-entered c = omega (arith, room (goal.at.overflow_add-entered c).After-cell_number)

pub offset_bounds-table-cell-in-loop-i : goal.offset_bounds-table-cell-in-loop-i
offset_bounds-table-cell-in-loop-i c = omega (arith, room (goal.at.offset_bounds-table-cell-in-loop-i c).After-cell_number)

pub bounds-table-cell-in-loop-i : goal.bounds-table-cell-in-loop-i
bounds-table-cell-in-loop-i c = omega (arith, room (goal.at.bounds-table-cell-in-loop-i c).After-cell_number)

pub block_at-to-requires : goal.block_at-to-requires
block_at-to-requires c = (c.requires.0, c.requires.1, next_below (chosen (goal.at.block_at-to-requires c).After-cell_number))

pub ended-requires-then-is_stale : goal.ended-requires-then-is_stale
ended-requires-then-is_stale c = let v = c.loop-i.invariant in may-end _ c.requires.0 c.type_inv.table v.reached v.block v.long

pub returns-then-is_stale : goal.returns-then-is_stale
returns-then-is_stale c =
    let at = goal.at.returns-then-is_stale c in
    let to = c.block_at-to in
    c.ended-then-is_stale.ensures c.loop-i.out
    ∙ rw (from_start at.After-block_at-b) at (ends_stale (chosen at.After-cell_number) c.loop-i.invariant.known
    to.ensures.0 refl (omega (arith, to.type_inv)) to.ensures.1.1 (ap (meet to.result.timers) c.started.ensures)
    (ap (λ (x : ℕ). not (eqb (minus x (minus c.loop-i.b.timers c.due_by-d.result.set)) 0)) (sym c.minus.ensures)
    ∙ sym c.is_stale.ensures ∙ c.if-is_stale.true))

pub restart-requires : goal.restart-requires
restart-requires c =
    let v = c.loop-i.invariant in (
      v.reached.timed.long,
      omega arith,
      λ t l. omega (arith, ap (λ (r : List ℕ). get_or r t 0) v.known.delays_are, delays_small c.args.table.now t l),
    )

pub mask_of-is-requires : goal.mask_of-is-requires
mask_of-is-requires c =
    let to = c.block_at-to in
    (c.requires.0, omega (arith, to.ensures.0, next_below (chosen (goal.at.mask_of-is-requires c).After-cell_number)), to.ensures.1)

pub five_at-requires : goal.five_at-requires
five_at-requires c = room (goal.at.five_at-requires c).After-cell_number

-- the words of a cell after those that it enters
abbrev last_four : List ℕ → ℕ → List ℕ
last_four w cell = get_or w (cell + 2) 0 ∷ get_or w (cell + 3) 0 ∷ get_or w (cell + 4) 0 ∷ get_or w (cell + 5) 0 ∷ []

pub loop-i-preserved : goal.loop-i-preserved
loop-i-preserved c =
    let cell = chosen (goal.at.loop-i-preserved c).After-cell_number in
    let l = c.loop-i in
    let w = c.args.table.now in
    let inv = l.invariant in
    let place = l.b.at + 6 * c.cell_number.result + 3 in
    let entered = get_or w (place + 1) 0 in
    let out' = c.put_five.new.out in
    let out : out' ≡ over l.out (5 * l.i) (five_in w place) = c.put_five.ensures ∙ ap (over l.out (5 * l.i)) c.five_at.ensures in
    let words : 5 * l.i + 5 ≤ length l.out = omega (arith, inv.reached.timed.reached.room) in
    elim c.if-stays.branch [
      | then-stays v ↦
          let st = sym c.stays.ensures ∙ v.if-stays.true in
          let quiet : entered ≡ 0 = eqb→eq entered 0 (and_r (eqb (get_or w place 0) l.b.number && eqb c.due_by-d.result.set 0) (eqb entered 0) (of_true st)) in
          let exact =
          ap₂ (λ (x : List ℕ) (y : ℕ). limits_by x out' y (l.i + 1)) v.limits-is v.seen-is
          ∙ ap (λ (o : List ℕ). limits_by l.limits o l.seen (l.i + 1)) (out ∙ ap (λ (e : ℕ). over l.out (5 * l.i) (e ∷ last_four w place)) quiet)
          ∙ limits_quiet l.limits l.out l.i l.seen (last_four w place) refl words in
          record {
            known = inv.known;
            reached = turn-stays cell st out v.ends-is exact (ap (λ (b : TableBlock). b.number) v.b-is);
            block = subst (TableBlockOf w) (sym v.b-is) inv.block;
            long = ap length v.limits-is ∙ inv.long;
            soon = λ t h.
                subst (λ (x : List ℕ). c.if-stays.soon ≤ get_or x t 0) (sym v.ends-is)
                (subst (λ (n : ℕ). n ≤ get_or l.ends t 0) (sym v.soon-is) (v.soon_after-soon.ensures t (subst (λ (b : TableBlock). has b.timers t ≡ true) v.b-is h)));
          }
      | else-stays+else-is_stale v ↦
          let exact =
          ap₂ (λ (x : List ℕ) (y : ℕ). limits_by x out' y (l.i + 1)) v.limits-is v.seen-is
          ∙ ap (λ (o : List ℕ). limits_by v.note_entries-seen.new.limits o v.note_entries-seen.result (l.i + 1)) out
          ∙ v.note_entries-seen.ensures.0 l.out (last_four w place) refl words in
          let r =
          moves_on cell inv.known (ap (λ (b : TableBlock). b.number) v.b-is ∙ v.block_at-to.ensures.0)
          refl (omega (arith, v.block_at-to.type_inv))
          (v.block_at-to.ensures.1.1 ∙ ap (λ (b : TableBlock). timers_in w b.number) (sym v.b-is)) (ap (meet v.block_at-to.result.timers) v.started.ensures)
          (ap (λ (x : ℕ). not (eqb (minus x (minus l.b.timers c.due_by-d.result.set)) 0)) (sym v.minus.ensures)
          ∙ sym v.is_stale.ensures ∙ v.if-is_stale.false)
          {out' = out'} {ends' = c.if-stays.ends} {limits' = limits_by c.if-stays.limits out' c.if-stays.seen (l.i + 1)} {soon = l.soon} {first = c.if-stays.soon}
          out (v.ends-is ∙ v.restart.ensures)
          (subst (Moved l.i (mask_in w l.b.number) (mask_in w c.if-stays.b.number) entered (limits_by l.limits l.out l.seen l.i))
          (sym (exact ∙ ap₂ (λ (was is : ℕ). entered_at entered (l.i + 1) (entered_at (minus is (union was entered)) l.i (limits_by l.limits l.out l.seen l.i)))
          v.mask_of-was.ensures (v.mask_of-is.ensures ∙ ap (λ (b : TableBlock). mask_in w b.number) (sym v.b-is))))
          (moved_by l.i (mask_in w l.b.number) (mask_in w c.if-stays.b.number) entered (limits_by l.limits l.out l.seen l.i) refl))
          inv.soon (subst (λ (n : ℕ). n ≤ l.soon) (sym v.soon-is) v.soon_with-soon.ensures.0)
          (λ u e. subst (λ (n : ℕ). n ≤ get_or c.if-stays.ends u 0) (sym (v.soon-is ∙ v.soon_with-soon.ensures.1 u e)) (omega arith)) in
          record {
            known = inv.known;
            reached = r.0;
            block = subst (TableBlockOf w) (sym v.b-is) v.block_at-to.ensures.1;
            long = ap length v.limits-is ∙ v.note_entries-seen.ensures.1;
            soon = λ t h. r.1 t (subst (λ (b : TableBlock). has b.timers t ≡ true) v.b-is h);
          }
    ]

pub ended-requires-2 : goal.ended-requires-2
ended-requires-2 c =
    let v = c.loop-i.invariant in
    let e : c.loop-i.i ≡ length c.args.inputs.now = omega arith in
    rw e at (may-end c.loop-i.limits c.requires.0 c.type_inv.table v.reached v.block v.long)

pub returns : goal.returns
returns c =
    let v = c.loop-i.invariant in
    let e : c.loop-i.i ≡ length c.args.inputs.now = omega arith in
    c.ended-2.ensures c.loop-i.out
    ∙ rw e at (rw (from_start (goal.at.returns c).After-block_at-b) at (ends_done v.reached.timed refl v.block.1 (omega arith)))
