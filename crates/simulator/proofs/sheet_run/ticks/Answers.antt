-- `simulator::sheet_run::ticks` meets its contract. Assumes nothing.
use Rattle.std.proofs.Common.{◌≡◌, true, ℕ, suc, ◌+◌, ◌*◌, ◌/◌, ◌^◌, ◌≤◌, List, [], ◌∷◌, T, length, get_or, refl, sym, ap, ap₂, ◌∙◌, arith, rules}
use Prim.Native.Nat.{zero-le}
use Rattle.sets.specs.Sets.{has, meet}
use Rattle.sets.proofs.Tests.{of_true}
use Rattle.meaning.specs.Lists.{row_from}
use Rattle.meaning.specs.Sheet.{k_of, t_of}
use Rattle.meaning.specs.Reaction.{running}
use Rattle.meaning.specs.Run.{State}
use Rattle.meaning.proofs.SheetLaws.{sound, k_le}
use Rattle.sheet.proofs.Past.{head_read}
use Rattle.reaction.specs.declared.plan.Plan.{Plan}
use Rattle.reaction.specs.Plan.{Planned, sources_in}
use Rattle.reaction.specs.Rounds.{start_sets}
use Rattle.reaction.specs.Causes.{fired_by}
use Rattle.reaction.proofs.PlanLaws.{running_meet}
use Rattle.reaction.proofs.StartLaws.{begun_of}
use Rattle.run.specs.Entries.{limits_by}
use Rattle.run.specs.States.{state_of}
use Rattle.run.proofs.DueNumberLaws.{room_from_0}
use Rattle.run.proofs.EntryLaws.{limits_none, limits_quiet}
use Rattle.run.proofs.LoopLaws.{input_below, later, ends_done, ends_foreign}
use Rattle.simulator.proofs.DelayLaws.{delay_word}
use Rattle.simulator.proofs.NumbersLoop.{written_ends}
use Rattle.meaning.proofs.RefusalLaws.{refused_not_0, none_is_0}
use Rattle.simulator.proofs.SheetRunLaws.{state_at, ReachedModes, start_state, start_modes, entered_by_now, tick_begins, tick_of_lem, numbers_of, tick_refused, tick_stayed, next_turn_lem, next_quiet, noted_moved}
use Rattle.simulator.proofs.sheet_run.ticks.Goals as goal
use Rattle.simulator.proofs.sheet_run.ticks.Goals.{After-age_limits-limits, then-first-eq0+then-later, else-first-eq0+else-is_some}

-- the timers that run
runs : {s : List ℕ} {plan : Plan} (x : ℕ) {live : ℕ} → Planned s plan → live ≡ sources_in s x → meet live plan.timers ≡ running s x
runs x p e = ap₂ meet e p.timing_at ∙ running_meet _ x

-- no running timer is due before the tick soon
no_sooner : {s : List ℕ} {plan : Plan} (ends : List ℕ) (x : ℕ) {live soon : ℕ} → Planned s plan → live ≡ sources_in s x
    → ((t : ℕ) → T (has (running s x) t) → soon ≤ get_or ends t 0)
    → (t : ℕ) → has (meet live plan.timers) t ≡ true → soon ≤ get_or ends t 0
no_sooner ends x p e h t m = h t (of_true (ap (λ (y : ℕ). has y t) (sym (runs x p e)) ∙ m))

-- the input set has no bit at k or above
input_ok : (s : List ℕ) (input : ℕ) {k : ℕ} → k ≡ k_of s → input / 2 ^ k ≡ 0 → input / 2 ^ k_of s ≡ 0
input_ok s input e h = ap (λ (n : ℕ). input / 2 ^ n) (sym e) ∙ h

-- what a run that ends here asks for
can_end : {s : List ℕ} {plan : Plan} {inputs out₀ numbers₀ : List ℕ} {q₀ : State} {out numbers ends limits : List ℕ} {x live soon total i : ℕ} → Planned s plan
    → ReachedModes s inputs out₀ numbers₀ q₀ out numbers ends limits x live soon total i
    → ((t : ℕ) → has (meet live plan.timers) t ≡ true → i ≤ get_or ends t 0)
    × ((m : ℕ) → has x m ≡ true → get_or limits m 0 ≤ i + 65535)
    × (5 * i ≤ length out)
can_end p v = (later v.timed refl (runs _ p v.sources), entered_by_now v, omega (arith, v.timed.reached.room, v.timed.reached.within))

-- the state by the deadlines and limits at the start is the start
from_start : (c : After-age_limits-limits)
    → let a = c.args in state_at a.sheet.now a.start.at c.deadlines-ends.result c.age_limits-limits.result 0 ≡ state_of a.start
from_start c =
    start_state _ (sound _ c.requires.0.passes) (state_of c.args.start) c.requires.2 c.deadlines-ends.ensures (search rules) c.age_limits-limits.ensures (search rules)

pub event_count-k-requires : goal.event_count-k-requires
event_count-k-requires c = head_read _ c.requires.0.passes

pub loop-i-init : goal.loop-i-init
loop-i-init c =
    let a = c.args in
    let long : length c.age_limits-limits.result ≡ 32 = search rules in (
      rw (limits_none c.age_limits-limits.result a.out.now 0 long)
          (start_modes a.sheet.now (sound _ c.requires.0.passes) (state_of a.start) c.requires.2
          c.deadlines-ends.ensures (search rules) c.age_limits-limits.ensures (search rules) c.from_set-live.ensures c.requires.3 c.requires.4),
      omega arith,
      long,
    )

pub overflow_shr-input : goal.overflow_shr-input
overflow_shr-input c = omega (arith, c.event_count-k.ensures, k_le _ (sound _ c.requires.0.passes))

pub ended-requires : goal.ended-requires
ended-requires c = let h = can_end c.requires.0 c.loop-i.invariant.0 in (h.0, h.1, c.loop-i.invariant.2, h.2)

pub returns-then-input-k-ne0 : goal.returns-then-input-k-ne0
returns-then-input-k-ne0 c =
    let v = c.loop-i.invariant.0 in
    let input = get_or c.args.inputs.now c.loop-i.i 0 in (
      rw (from_start (goal.at.returns-then-input-k-ne0 c).After-age_limits-limits)
          at (written_ends _ _ _ _ v.written (c.ended.ensures.0 c.loop-i.out) refl
          (ends_foreign v.timed refl (runs _ c.requires.0 v.sources) c.loop-i-test.true
          (λ e. c.if-input-k-ne0.true (ap (λ (k : ℕ). input / 2 ^ k) c.event_count-k.ensures ∙ e)))),
      omega (arith, c.ended.ensures.1, c.loop-i.invariant.1),
    )

pub due_by-d-requires : goal.due_by-d-requires
due_by-d-requires c = let v = c.loop-i.invariant.0 in (no_sooner _ _ c.requires.0 v.sources v.later, room_from_0 _)

pub first_triggered-first-requires : goal.first_triggered-first-requires
first_triggered-first-requires c =
    let v = c.loop-i.invariant.0 in (
      c.requires.0,
      tick_begins v (runs _ c.requires.0 v.sources) c.due_by-d.ensures.0 c.start_from-from.ensures,
      input_below _ _ (input_ok _ _ c.event_count-k.ensures c.if-input-k-ne0.false),
    )

pub soon_after-soon-requires : goal.soon_after-soon-requires
soon_after-soon-requires c = let v = c.loop-i.invariant.0 in no_sooner _ _ c.requires.0 v.sources v.later

pub rounds-o-requires : goal.rounds-o-requires
rounds-o-requires c =
    let v = c.loop-i.invariant.0 in
    let begins = tick_begins v (runs _ c.requires.0 v.sources) c.due_by-d.ensures.0 c.start_from-from.ensures in
    let low = input_below _ _ (input_ok _ _ c.event_count-k.ensures c.if-input-k-ne0.false) in
    (c.requires.0, begun_of _ c.requires.0.passes begins low c.first_triggered-first.ensures, low)

pub ended-requires-then-is_some : goal.ended-requires-then-is_some
ended-requires-then-is_some c = let h = can_end c.requires.0 c.loop-i.invariant.0 in (h.0, h.1, c.loop-i.invariant.2, h.2)

pub returns-then-is_some : goal.returns-then-is_some
returns-then-is_some c =
    let v = c.loop-i.invariant.0 in
    let run = runs _ c.requires.0 v.sources in
    let ok = input_ok _ _ c.event_count-k.ensures c.if-input-k-ne0.false in
    let tick = tick_of_lem v run c.due_by-d.ensures.0 c.requires.0.passes (input_below _ _ ok) c.start_from-from.ensures c.first_triggered-first.ensures c.rounds-o.ensures in (
      rw (from_start (goal.at.returns-then-is_some c).After-age_limits-limits)
          at (written_ends _ _ _ _ v.written (c.ended-then-is_some.ensures.0 c.loop-i.out) refl
          (tick_refused v run c.due_by-d.ensures.0 c.loop-i-test.true ok tick (refused_not_0 _ (sym c.is_some.ensures ∙ c.if-is_some.true)))),
      omega (arith, c.ended-then-is_some.ensures.1, c.loop-i.invariant.1),
    )

pub left_by-left-requires : goal.left_by-left-requires
left_by-left-requires c =
    let v = c.loop-i.invariant.0 in
    let run = runs _ c.requires.0 v.sources in
    let ok = input_ok _ _ c.event_count-k.ensures c.if-input-k-ne0.false in
    let tick = tick_of_lem v run c.due_by-d.ensures.0 c.requires.0.passes (input_below _ _ ok) c.start_from-from.ensures c.first_triggered-first.ensures c.rounds-o.ensures in
    (c.requires.0, v.sources, tick_stayed v run c.due_by-d.ensures.0 c.loop-i-test.true ok tick)

pub restart-requires : goal.restart-requires
restart-requires c = (c.loop-i.invariant.0.timed.long, omega arith, λ t l. delay_word _ c.requires.1 t l (sound _ c.requires.0.passes))

pub put_tick-requires : goal.put_tick-requires
put_tick-requires c =
    let v = c.loop-i.invariant.0 in
    let begins = tick_begins v (runs _ c.requires.0 v.sources) c.due_by-d.ensures.0 c.start_from-from.ensures in
    let low = input_below _ _ (input_ok _ _ c.event_count-k.ensures c.if-input-k-ne0.false) in (
      c.requires.0,
      begun_of _ c.requires.0.passes begins low c.first_triggered-first.ensures,
      low,
      c.rounds-o.ensures,
      omega (arith, v.timed.reached.room),
      omega (arith, v.written.room),
    )

pub loop-i-preserved : goal.loop-i-preserved
loop-i-preserved c =
    let l = c.loop-i in
    let v = l.invariant.0 in
    let s = c.args.sheet.now in
    let run = runs _ c.requires.0 v.sources in
    let ok = input_ok _ _ c.event_count-k.ensures c.if-input-k-ne0.false in
    let low = input_below _ _ ok in
    let due = c.due_by-d.ensures.0 in
    let room : 5 * l.i + 5 ≤ length l.out = omega (arith, v.timed.reached.room) in
    elim c.if-first-eq0.branch [
      | then-first-eq0+then-later w ↦
          rw (w.out-is, w.numbers-is, w.ends-is, w.limits-is, w.seen-is, w.x-is, w.live-is, w.soon-is, w.total-is) (
            next_quiet v run due c.loop-i-test.true ok c.start_from-from.ensures c.first_triggered-first.ensures w.if-first-eq0.true w.if-later.true
                w.soon_after-soon.ensures w.put_quiet.ensures.0 w.put_quiet.ensures.1
                (ap (λ (o : List ℕ). limits_by l.limits o l.seen (l.i + 1)) w.put_quiet.ensures.0
                ∙ limits_quiet l.limits l.out l.i l.seen (0 ∷ l.x ∷ 0 ∷ 0 ∷ []) refl room),
            l.invariant.1,
            l.invariant.2,
          )
      | else-first-eq0+else-is_some w ↦
          let tick = tick_of_lem v run due c.requires.0.passes low c.start_from-from.ensures c.first_triggered-first.ensures w.rounds-o.ensures in
          let row = row_from 0 64 (fired_by s (suc (t_of s)) (get_or c.args.inputs.now l.i 0) (start_sets c.start_from-from.result) c.first_triggered-first.result) in
          rw (w.out-is, w.numbers-is, w.ends-is, w.limits-is, w.seen-is, w.x-is, w.live-is, w.soon-is, w.total-is) (
            next_turn_lem v run due c.loop-i-test.true ok tick (none_is_0 _ (sym w.is_some.ensures ∙ w.if-is_some.false)) {row = row}
                w.put_tick.ensures.0 w.put_tick.ensures.1
                (numbers_of v run due c.requires.0.passes low c.start_from-from.ensures c.first_triggered-first.ensures)
                w.left_by-left.ensures.0 w.with_rounds-total.ensures.0 w.left_by-left.ensures.1 c.requires.1 w.restart.ensures
                (noted_moved l.limits l.out l.i l.seen l.x room _ _ _ w.low-entered.ensures w.put_tick.ensures.0 w.note_entries-seen.ensures.0)
                (λ t h k. zero-le),
            w.with_rounds-total.ensures.1,
            w.note_entries-seen.ensures.1,
          )
    ]

pub ended-requires-2 : goal.ended-requires-2
ended-requires-2 c =
    let done : length c.args.inputs.now ≡ c.loop-i.i = omega arith in
    let h = can_end c.requires.0 c.loop-i.invariant.0 in
    rw done (h.0, h.1, c.loop-i.invariant.2, h.2)

pub returns : goal.returns
returns c =
    let v = c.loop-i.invariant.0 in
    let done : length c.args.inputs.now ≡ c.loop-i.i = omega arith in
    let last = rw done at (c.ended-2.ensures.0 c.loop-i.out) in (
      rw (from_start (goal.at.returns c).After-age_limits-limits)
          at (written_ends _ _ _ _ v.written last refl (ends_done v.timed refl (runs _ c.requires.0 v.sources) (omega arith))),
      omega (arith, c.ended-2.ensures.1, c.loop-i.invariant.1),
    )
