-- `planner::next::join_next` meets its contract. Assumes nothing.
use Rattle.std.proofs.Common.{◌<◌, refl, ◌∙◌, arith, get_or-set_other}
use Rattle.sets.proofs.Loops.{row-turn}
use Rattle.meaning.specs.Sheet.{t_of}
use Rattle.meaning.proofs.SheetLaws.{sound, t_le}
use Rattle.sheet.proofs.Past.{head_read}
use Rattle.reaction.specs.Plan.{next_of}
use Rattle.planner.proofs.WokenLaws.{exits_read, enters_read, top_is, held_lt, next_word}
use Rattle.planner.proofs.next.join_next.Goals as goal

pub transition_count-t-end-requires : goal.transition_count-t-end-requires
transition_count-t-end-requires c = head_read _ c.requires.0

pub loop-t-init : goal.loop-t-init
loop-t-init c = (t_le _ (sound _ c.requires.0), λ u l. absurd (omega arith), λ u l. refl)

pub offset_bounds-exit-top : goal.offset_bounds-exit-top
offset_bounds-exit-top c =
    let s = c.args.sheet.now in
    let t = c.loop-t.t in
    let on : t < t_of s = omega arith in
    let top = top_is s c.requires.0 t on (exits_read s c.requires.0 t (c.requires.1 t on) c.low.ensures) c.lowest-top.ensures in
    omega (arith, held_lt s c.requires.0 t on top)

pub bounds-exit-top : goal.bounds-exit-top
bounds-exit-top c =
    let s = c.args.sheet.now in
    let t = c.loop-t.t in
    let on : t < t_of s = omega arith in
    let top = top_is s c.requires.0 t on (exits_read s c.requires.0 t (c.requires.1 t on) c.low.ensures) c.lowest-top.ensures in
    omega (arith, held_lt s c.requires.0 t on top)

pub loop-t-preserved : goal.loop-t-preserved
loop-t-preserved c =
    let a = c.args in
    let l = c.loop-t in
    let s = a.sheet.now in
    let h = c.requires.0 in
    let on : l.t < t_of s = omega arith in
    let word = c.requires.1 l.t on in
    let top = top_is s h l.t on (exits_read s h l.t word c.low.ensures) c.lowest-top.ensures in
    let into = enters_read s h l.t word c.high-into.ensures in (
      l.invariant.0,
      row-turn (next_of s) l.next l.t (omega arith) l.invariant.1
          (next_word s h l.t on a.entry.now a.exit.now _ c.requires.2 c.requires.3 (l.invariant.2 l.t (omega arith) ∙ c.requires.4 l.t on) into top c.union_of.ensures),
      λ u k. get_or-set_other l.next l.t u _ 0 (λ e. omega arith) ∙ l.invariant.2 u (omega arith),
    )

pub returns : goal.returns
returns c = λ u k. c.loop-t.invariant.1 u (omega arith)
