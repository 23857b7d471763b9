-- `reaction::why::rounds_report` meets its contract. Assumes nothing.
use Rattle.std.proofs.Common.{rules, ◌≡◌, ℕ, ◌+◌, ◌^◌, ◌<◌, Bool, true, false, not, ◌&&◌, T, ltb, List, sym, ap, ap₂, ◌∙◌, subst, pos_of_ne-zero, arith}
use mathlib.Core.Bool.{and-false}
use Rattle.sets.specs.Sets.{has, those, lowest}
use Rattle.sets.proofs.Tests.{is_true, of_true}
use Rattle.sets.proofs.Facts.{meet_e}
use Rattle.sets.proofs.Membership.{those-lt}
use Rattle.sets.proofs.Members.{lowest_member}
use Rattle.sets.proofs.Widths.{lowest_width}
use Rattle.meaning.specs.Sheet.{t_of}
use Rattle.meaning.specs.GivesWay.{gives_way}
use Rattle.meaning.specs.Reaction.{eligible}
use Rattle.meaning.specs.Tick.{Tick}
use Rattle.meaning.specs.Why.{gave_way_to, taken_in}
use Rattle.meaning.proofs.SheetLaws.{sound, t_le}
use Rattle.reaction.specs.Rounds.{sets_of}
use Rattle.reaction.proofs.CauseLaws.{cause_by_lem}
use Rattle.reaction.proofs.ReasonLaws.{ahead_of_lem, ahead_some}
use Rattle.reaction.proofs.RoundsLeft.{left_small, caused}
use Rattle.reaction.proofs.TriggerLaws.{mixed_asks}
use Rattle.reaction.proofs.ReasonLoop.{asked_start, asked_done, round_takes, round_gives_way, round_passes}
use Rattle.reaction.proofs.why.rounds_report.Goals as goal
use Rattle.reaction.proofs.why.rounds_report.Goals.{else-not-has-via-then-not-has+else-has-2, else-not-has-via-else-not-has}

-- t is triggered and not taken, so there is one that it gives way to
filled : (s : List ℕ) (ts t : ℕ) {es x : ℕ} → t < t_of s → es ≡ eligible s ts → has ts t ≡ true → has es t ≡ false → x ≡ those (t_of s) ts (gives_way s t) → 0 < x
filled s ts t l e m n k =
    pos_of_ne-zero (λ z. ahead_some s ts t l (of_true m) (ap (λ (y : ℕ). has y t) (sym e) ∙ n) (ahead_of_lem s ts t (of_true m) ∙ sym k ∙ z))

pub loop-r-init : goal.loop-r-init
loop-r-init c =
    let a = c.args in (
      omega (arith, t_le _ (sound _ c.requires.0.passes)),
      asked_start a.sheet.now (has a.o.taken a.t) a.t a.input a.b.begun a.b.entered a.first (search rules) c.requires.1,
    )

pub round_of-round-requires : goal.round_of-round-requires
round_of-round-requires c = (c.requires.0, left_small c.loop-r.invariant.1.left)

pub cause-requires : goal.cause-requires
cause-requires c =
    let a = c.args in
    let l = c.loop-r in
    let takes = sym c.has.ensures ∙ c.if-has.true in
    let by = cause_by_lem a.sheet.now c.requires.0.passes a.t c.requires.4 a.input (sets_of a.b.begun l.z) c.ranges.input.fits c.facts-f.ensures in (
      c.requires.0.passes,
      c.requires.4,
      subst (λ (n : ℕ). T (ltb 0 n)) (sym by)
          (caused l.invariant.1.left a.t (subst (λ (x : ℕ). T (has x a.t)) c.round_of-round.ensures.chosen (of_true takes))).1,
    )

pub returns-then-has : goal.returns-then-has
returns-then-has c =
    let a = c.args in
    let l = c.loop-r in
    let by = cause_by_lem a.sheet.now c.requires.0.passes a.t c.requires.4 a.input (sets_of a.b.begun l.z) c.ranges.input.fits c.facts-f.ensures in
    ap (taken_in (l.r + 1)) (c.cause.ensures ∙ by)
    ∙ round_takes l.invariant.1 (omega (arith, ap (λ (t : Tick). t.rounds) c.requires.3)) c.round_of-round.ensures (sym c.has.ensures ∙ c.if-has.true)

pub ahead_of-requires : goal.ahead_of-requires
ahead_of-requires c = (c.requires.0, left_small c.loop-r.invariant.1.left, c.requires.4)

pub overflow_cast-result : goal.overflow_cast-result
overflow_cast-result c =
    let a = c.args in
    let some : 0 < c.ahead_of.result =
    filled a.sheet.now c.loop-r.ts a.t c.requires.4 c.round_of-round.ensures.chosen (sym c.has-then-not-has.ensures ∙ c.if-has-2.true)
    (sym c.has.ensures ∙ c.if-has.false) c.ahead_of.ensures in
    omega (arith, (lowest_member 64 c.ahead_of.result (omega arith) some).small, c.lowest.ensures)

pub returns-then-has-2 : goal.returns-then-has-2
returns-then-has-2 c =
    let a = c.args in
    let s = a.sheet.now in
    let l = c.loop-r in
    let passes = sym c.has.ensures ∙ c.if-has.false in
    let triggers = sym c.has-then-not-has.ensures ∙ c.if-has-2.true in
    let some : 0 < c.ahead_of.result = filled s l.ts a.t c.requires.4 c.round_of-round.ensures.chosen triggers passes c.ahead_of.ensures in
    ap gave_way_to
    (c.lowest.ensures
    ∙ lowest_width 64 (t_of s) (omega arith) (subst (λ (x : ℕ). x < 2 ^ t_of s) (sym c.ahead_of.ensures) (those-lt (t_of s) _ _)) some
    ∙ ap (lowest (t_of s)) (c.ahead_of.ensures ∙ sym (ahead_of_lem s l.ts a.t (of_true triggers))))
    ∙ round_gives_way l.invariant.1 (omega (arith, ap (λ (t : Tick). t.rounds) c.requires.3)) c.round_of-round.ensures passes
    (ap₂ ◌&&◌ (ap not (sym c.has-in-loop-r.ensures ∙ c.if-not-has.true)) triggers)

pub triggered-ts-requires : goal.triggered-ts-requires
triggered-ts-requires c =
    (c.requires.0.passes, λ t m. mixed_asks c.args.sheet.now t c.requires.0.judged_at (is_true _ (meet_e c.round_of-round.result.moves.next _ t (of_true m)).1))

pub loop-r-preserved : goal.loop-r-preserved
loop-r-preserved c =
    let a = c.args in
    let l = c.loop-r in
    let untaken = not (has a.o.taken a.t) in
    let quiet : (untaken && has l.ts a.t) ≡ false =
    elim c.else-not-has.branch [
      | else-not-has-via-then-not-has+else-has-2 w ↦
          ap (λ (x : Bool). untaken && x) (sym w.has-then-not-has.ensures ∙ w.if-has-2.false) ∙ and-false untaken
      | else-not-has-via-else-not-has w ↦ ap (λ (x : Bool). not x && has l.ts a.t) (sym c.has-in-loop-r.ensures ∙ w.if-not-has.false)
    ] in (
      l.invariant.0,
      round_passes l.invariant.1 (omega (arith, ap (λ (t : Tick). t.rounds) c.requires.3)) c.round_of-round.ensures (sym c.has.ensures ∙ c.if-has.false) quiet
          c.requires.0.passes c.requires.2 c.hits-hits.ensures c.requires.0.judged_at c.after_round-z.ensures c.triggered-ts.ensures,
    )

pub returns : goal.returns
returns c = asked_done c.loop-r.invariant.1 (omega (arith, ap (λ (t : Tick). t.rounds) c.requires.3))
