-- `simulator::state::sums_ok` meets its contract. Assumes nothing.
use Rattle.std.proofs.Common.{◌≡◌, Bool, true, eqb, ℕ, ◌+◌, ◌<◌, List, get_or, refl, sym, ap, ◌∙◌, arith}
use Rattle.sets.specs.Sets.{has}
use Rattle.sets.proofs.Tests.{is_true, of_true}
use Rattle.sets.proofs.Members.{Turn, step}
use Rattle.sets.proofs.Those.{Subset, subset_turn}
use Rattle.sets.proofs.Widths.{every_in-turn, every_in_fails, every_in_none}
use Rattle.meaning.specs.Sheet.{t_of, source}
use Rattle.meaning.specs.Check.{sheet_refusal}
use Rattle.meaning.specs.Ages.{age, sums_ok}
use Rattle.meaning.specs.Run.{reading}
use Rattle.meaning.proofs.SheetLaws.{sound, n_le, source-lt}
use Rattle.sheet.proofs.Past.{record_read}
use Rattle.simulator.proofs.state.sums_ok.Goals as goal

-- the timer at hand is a transition, and its source a mode
there : (s : List ℕ) (timers : ℕ) {rest t next : ℕ} → ((t : ℕ) → has timers t ≡ true → t < t_of s) → Subset rest timers → Turn 64 rest t next → t < t_of s
there s timers {t = t} h sub u = h t (is_true (has timers t) (sub t (of_true u.lowest.member)))

low : (s : List ℕ) {t m : ℕ} → sheet_refusal s ≡ 0 → t < t_of s → m ≡ source s t → m < 32
low s {t} ok l e = let sd = sound s ok in omega (arith, e, source-lt s sd t l, n_le s sd)

-- its sum is as it must be, or is not
abbrev test : List ℕ → List ℕ → List ℕ → List ℕ → ℕ → Bool
test s delays readings ages t = eqb (reading readings t + age ages (source s t)) (get_or delays t 0)

tested : (s delays readings ages : List ℕ) (t : ℕ) {m : ℕ} {r : Bool} → m ≡ source s t
    → r ≡ eqb (get_or readings t 0 + get_or ages m 0) (get_or delays t 0) → r ≡ test s delays readings ages t
unfolding reading age
tested s delays readings ages t e q = q ∙ ap (λ (m : ℕ). eqb (get_or readings t 0 + get_or ages m 0) (get_or delays t 0)) e

pub loop-t-init : goal.loop-t-init
loop-t-init c = let e : c.into_iter-t-iterator.result.rest ≡ c.args.timers = cc in rw e (c.ranges.timers.fits, λ i h. h, refl)

pub offset_bounds-readings-t : goal.offset_bounds-readings-t
offset_bounds-readings-t c = omega (arith, (step c.loop-t.invariant.0 c.in-Some.ensures.steps).lowest.small)

pub bounds-readings-t : goal.bounds-readings-t
bounds-readings-t c = (step c.loop-t.invariant.0 c.in-Some.ensures.steps).lowest.small

pub source-requires : goal.source-requires
source-requires c = record_read _ c.requires.0 _ (there _ _ c.requires.1 c.loop-t.invariant.1 (step c.loop-t.invariant.0 c.in-Some.ensures.steps))

pub offset_bounds-ages-source : goal.offset_bounds-ages-source
offset_bounds-ages-source c =
    let l = there _ _ c.requires.1 c.loop-t.invariant.1 (step c.loop-t.invariant.0 c.in-Some.ensures.steps) in
    omega (arith, low _ c.requires.0 l c.source.ensures)

pub bounds-ages-source : goal.bounds-ages-source
bounds-ages-source c =
    let l = there _ _ c.requires.1 c.loop-t.invariant.1 (step c.loop-t.invariant.0 c.in-Some.ensures.steps) in
    low _ c.requires.0 l c.source.ensures

pub offset_bounds-delays-t : goal.offset_bounds-delays-t
offset_bounds-delays-t c = omega (arith, (step c.loop-t.invariant.0 c.in-Some.ensures.steps).lowest.small)

pub bounds-delays-t : goal.bounds-delays-t
bounds-delays-t c = (step c.loop-t.invariant.0 c.in-Some.ensures.steps).lowest.small

pub returns-then-not-sum_ok : goal.returns-then-not-sum_ok
unfolding sums_ok
returns-then-not-sum_ok c =
    let a = c.args in
    let u = step c.loop-t.invariant.0 c.in-Some.ensures.steps in
    let e = tested a.sheet.now a.delays.now a.readings.now a.ages.now _ c.source.ensures c.sum_ok.ensures in
    sym (sym c.loop-t.invariant.2 ∙ every_in_fails (test a.sheet.now a.delays.now a.readings.now a.ages.now) u (sym e ∙ c.if-not-sum_ok.true))

pub loop-t-preserved : goal.loop-t-preserved
unfolding sums_ok
loop-t-preserved c =
    let a = c.args in
    let inv = c.loop-t.invariant in
    let u = step inv.0 c.in-Some.ensures.steps in
    let e = tested a.sheet.now a.delays.now a.readings.now a.ages.now _ c.source.ensures c.sum_ok.ensures in (
      u.fits,
      subset_turn a.timers u inv.1,
      every_in-turn (test a.sheet.now a.delays.now a.readings.now a.ages.now) u (sym e ∙ c.if-not-sum_ok.false) ∙ inv.2,
    )

pub returns : goal.returns
unfolding sums_ok
returns c =
    let a = c.args in
    sym (every_in_none 64 c.loop-t.t-iterator.rest (test a.sheet.now a.delays.now a.readings.now a.ages.now) c.in-None.ensures.steps.0)
    ∙ c.loop-t.invariant.2
