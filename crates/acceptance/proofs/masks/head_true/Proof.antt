-- `acceptance::masks::head_true` meets its contract: the tests of a head in the code's order, each way out knows which passed. Assumes
-- nothing.
use mathlib.Core.Path.{◌≡◌, refl, sym, ◌∙◌}
use mathlib.Core.Logic.{⊎_elim}
use mathlib.Core.Bool.{true}
use Prim.Native.Nat.{◌<◌}
use native.Mathlib.Omega.{arith}
use borrow.Author.Rules.{rules}
use lib.ListN.{length}
use Rattle.sets.proofs.Tests.{of_false}
use Rattle.sets.proofs.Loops.{passed, failed}
use Rattle.meaning.specs.Table.{timers_in}
use Rattle.table.proofs.Places.{timers_read}
use Rattle.table.proofs.LayoutFacts.{head_sound, b_le}
use Rattle.meaning.specs.Faithful.{head_faithful}
use Rattle.acceptance.proofs.MaskLaws.{masks_length, part_distinct, timers_inside, head_fails, head_i, noted_next}
use Rattle.acceptance.proofs.masks.head_true.Statement.{statement}
use Rattle.acceptance.proofs.masks.head_true.Tie as tie

-- the function's entry, from where the mask is judged; that place from where its place is known; that place from the last test
abbrev entry : tie.After-is_consistent → tie.Start
entry c = c.before.before.before.before.before.before

abbrev judged : tie.After-place → tie.After-is_consistent
judged c = c.before.before.before

abbrev placed : tie.After-running → tie.After-place
placed c = c.before.before.before.before

-- block b is there
few : (c : tie.Start) → c.args.b < 4096
few c = omega (arith, c.requires.1, b_le _ c.requires.0.shape)

inside : (c : tie.Start) → c.args.b < length c.args.masks.now
inside c = omega (arith, c.requires.1, masks_length c.requires.0)

timers-are : (c : tie.After-running) → let a = (entry (judged (placed c))).args in c.timers_at.result ≡ timers_in a.table.now a.b
timers-are c = timers_read _ _ c.offset.ensures c.timers_at.ensures

mul-mask : tie.Need-offset_bounds-masks-b
mul-mask c = let q = few c.before.before.before.before in search rules

shared-slice-read-mask : tie.Need-bounds-masks-b
shared-slice-read-mask c = inside c.before.before.before.before.before

is-consistent-requires : tie.Need-is_consistent-requires
is-consistent-requires c κs = search rules

sub-place : tie.Need-slice_bounds-place-count
sub-place c = search rules

part-place-start : tie.Need-slice_bounds-place-start
part-place-start c = search rules

part-place-end : tie.Need-slice_bounds-place-end
part-place-end c = omega (arith, inside (entry c.before))

place-requires : tie.Need-place-requires
place-requires c κs = let n = (entry c.before.before).requires.0 in (part_distinct n, n.indexed, n.sized)

sub-if2 : tie.Need-overflow_sub-b
sub-if2 c = search rules

returns : tie.Need-returns-then-not-is_consistent
returns c =
    let s = entry c.before in
    let fails = head_fails s.requires.0 s.requires.1 (λ q.
    ⊎_elim
    (λ v. of_false (failed c.is_consistent.ensures v.if-not-is_consistent.true-raw) q.0)
    (λ v. omega (arith, v.place.ensures.0, q.1))
    c.then-not-is_consistent.branch-raw) in
    (fails, λ h. absurd h)

offset-requires : tie.Need-offset-requires
offset-requires c κs = let s = entry (judged c.before) in (head_sound _ s.requires.0.shape, s.requires.1)

timers-at-requires : tie.Need-timers_at-requires
timers-at-requires c κs =
    let s = entry (judged c.before.before) in
    omega (arith, c.offset.ensures, timers_inside s.requires.0 s.requires.1)

running-requires : tie.Need-running-requires
running-requires c κs = search rules

same_length : tie.Need-shape_of-hints-then-timers_at-running
same_length c = search rules

returns-2 : tie.Need-returns-then-timers_at-running
returns-2 c =
    let r = c.before in
    let s = entry (judged (placed r)) in
    (head_fails s.requires.0 s.requires.1 (λ q. c.if-timers_at-running.true (timers-are r ∙ q.2 ∙ sym r.running.ensures)), λ h. absurd h)

cast-note : tie.Need-overflow_cast-b
cast-note c = let q = few (entry (judged (placed c.before.before))) in search rules

note-requires : tie.Need-note-requires
note-requires c κs = search rules

same-length-2 : tie.Need-shape_of-hints
same-length-2 c = search rules

returns-3 : tie.Need-returns
returns-3 c =
    let n = c.before.before in
    let r = n.before.before.before in
    let p = placed r in
    let s = entry (judged p) in
    let yes : head_faithful s.args.sheet.now s.args.table.now s.args.b ≡ true =
    head_i s.requires.0 s.requires.1
    (passed (judged p).is_consistent.ensures p.if-not-is_consistent.false-raw)
    (omega (arith, p.place.ensures.0))
    (sym (timers-are r) ∙ n.if-timers_at-running.false ∙ r.running.ensures) in
    (sym yes, λ _. noted_next s.requires.0 s.requires.1 yes refl n.note.ensures)

pub head_true_spec : {M : Type 1} → statement M
head_true_spec =
    tie.close
    (tie.spec mul-mask shared-slice-read-mask is-consistent-requires sub-place part-place-start part-place-end place-requires sub-if2
    returns offset-requires timers-at-requires running-requires same_length returns-2 cast-note note-requires same-length-2 returns-3)
