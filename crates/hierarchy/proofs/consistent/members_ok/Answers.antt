-- `hierarchy::consistent::members_ok` meets its contract. Assumes nothing.
use Rattle.std.proofs.Common.{rules, ap, ◌∙◌, ◌<◌, ℕ}
use borrow.Author.Tests.{tests}
use Rattle.sets.specs.Sets.{every_in}
use Rattle.sets.proofs.Facts.{has-lt}
use Rattle.sets.proofs.Widths.{every_in_width}
use Rattle.meaning.specs.Sheet.{n_of}
use Rattle.meaning.specs.Hierarchy.{member_ok}
use Rattle.hierarchy.proofs.ConsistentLaws.{fits_32}
use Rattle.sets.proofs.MemberChains.{serves_from_members, every_in_all}
use Rattle.hierarchy.proofs.consistent.members_ok.Goals as goal

pub all-requires-clause-callable : goal.all-requires-clause-callable
all-requires-clause-callable c =
    let fits = fits_32 c.args.sheet.now c.requires.0 c.requires.1 in
    serves_from_members 32 (rw c.members.ensures fits) (λ x q k. search (rules, tests))
    (λ m h.
    let l : m < n_of c.args.sheet.now = has-lt (n_of c.args.sheet.now) c.args.x m c.requires.1 (rw c.members.ensures at h) in
    search rules)

pub returns : goal.returns
returns c =
    let s = c.args.sheet.now in
    let x = c.args.x in
    let fits = fits_32 s c.requires.0 c.requires.1 in
    every_in_all 32 (member_ok s x) _ _ c.all.result (rw c.members.ensures fits) c.all.ensures.ran (λ m b q k. search (rules, tests))
    ∙ ap (λ (y : ℕ). every_in 32 y (member_ok s x)) c.members.ensures
    ∙ every_in_width 32 (n_of s) (member_ok s x) fits c.requires.1
