-- `hierarchy::tree::Tree::child_holding` meets its contract. Assumes nothing.
use Rattle.std.proofs.Common.{ap₂, ◌∙◌, arith}
use Rattle.sets.specs.Sets.{meet, lowest}
use Rattle.meaning.proofs.SheetLaws.{sound, tree, n_le}
use Rattle.sheet.proofs.Past.{mode_small}
use Rattle.sheet.proofs.ContainmentLaws.{within_word, containers_word}
use Rattle.hierarchy.proofs.TransitionLaws.{holder_mode, held_mode, held_lowest}
use Rattle.hierarchy.proofs.tree.Tree.child_holding.Goals as goal

pub offset_bounds-self-p : goal.offset_bounds-self-p
offset_bounds-self-p c =
    let h = c.args.self.now.passes in
    omega (arith, mode_small _ h _ (holder_mode _ (tree _ (sound _ h)) _ _ c.requires.0 c.requires.1))

pub bounds-self-p : goal.bounds-self-p
bounds-self-p c =
    let h = c.args.self.now.passes in
    mode_small _ h _ (holder_mode _ (tree _ (sound _ h)) _ _ c.requires.0 c.requires.1)

pub offset_bounds-self-m : goal.offset_bounds-self-m
offset_bounds-self-m c = omega (arith, mode_small _ c.args.self.now.passes _ c.requires.0)

pub bounds-self-m : goal.bounds-self-m
bounds-self-m c = mode_small _ c.args.self.now.passes _ c.requires.0

pub returns : goal.returns
returns c =
    let a = c.args.self.now in
    let p = c.requires in
    let sd = sound _ a.passes in
    let pn = holder_mode _ (tree _ sd) _ _ p.0 p.1 in
    let e = c.lowest.ensures
    ∙ ap₂ (λ x y. lowest 32 (meet x y)) (within_word _ a.within.now a.has_within _ pn) (containers_word _ a.containers.now a.has_containers _ p.0)
    ∙ held_lowest _ (tree _ sd) _ _ p.0 p.1 (n_le _ sd) in
    (e, rw e (held_mode _ (tree _ sd) _ _ p.0 p.1))
