-- `hierarchy::tree::Tree::meeting` meets its contract. Assumes nothing.
use Rattle.meaning.proofs.SheetLaws.{sound, ends_apart}
use Rattle.meaning.proofs.Containment.{ends}
use Rattle.sheet.proofs.Past.{tree_read, record_read}
use Rattle.hierarchy.proofs.tree.Tree.meeting.Goals as goal

pub meeting-requires : goal.meeting-requires
meeting-requires c =
    let a = c.args.self.now in
    let s = a.sheet.now in
    let h = a.passes in
    let e = ends s (sound s h) c.args.t c.requires in
    let apart = ends_apart s (sound s h) c.args.t c.requires in
    (tree_read s h, record_read s h c.args.t c.requires, a.has_containers, e.source_n, e.target_n, apart.0, apart.1)
