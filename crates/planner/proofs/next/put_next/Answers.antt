-- `planner::next::put_next` meets its contract. Assumes nothing.
use Rattle.std.proofs.Common.{refl}
use Rattle.planner.proofs.NextLaws.{events_done, named_done, taken_done, entries_done, exits_done}
use Rattle.planner.proofs.next.put_next.Goals as goal

pub join_next-requires : goal.join_next-requires
join_next-requires c =
    let s = c.args.sheet.now in
    let h = c.requires.0 in
    let d = c.put_looks-events.ensures in
    (h, c.requires.2, entries_done s h d c.requires.1, exits_done s h d refl _ c.union_within.ensures, taken_done s h d c.requires.3)

pub returns : goal.returns
returns c =
    let s = c.args.sheet.now in
    let d = c.put_looks-events.ensures in
    (events_done s c.requires.0 d, c.join_next.ensures, named_done s c.requires.0 d)
