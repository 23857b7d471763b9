-- `stations::turn::note_table` meets its contract. Assumes nothing.
use Rattle.std.proofs.Common.{arith}
use Rattle.sets.proofs.Tests.{of_true}
use Rattle.rows.proofs.OverLaws.{lent_length}
use Rattle.table.proofs.LayoutFacts.{shape_of, b_le}
use Rattle.stations.proofs.TurnLaws.{rest_is, front_is}
use Rattle.stations.proofs.turn.note_table.Goals as goal

pub put_notes-requires : goal.put_notes-requires
put_notes-requires c =
    let w = c.args.table.now in
    let h = c.requires.1 in
    (c.requires.0, omega (arith, lent_length c.args.work.now 256 (omega arith), b_le w (shape_of w (of_true c.requires.0))))

pub returns-then-at-eq0 : goal.returns-then-at-eq0
returns-then-at-eq0 c =
    let l = c.args.work.now in
    let h = c.requires.1 in
    let part = c.put_notes.new.notes in
    (rw (rest_is 256 l part (omega arith)) c.put_notes.ensures, front_is 256 l part (omega arith))
