-- `planner::looks::looks_of` meets its contract. Assumes nothing.
use Rattle.std.proofs.Common.{inl, inr, arith}
use Rattle.sheet.proofs.Past.{pair_read, record_read}
use Rattle.reaction.proofs.TermLaws.{kind_word, value_word, terms_room}
use Rattle.planner.proofs.LookLaws.{event_asks, mode_asks, taken_asks, looks_start, looks_turn, looks_done}
use Rattle.planner.proofs.looks.looks_of.Goals as goal

pub offset-at-requires : goal.offset-at-requires
offset-at-requires c = pair_read _ c.requires.0 _ c.requires.1

pub overflow_add-at : goal.overflow_add-at
overflow_add-at c = omega (arith, c.offset-at.ensures, terms_room (record_read _ c.requires.0 _ c.requires.1))

pub term_count-j-end-requires : goal.term_count-j-end-requires
term_count-j-end-requires c = record_read _ c.requires.0 _ c.requires.1

pub loop-j-init : goal.loop-j-init
loop-j-init c =
    (omega (arith, c.offset-at.ensures, terms_room (record_read _ c.requires.0 _ c.requires.1)), looks_start c.args.sheet.now c.args.t)

pub events_by-events-requires : goal.events_by-events-requires
events_by-events-requires c k =
    event_asks _ c.requires.0 _ c.requires.1 c.loop-j.j (omega arith) (kind_word _ _ _ c.loop-j.j c.offset-at.ensures)
    (value_word _ _ _ c.loop-j.j c.offset-at.ensures) k

pub entry_by-entry-requires : goal.entry_by-entry-requires
entry_by-entry-requires c k =
    mode_asks _ c.requires.0 _ c.requires.1 c.loop-j.j (omega arith) (kind_word _ _ _ c.loop-j.j c.offset-at.ensures)
    (value_word _ _ _ c.loop-j.j c.offset-at.ensures) (inl k)

pub exit_by-exit-requires : goal.exit_by-exit-requires
exit_by-exit-requires c k =
    mode_asks _ c.requires.0 _ c.requires.1 c.loop-j.j (omega arith) (kind_word _ _ _ c.loop-j.j c.offset-at.ensures)
    (value_word _ _ _ c.loop-j.j c.offset-at.ensures) (inr k)

pub taken_by-taken-requires : goal.taken_by-taken-requires
taken_by-taken-requires c k =
    taken_asks _ c.requires.0 _ c.requires.1 c.loop-j.j (omega arith) (kind_word _ _ _ c.loop-j.j c.offset-at.ensures)
    (value_word _ _ _ c.loop-j.j c.offset-at.ensures) k

pub loop-j-preserved : goal.loop-j-preserved
loop-j-preserved c =
    let l = c.loop-j in (
      l.invariant.0,
      looks_turn _ _ l.j _ _ _ _ (kind_word _ _ _ l.j c.offset-at.ensures) (value_word _ _ _ l.j c.offset-at.ensures) l.invariant.1
          c.events_by-events.ensures c.entry_by-entry.ensures c.exit_by-exit.ensures c.taken_by-taken.ensures,
    )

pub returns : goal.returns
returns c = looks_done c.args.sheet.now c.args.t c.loop-j.invariant.1 (omega arith)
