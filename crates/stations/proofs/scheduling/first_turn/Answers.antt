-- `stations::scheduling::first_turn` meets its contract. Assumes nothing.
use Rattle.std.proofs.Common.{sym, ◌∙◌}
use Rattle.stations.proofs.ScheduleCases.{number_none, number_many, number_fits, first_layout, first_number, first_goes}
use Rattle.stations.proofs.scheduling.first_turn.Goals as goal
use Rattle.stations.proofs.scheduling.first_turn.Goals.{then-count-eq0-via-then-count-eq0, then-count-eq0-via-else-count-eq0+then-count-gt64}

pub returns-then-not-table_ok : goal.returns-then-not-table_ok
returns-then-not-table_ok c = c.stops_at.ensures ∙ sym (first_layout _ _ _ (sym c.table_ok.ensures ∙ c.if-not-table_ok.true))

pub returns-then-count-eq0 : goal.returns-then-count-eq0
returns-then-count-eq0 c =
    let first = first_number _ _ _ (sym c.table_ok.ensures ∙ c.if-not-table_ok.false) in
    elim c.then-count-eq0.branch [
      | then-count-eq0-via-then-count-eq0 w ↦ c.stops_at-then-count-eq0.ensures ∙ sym (first (number_none _ w.if-count-eq0.true))
      | then-count-eq0-via-else-count-eq0+then-count-gt64 w ↦ c.stops_at-then-count-eq0.ensures ∙ sym (first (number_many _ w.if-count-eq0.false w.if-count-gt64.true))
    ]

pub returns : goal.returns
returns c =
    sym (first_goes _ _ _ (sym c.table_ok.ensures ∙ c.if-not-table_ok.false) (number_fits _ c.if-count-eq0.false c.if-count-gt64.false))
