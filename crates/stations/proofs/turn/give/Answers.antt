-- `stations::turn::give` meets its contract: the turns of a station without work do nothing. Assumes nothing.
use Rattle.std.proofs.Common.{refl, sym, ap, ◌∙◌}
use Rattle.stations.specs.Serving.{served_of}
use Rattle.stations.proofs.BatchLaws.{turns_no_work}
use Rattle.stations.proofs.turn.give.Goals as goal

pub returns : goal.returns
returns c =
    let a = c.args in
    let none = sym c.has_work.ensures ∙ c.if-has_work.false in
    record {
      left = a.c.left;
      same_work = refl;
      turns = sym (turns_no_work a.table.now a.inputs.now a.c.turns _ a.out.now a.c.left none);
      schedule = c.served-schedule.ensures ∙ ap (served_of a.c a.c.left) (sym none);
    }
