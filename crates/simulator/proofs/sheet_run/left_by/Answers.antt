-- `simulator::sheet_run::left_by` meets its contract. Assumes nothing.
use Rattle.std.proofs.Common.{◌≡◌, ℕ, ◌%◌, ◌^◌, ap, ap₂, ◌∙◌}
use Rattle.sets.specs.Sets.{union, meet, minus}
use Rattle.reaction.specs.Plan.{sources_in}
use Rattle.reaction.proofs.PlanLaws.{running_meet}
use Rattle.simulator.proofs.LiveLaws.{sources_moved}
use Rattle.simulator.proofs.sheet_run.left_by.Goals as goal

pub returns : goal.returns
returns c =
    let a = c.args in
    let sources = sources_in a.sheet.now in
    let entered = a.o.changed % 2 ^ 32 in
    let gained : c.from_set-gained.result ≡ sources entered = c.from_set-gained.ensures ∙ ap sources c.low-entered.ensures in
    let gone : c.from_set-lost.result ≡ sources (minus (union a.x entered) a.o.modes) =
    c.from_set-lost.ensures ∙ ap sources (c.minus.ensures ∙ ap (λ (e : ℕ). minus (union a.x e) a.o.modes) c.low-entered.ensures) in
    let live : c.minus-now.result ≡ sources a.o.modes =
    c.minus-now.ensures ∙ ap₂ minus (ap₂ union c.requires.1 gained) gone ∙ sources_moved a.sheet.now a.x entered a.o.modes c.requires.2 in
    (live, ap₂ meet gained (ap₂ meet live c.requires.0.timing_at ∙ running_meet a.sheet.now a.o.modes))
