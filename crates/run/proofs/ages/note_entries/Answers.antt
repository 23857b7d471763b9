-- `run::ages::note_entries` meets its contract: its entries are looked for in the words, or stored. Assumes nothing.
use Rattle.std.proofs.Common.{◌≡◌, ℕ, ◌+◌, ◌*◌, List, ◌∷◌, length, sym, ap, ap₂, ◌∙◌}
use Rattle.rows.specs.Over.{over}
use Rattle.meaning.proofs.ListLaws.{row_from-length}
use Rattle.run.specs.Entries.{entered_at, limits_by}
use Rattle.run.proofs.EntryLaws.{limits_turn, limits_noted, entered_none}
use Rattle.run.proofs.ages.note_entries.Goals as goal

pub returns-then-active-ne0 : goal.returns-then-active-ne0
returns-then-active-ne0 c =
    let a = c.args in
    let limits : List ℕ → List ℕ = λ out. limits_by a.limits.now out a.seen a.i in
    let none = sym c.minus-late.ensures ∙ c.if-late-eq0.true in (
      λ out ws four room.
          limits_turn a.limits.now out a.i a.seen a.entered ws four room
          ∙ ap (entered_at a.entered (a.i + 1)) (sym (ap (λ (late : ℕ). entered_at late a.i (limits out)) none
          ∙ entered_none a.i (limits out) (row_from-length _ 0 32))),
      c.requires.0,
    )

pub returns : goal.returns
returns c =
    let a = c.args in
    let late = c.minus-late.result in
    let stored : c.enter-2.new.limits ≡ entered_at a.entered (a.i + 1) (entered_at late a.i a.limits.now) =
    c.enter-2.ensures ∙ ap (entered_at a.entered (a.i + 1)) c.enter.ensures in (
      λ out ws four room.
          ap₂ (λ (x : List ℕ) (y : ℕ). limits_by x (over out (5 * a.i) (a.entered ∷ ws)) y (a.i + 1)) stored c.minus.ensures
          ∙ limits_noted a.limits.now out a.i a.seen a.entered late ws four room
          ∙ ap (λ (x : ℕ). entered_at a.entered (a.i + 1) (entered_at x a.i (limits_by a.limits.now out a.seen a.i))) c.minus-late.ensures,
      ap length stored ∙ row_from-length _ 0 32,
    )
