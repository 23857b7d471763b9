-- `stations::turn::look` meets its contract. Assumes nothing.
use Rattle.std.proofs.Common.{◌≡◌, refl, ap, ap₂, ◌∙◌, Bool, ◌&&◌, ℕ, ◌<◌, arith, length, get_or}
use Rattle.stations.specs.Serving.{looked_of, parts_within}
use Rattle.stations.proofs.PartLaws.{every_apart_same}
use Rattle.stations.proofs.turn.look.Goals as goal

pub returns : goal.returns
returns c =
    let few = c.requires.0.few in
    let here = c.requires.0.here in
    let a = c.args in
    let front : (i : ℕ) → i < 256 → get_or c.note_table.new.work i 0 ≡ get_or a.work.now i 0 = c.note_table.ensures.1 in
    let same = every_apart_same a.work.now c.note_table.new.work a.s a.c.at (λ i k. front i (omega arith)) in
    record {
      station = refl;
      same_out = refl;
      noted = rw c.put_parts.ensures.2 c.note_table.ensures.0;
      others = λ i k. c.put_parts.ensures.1 i k ∙ front i (omega arith);
      parts = c.put_parts.ensures.0;
      schedule =
          c.looked.ensures
          ∙ ap₂ (looked_of a.c)
          (c.parts_well-well.ensures ∙ ap (λ (x : Bool). parts_within (length a.inputs.now) (length a.out.now) a.s && x) same)
          c.has_work.ensures;
    }
