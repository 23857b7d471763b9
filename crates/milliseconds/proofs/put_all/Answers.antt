-- `milliseconds::put_all` meets its contract. Assumes nothing.
use Rattle.std.proofs.Common.{refl, sym, ap, ◌∙◌, arith, length}
use Rattle.rows.proofs.OverLaws.{length_over}
use Rattle.milliseconds.proofs.ConversionLaws.{put_turn, put_end}
use Rattle.milliseconds.proofs.put_all.Goals as goal

pub loop-i-init : goal.loop-i-init
loop-i-init c = (refl, refl)

pub loop-i-preserved : goal.loop-i-preserved
loop-i-preserved c =
    let a = c.args in
    let l = c.loop-i in
    let p = c.put_pair in (
      ap length p.ensures ∙ length_over l.results _ _ (omega arith) ∙ l.invariant.0,
      put_turn a.tick a.delays.now l.i l.results (omega arith) (omega arith) p.ensures refl refl ∙ l.invariant.1,
    )

pub returns : goal.returns
returns c = sym (put_end c.args.tick c.args.delays.now c.loop-i.i c.loop-i.results (omega arith)) ∙ c.loop-i.invariant.1
