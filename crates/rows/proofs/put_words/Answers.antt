-- `rows::put_words` meets its contract. Assumes nothing.
use Rattle.std.proofs.Common.{sym, arith, refl}
use Rattle.rows.proofs.OverLaws.{over_nil, over_next}
use Rattle.rows.proofs.put_words.Goals as goal

pub loop-i-init : goal.loop-i-init
loop-i-init g c = sym (over_nil _ _)

pub loop-i-preserved : goal.loop-i-preserved
loop-i-preserved g c = let l = c.loop-i in let a = c.args in rw (l.invariant) (over_next a.out.now a.at a.words l.i _ (omega arith) (omega arith) refl)
