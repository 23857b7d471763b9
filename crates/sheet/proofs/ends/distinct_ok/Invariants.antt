-- `sheet::ends::distinct_ok`: no transition below t shares its ends with a lower one, and the words are their targets. Assumes nothing.
use Rattle.std.proofs.Common.{◌≡◌, false, length}
use Rattle.sets.specs.Sets.{some}
use Rattle.meaning.specs.Check.{shares_ends}
use Rattle.sheet.proofs.EndsLaws.{TargetsTo}
use Rattle.sheet.proofs.ends.distinct_ok.Given as goal

abbrev pub invariant-loop-t : goal.invariant-loop-t
invariant-loop-t l = (length l.targets ≡ 32) × (some l.t (shares_ends l.fn.sheet) ≡ false) × TargetsTo l.fn.sheet l.t l.targets
