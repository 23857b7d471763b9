-- `native::put_reason` meets its contract. Assumes nothing.
use Rattle.std.proofs.Common.{[], ◌∷◌, refl}
use Rattle.native.proofs.CallLaws.{sets_front}
use Rattle.native.proofs.put_reason.Goals as goal

pub returns : goal.returns
returns c = (refl, sets_front (c.args.reason ∷ c.args.first ∷ c.args.second ∷ []) c.args.info.now c.requires)
