-- `decimals::reader::Reader::refuse` meets its contract. Assumes nothing.
use Rattle.std.proofs.Common.{refl}
use Rattle.decimals.specs.Reading.{refused}
use Rattle.decimals.proofs.reader.Reader.refuse.Goals as goal

pub returns : goal.returns
unfolding refused
returns c = λ words. refl
