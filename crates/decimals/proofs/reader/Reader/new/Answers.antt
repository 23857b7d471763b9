-- `decimals::reader::Reader::new` meets its contract. Assumes nothing.
use Rattle.std.proofs.Common.{refl}
use Rattle.decimals.specs.Reading.{begun}
use Rattle.decimals.proofs.reader.Reader.new.Goals as goal

pub returns : goal.returns
unfolding begun
returns c = λ words. refl
