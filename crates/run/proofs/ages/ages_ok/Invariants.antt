-- The ages of the modes passed are as they must be, and added up (`Adding`).
use lib.Dec.{leb}
use Rattle.meaning.specs.Ages.{age}
use Rattle.run.proofs.SumLaws.{Adding}
use Rattle.run.proofs.ages.ages_ok.Given as goal

abbrev pub invariant-loop-m : goal.invariant-loop-m
invariant-loop-m l = Adding 32 l.active (λ m. leb (age l.ages m) 65535) (age l.ages) l.sum l.m-iterator.rest
