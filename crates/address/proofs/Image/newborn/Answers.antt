-- `Image::newborn` is the child of the bucket at the pointer.
use Rattle.std.proofs.Common.{arith}
use Rattle.address.specs.Rules.Cases.{child_is, newborn_is}
use Rattle.address.proofs.Image.newborn.Goals as goal

pub returns : goal.returns
returns c = grind (arith, child_is, newborn_is)
