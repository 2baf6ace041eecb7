-- `Image::grown` wraps the next pointer.
use Rattle.std.proofs.Common.{arith}
use Rattle.address.specs.Rules.Cases.{grown_is}
use Rattle.address.proofs.Image.grown.Goals as goal

pub returns : goal.returns
returns c = grind (arith, grown_is)
