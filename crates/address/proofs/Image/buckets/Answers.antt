-- `Image::buckets` is the span and the pointer.
use Rattle.std.proofs.Common.{arith}
use Rattle.address.specs.Rules.Cases.{buckets_is}
use Rattle.address.proofs.Image.buckets.Goals as goal

pub returns : goal.returns
returns c = grind (arith, buckets_is)
