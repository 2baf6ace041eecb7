-- `address::child` is one span further.
use Rattle.std.proofs.Common.{arith}
use Rattle.address.specs.Rules.Cases.{child_is}
use Rattle.address.proofs.child.Goals as goal

pub returns : goal.returns
returns c = grind (arith, child_is)
