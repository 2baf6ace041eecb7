-- `address::Home::keeps`: a key belongs where its hash is the bucket's number.
use Rattle.std.proofs.Common.{arith}
use Rattle.address.specs.Rules.Cases.{keeps_is}
use Rattle.address.proofs.Home.keeps.Goals as goal

pub returns : goal.returns
returns c = grind (arith, keeps_is)
