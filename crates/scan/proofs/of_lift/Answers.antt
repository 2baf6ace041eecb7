-- `scan::of_lift`: the upper 32 bits are the quotient by 2^32.
use Rattle.scan.specs.Scan.Tally.{lift_is}
use Rattle.scan.proofs.of_lift.Goals as goal

pub returns : goal.returns
returns c = rw c.from.ensures (lift_is c.args.lift c.args.key)
