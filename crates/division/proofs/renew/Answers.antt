-- `division::renew`: a region closed without a ride is an empty bucket's bytes.
use Rattle.bucket.specs.Region.Divide.{emptied}
use Rattle.division.proofs.renew.Goals as goal

pub returns : goal.returns
returns c = search emptied
