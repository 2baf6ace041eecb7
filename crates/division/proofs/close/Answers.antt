-- `division::close` writes the head and then lends the unused slots, which come back as zeros.
use Rattle.bucket.specs.Region.Divide.{close_written}
use Rattle.division.proofs.close.Goals as goal

pub returns : goal.returns
returns c = search close_written
