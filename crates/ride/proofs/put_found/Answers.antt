-- `ride::put_found` writes a block without a payload, and then the payload over its last bytes.
use Rattle.ride.specs.Call.After.{found_written}
use Rattle.ride.proofs.put_found.Goals as goal

pub returns : goal.returns
returns c = search found_written
